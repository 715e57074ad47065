-- What a shelf holds: files by their paths, where it tells them.
use Rattle.std.specs.Prelude.{◌≡◌, ℕ, ◌+◌, List, take, Option, Some, None, ⊤, option_map, find}
use Rattle.std.specs.Str.{bytes_eq}
use Rattle.pa_desk.specs.declared.shelf.TheConstants.{MOST_FETCHED}

-- how many bytes a caller asks for at most
abbrev pub most_fetched : ℕ
most_fetched = MOST_FETCHED

-- files in order, each a path and its content
abbrev pub Files : Type 0
Files = List (List ℕ × List ℕ)

-- the content at a path: that of the first file with this path
abbrev pub content_at : List ℕ → Files → Option (List ℕ)
content_at path files = option_map (λ file. file.1) (find (λ file. bytes_eq file.0 path) files)

-- where the files are told, something is at the path, and the bytes are its content as far as most + 1 bytes
abbrev pub GivesFront : Option Files → List ℕ → ℕ → List ℕ → Type 0
GivesFront None path most bytes = ⊤
GivesFront (Some files) path most bytes = option_map (take (most + 1)) (content_at path files) ≡ Some bytes

-- the files are told, and nothing is at the path
abbrev pub IsMissing : Option Files → List ℕ → Type 0
IsMissing None path = ⊥
IsMissing (Some files) path = content_at path files ≡ None
