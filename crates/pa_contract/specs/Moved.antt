-- Rows over the columns of other names.
use Rattle.std.specs.Prelude.{◌≡◌, ◌↔◌, List, true, All}
use Rattle.std.specs.List.{list_any, IsDistinct}
use Rattle.std.specs.Str.{bytes_eq}
use Rattle.pa_meaning.specs.Rows.{Row, MeetsAll}
use Rattle.pa_meaning.specs.Contracts.{Name, Behaviour, point_over}

-- where these names are all among wider ones, a behaviour meets the moved rows over the wider names exactly where it
-- meets the rows over their own
abbrev pub SayTheSame : List Name → List Name → List Row → List Row → Type 0
SayTheSame names wider rows moved = IsDistinct bytes_eq wider → All (λ n. list_any (bytes_eq n) wider ≡ true) names
    → (v : Behaviour) → MeetsAll moved (point_over wider v) ↔ MeetsAll rows (point_over names v)
