-- What a put does to the bytes that a sink has taken, where it tells them.
use Rattle.std.specs.Prelude.{◌≡◌, ℕ, ◌<◌, ◌≤◌, List, ◌++◌, take, length, Option, Result, MatchResult, option_map}

-- the told bytes, and then these; a sink that does not tell goes on not telling
abbrev pub with_bytes : Option (List ℕ) → List ℕ → Option (List ℕ)
with_bytes told bytes = option_map (λ xs. xs ++ bytes) told

-- n bytes of the front of a piece were taken, and at least one of a piece that is not empty
pub record IsFrontTaken (old new : Option (List ℕ)) (piece : List ℕ) (n : ℕ) : Type 0 where
  pub within : n ≤ length piece
  pub some : 0 < length piece → 0 < n
  pub bytes : new ≡ with_bytes old (take n piece)

-- a put takes a front of as many bytes as `Ok` says, and nothing at `Err`
abbrev pub TakesFront : {E : Type 0} → Option (List ℕ) → Option (List ℕ) → Result ℕ E → List ℕ → Type 0
TakesFront old new result piece = MatchResult result (λ n. IsFrontTaken old new piece n) (λ _. new ≡ old)

-- some front of the bytes was taken, and nothing else
abbrev pub TookPrefix : Option (List ℕ) → Option (List ℕ) → List ℕ → Type 0
TookPrefix old new bytes = (n : ℕ) × (n ≤ length bytes) × (new ≡ with_bytes old (take n bytes))
