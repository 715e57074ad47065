-- How many columns the rows of a step have.
use Rattle.std.proofs.Common.{◌≡◌, ℕ, zero, suc, ◌<◌, ◌+◌, List, [], ◌∷◌, length, arith}
use lib.IntN.{ℤ}
use Rattle.pa_ring.specs.Sums.{without}

-- a row without a column that it has
pub length-without : (k : ℕ) (xs : List ℤ) → k < length xs → length (without k xs) + 1 ≡ length xs
length-without k [] h = absurd (omega arith)
length-without zero (x ∷ xs) h = omega arith
length-without (suc k) (x ∷ xs) h = let e = length-without k xs (omega arith) in omega arith
