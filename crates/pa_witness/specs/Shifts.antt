-- Weights by which terms are shifted, as they are printed, and the rows that are left.
use Rattle.std.specs.Prelude.{ℕ, List, [], ◌∷◌, drop, pos, ◌<ℤ◌}
use Rattle.pa_ring.specs.Sums.{SameNumbers}
use Rattle.pa_meaning.specs.Rows.{Row, front_row}
use Rattle.pa_meaning.specs.Weights.{Weights, NoneNegative, AllPlaced}
use Rattle.pa_meaning.specs.Shifting.{shifted}

-- The weights equal the term in the columns behind the first n, as it is printed: the shifted row has 0 there.
pub record ShiftHolds (n : ℕ) (rows : List Row) (t : Row) (w : Weights) : Type 0 where
  pub positive : pos 0 <ℤ w.den
  pub weights : NoneNegative w.parts
  pub places : AllPlaced w.parts rows
  pub gone : SameNumbers (drop n (shifted t rows w).c) []

-- weights for each term, and what is left of the terms over the first n columns
abbrev pub ShiftsHold : ℕ → List Row → List Row → List Weights → Type 0
ShiftsHold n rows [] [] = Unit {0}
ShiftsHold n rows [] (w ∷ ws) = ⊥
ShiftsHold n rows (t ∷ ts) [] = ⊥
ShiftsHold n rows (t ∷ ts) (w ∷ ws) = ShiftHolds n rows t w × ShiftsHold n rows ts ws

abbrev pub shifted_rows : ℕ → List Row → List Row → List Weights → List Row
shifted_rows n rows [] ws = []
shifted_rows n rows (t ∷ ts) [] = []
shifted_rows n rows (t ∷ ts) (w ∷ ws) = front_row n (shifted t rows w) ∷ shifted_rows n rows ts ws
