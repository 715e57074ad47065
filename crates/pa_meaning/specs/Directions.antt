-- Directions that show that no weights exist, and rows as sums of others.
use Rattle.std.specs.Prelude.{ℕ, List, ℤ, pos, ◌≤ℤ◌, ◌<ℤ◌, All}
use Rattle.pa_ring.specs.Sums.{SameNumbers, dot, times}
use Rattle.pa_meaning.specs.Rows.{Row}
use Rattle.pa_meaning.specs.Weights.{Weights, combined, NoneNegative, AllPlaced}

-- Along the direction no row of the list rises, and the row t does. So one can walk along it for ever inside the list, and
-- in the end breaks t.
pub record Sticks (d : List ℤ) (rows : List Row) (t : Row) : Type 0 where
  pub level : All (λ r. dot r.c d ≤ℤ pos 0) rows
  pub rises : pos 0 <ℤ dot t.c d

-- the weights make the row's coefficients of these rows
pub record Makes (w : Weights) (rows : List Row) (t : Row) : Type 0 where
  pub positive : pos 0 <ℤ w.den
  pub weights : NoneNegative w.parts
  pub places : AllPlaced w.parts rows
  pub coefficients : SameNumbers (combined w.parts rows).c (times w.den t.c)

-- an assumption of a part for which no weights exist, and the direction that shows it
pub record Stuck : Type 0 where
  pub part : ℕ
  pub row : ℕ
  pub direction : List ℤ
