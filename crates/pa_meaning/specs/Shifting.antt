-- A term less weighted rows, so that nothing of it is left in the columns that go.
use Rattle.std.specs.Prelude.{ℕ, List, [], drop, pos, negsuc, ◌<ℤ◌}
use Rattle.pa_ring.specs.Sums.{SameNumbers}
use Rattle.pa_meaning.specs.Rows.{Row, row_sum, primitive}
use Rattle.pa_meaning.specs.Weights.{Weights, combined, NoneNegative, AllPlaced}

-- the term less the weighted rows, times the denominator: what is left to ask of a point that meets the rows
abbrev pub less_weighted : Row → List Row → Weights → Row
less_weighted t rows w = row_sum w.den t (negsuc 0) (combined w.parts rows)

abbrev pub shifted : Row → List Row → Weights → Row
shifted t rows w = primitive (less_weighted t rows w)

-- The weights equal the term in the columns behind the first n, so that nothing of it is left there.
pub record Leaves (n : ℕ) (rows : List Row) (t : Row) (w : Weights) : Type 0 where
  pub positive : pos 0 <ℤ w.den
  pub weights : NoneNegative w.parts
  pub places : AllPlaced w.parts rows
  pub gone : SameNumbers (drop n (less_weighted t rows w).c) []
