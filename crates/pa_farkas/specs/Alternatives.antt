-- What the answers on a list of rows say, of rows, points and weights alone: a row is implied, a point breaks it, or no point meets the rows
-- (J. Farkas, Theorie der einfachen Ungleichungen, 1902).
use Rattle.std.specs.Prelude.{◌≡◌, ℕ, pos, ◌<ℤ◌, ◌≤ℤ◌, ◌*ℤ◌, ◌↔◌, List, length, Option, None, Some}
use Rattle.pa_meaning.specs.Rows.{Row, Point, Meets, MeetsAll, Breaks}
use Rattle.pa_meaning.specs.Weights.{Weights, Proves, combined, impossible}
use Rattle.pa_meaning.specs.Directions.{Makes}
use Rattle.pa_witness.specs.Thinning.{Dropped, ThinningHolds, thinned}
use Rattle.pa_farkas.specs.declared.implication.Verdict.{Verdict}
use Rattle.pa_farkas.specs.declared.implication.Verdict.TheVariants.{Yes, Empty, No}
use Rattle.pa_farkas.specs.declared.base.Feasibility.{Feasibility}
use Rattle.pa_farkas.specs.declared.base.Feasibility.TheVariants as feasible

-- each point that meets the rows meets the row
abbrev pub IsImplied : List Row → Row → Type 0
IsImplied rows row = (x : Point) → pos 0 <ℤ x.q → MeetsAll rows x → Meets row x

-- no point meets the rows
abbrev pub AreUnmet : List Row → Type 0
AreUnmet rows = (x : Point) → pos 0 <ℤ x.q → MeetsAll rows x → ⊥

-- the point, over n columns, meets the rows
pub record IsMetAt (n : ℕ) (rows : List Row) (x : Point) : Type 0 where
  pub positive : pos 0 <ℤ x.q
  pub columns : length x.p ≡ n
  pub meets : MeetsAll rows x

-- the point meets the rows and breaks the row
pub record BreaksAt (rows : List Row) (row : Row) (x : Point) : Type 0 where
  pub met : IsMetAt (length row.c) rows x
  pub broken : Breaks row x

-- the weights prove the row, and so it is implied
pub record ShowsImplied (rows : List Row) (row : Row) (w : Weights) : Type 0 where
  pub proves : Proves w rows row
  pub implied : IsImplied rows row

-- the weights prove `0 <= -1`, and so no point meets the rows
pub record ShowsUnmet (n : ℕ) (rows : List Row) (w : Weights) : Type 0 where
  pub proves : Proves w rows (impossible n)
  pub unmet : AreUnmet rows

-- what a verdict says of the rows and the row
abbrev pub IsVerdict : List Row → Row → Verdict → Type 0
IsVerdict rows row (Yes w) = ShowsImplied rows row w
IsVerdict rows row (Empty w) = ShowsUnmet (length row.c) rows w
IsVerdict rows row (No x) = BreaksAt rows row x

-- what an answer says of rows over n columns
abbrev pub IsFeasibility : ℕ → List Row → Feasibility → Type 0
IsFeasibility n rows (feasible.Point x) = IsMetAt n rows x
IsFeasibility n rows (feasible.Empty w) = ShowsUnmet n rows w

-- the weights make the row's coefficients, with at most its bound
pub record MakesWithin (w : Weights) (rows : List Row) (row : Row) : Type 0 where
  pub makes : Makes w rows row
  pub bound : (combined w.parts rows).b ≤ℤ (w.den *ℤ row.b)

-- some weights do
abbrev pub IsCovered : List Row → Row → Type 0
IsCovered rows row = (w : Weights) × MakesWithin w rows row

-- Weights are found exactly where the row is covered, and these prove it. They may be a ray, with which a cover has any bound below its own.
abbrev pub IsCover : List Row → Row → Option Weights → Type 0
IsCover rows row (Some w) = ShowsImplied rows row w × IsCovered rows row
IsCover rows row None = IsCovered rows row → ⊥

-- the rows that stay of a list, and the rows that were dropped with the weights of each
pub record Thinning : Type 0 where
  pub rows : List Row
  pub drops : List Dropped

-- The rows are those of a thinning with these drops, which the weights of each show. So at a point that meets the context they are met exactly
-- where the given rows are.
pub record IsThinning (n : ℕ) (rows context : List Row) (t : Thinning) : Type 0 where
  pub rows_are : t.rows ≡ thinned n rows t.drops
  pub holds : ThinningHolds n rows context t.drops
  pub points : (x : Point) → pos 0 <ℤ x.q → MeetsAll context x → MeetsAll t.rows x ↔ MeetsAll rows x
