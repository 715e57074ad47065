-- What an elimination means at points, and what holds of its steps as they are printed: by sums alone.
use Rattle.std.specs.Prelude.{◌≡◌, ◌↔◌, ℕ, ◌<◌, List, [], ◌∷◌, map, pos, ◌<ℤ◌, nat_eq, All}
use Rattle.std.specs.List.{IsDistinct}
use Rattle.pa_meaning.specs.Rows.{Row, Point, MeetsAll}
use Rattle.pa_witness.specs.Certificates.{Dropped, Step}
use Rattle.pa_witness.specs.Thinning.{thinned, ThinningHolds}
use Rattle.pa_witness.specs.Steps.{Two}
use Rattle.pa_witness.specs.Columns.{ExtendsAt, projected_columns, ColumnStepsHold}
use Rattle.pa_elim.specs.Projecting.{Projection, in_turn}

-- different columns of n
pub record AreColumns (n : ℕ) (gone : List ℕ) : Type 0 where
  pub distinct : IsDistinct nat_eq gone
  pub placed : All (λ k. k < n) gone

-- a point meets the new rows exactly where some extension of it, in the columns that went, meets the old ones
abbrev pub IsProjection : List ℕ → List Row → List Row → Type 0
IsProjection gone old new =
    (x : Point) → pos 0 <ℤ x.q → MeetsAll new x ↔ ((y : Point) × ExtendsAt (in_turn gone) x y × MeetsAll old y)

-- the drops of each step
abbrev pub drops_of : List Step → List (List Dropped)
drops_of steps = map (λ s. s.drops) steps

-- the rows over n columns, thinned by the first step's drops, and then without these columns, each list thinned by its own
abbrev pub rows_by : ℕ → List Row → List ℕ → List Step → List Row
rows_by n rows ks [] = rows
rows_by n rows ks (s ∷ steps) = projected_columns Two n (thinned n rows s.drops) ks (drops_of steps)

-- the drops of the given rows hold, and there is a step for each column, with no more rows than the limit allows, whose drops hold
abbrev pub StepsAreShown : ℕ → ℕ → List Row → List ℕ → List Step → Type 0
StepsAreShown limit n rows ks [] = ⊥
StepsAreShown limit n rows ks (s ∷ steps) = ThinningHolds n rows [] s.drops × ColumnStepsHold Two limit n (thinned n rows s.drops) ks (drops_of steps)

-- The steps show the elimination of these columns, each by its place when its turn comes, and the rows are what they leave.
pub record HoldsAsProjected (limit n : ℕ) (rows : List Row) (ks : List ℕ) (p : Projection) : Type 0 where
  pub steps : StepsAreShown limit n rows ks p.steps
  pub left : p.rows ≡ rows_by n rows ks p.steps
