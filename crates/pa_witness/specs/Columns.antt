-- Several columns of a list of rows eliminated one after another, each list thinned.
use Rattle.std.specs.Prelude.{ℕ, pred, ◌≤◌, List, [], ◌∷◌, pos, ◌<ℤ◌}
use Rattle.pa_ring.specs.Sums.{SameNumbers, times, without}
use Rattle.pa_meaning.specs.Rows.{Row, Point}
use Rattle.pa_witness.specs.Thinning.{Dropped, thinned, ThinningHolds}
use Rattle.pa_witness.specs.Steps.{Version, stepped, step_count}

-- the list without the number at each place, one after another: each place is one of the list that is left then
abbrev pub without_each : {A : Type 0} → List ℕ → List A → List A
without_each [] xs = xs
without_each (k ∷ ks) xs = without_each ks (without k xs)

-- the point y has more columns, at these places, and the same fractions in the others
pub record ExtendsAt (ks : List ℕ) (x y : Point) : Type 0 where
  pub positive : pos 0 <ℤ y.q
  pub agrees : SameNumbers (times x.q (without_each ks y.p)) (times y.q x.p)

-- the rows over n columns, with these columns eliminated in order, and each list thinned by its drops
abbrev pub projected_columns : Version → ℕ → List Row → List ℕ → List (List Dropped) → List Row
projected_columns v n rows [] steps = rows
projected_columns v n rows (k ∷ ks) [] = rows
projected_columns v n rows (k ∷ ks) (drops ∷ steps) =
    projected_columns v (pred n) (thinned (pred n) (stepped v k rows) drops) ks steps

-- there is a step for each column, its number of rows is within the limit, and its drops hold
abbrev pub ColumnStepsHold : Version → ℕ → ℕ → List Row → List ℕ → List (List Dropped) → Type 0
ColumnStepsHold v most n rows [] [] = Unit {0}
ColumnStepsHold v most n rows [] (drops ∷ steps) = ⊥
ColumnStepsHold v most n rows (k ∷ ks) [] = ⊥
ColumnStepsHold v most n rows (k ∷ ks) (drops ∷ steps) =
    (step_count v k rows ≤ most) × ThinningHolds (pred n) (stepped v k rows) [] drops
    × ColumnStepsHold v most (pred n) (thinned (pred n) (stepped v k rows) drops) ks steps
