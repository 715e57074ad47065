-- What private functions find on the way of an elimination. No public clause names one of these.
use Rattle.std.specs.Prelude.{◌≡◌, ℕ, pred, ◌<◌, ◌≤◌, List, [], ◌∷◌, ◌++◌, length, All}
use Rattle.pa_meaning.specs.Rows.{Row}
use Rattle.pa_witness.specs.Certificates.{Dropped, Step}
use Rattle.pa_witness.specs.Thinning.{thinned, ThinningHolds}
use Rattle.pa_witness.specs.Steps.{Two, stepped, step_count}
use Rattle.pa_witness.specs.Columns.{projected_columns, ColumnStepsHold}
use Rattle.pa_elim.specs.Projecting.{Projection}
use Rattle.pa_elim.specs.Meant.{drops_of}

-- each place is one of the columns that are left when its turn comes
abbrev pub AreInTurn : ℕ → List ℕ → Type 0
AreInTurn n [] = Unit {0}
AreInTurn n (k ∷ ks) = (k < n) × AreInTurn (pred n) ks

-- the rows have n columns, at most 128, and are at most 4,096
pub record CanStep (n : ℕ) (p : Projection) : Type 0 where
  pub columns : All (λ (r : Row). length r.c ≡ n) p.rows
  pub few : length p.rows ≤ 4096
  pub short : n ≤ 128

-- the given rows are thinned by the drops of the one step
pub record IsStart (n : ℕ) (rows : List Row) (p : Projection) : Type 0 where
  pub drops : List Dropped
  pub steps : p.steps ≡ record { drops = drops } ∷ []
  pub holds : ThinningHolds n rows [] drops
  pub left : p.rows ≡ thinned n rows drops

-- one step more, in which column k of n goes: no more rows than the limit, and its drops hold
pub record IsNext (limit n k : ℕ) (old new : Projection) : Type 0 where
  pub drops : List Dropped
  pub steps : new.steps ≡ old.steps ++ record { drops = drops } ∷ []
  pub within : step_count Two k old.rows ≤ limit
  pub holds : ThinningHolds (pred n) (stepped Two k old.rows) [] drops
  pub left : new.rows ≡ thinned (pred n) (stepped Two k old.rows) drops

-- a step more for each of these columns
pub record AreFollowed (limit n : ℕ) (ks : List ℕ) (old new : Projection) : Type 0 where
  pub more : List Step
  pub steps : new.steps ≡ old.steps ++ more
  pub holds : ColumnStepsHold Two limit n old.rows ks (drops_of more)
  pub left : new.rows ≡ projected_columns Two n old.rows ks (drops_of more)
