-- The ranges in which the numbers of an answer lie that names a limit, or a number that is too wide. That such an answer
-- was due is not said.
use Rattle.std.specs.Prelude.{◌≡◌, ℕ, zero, suc, ◌+◌, ◌<◌, ◌≤◌, List, length, filter, sum_by}
use Rattle.pa_row.specs.declared.place.Group.TheVariants.{Thin, Step}
use Rattle.pa_row.specs.declared.place.Task.{Task}
use Rattle.pa_row.specs.declared.place.Task.TheVariants.{Sum, Cover, Goal, Nominal, Shift, Whole, Clean, Filter, Pairs}
use Rattle.pa_row.specs.declared.place.Spot.{Spot}
use Rattle.pa_row.specs.declared.place.Spot.TheVariants.{Load, Pivot, Read, Check}
use Rattle.pa_row.specs.declared.place.Sub.{Sub}
use Rattle.pa_row.specs.declared.place.Sub.TheVariants.{Main, Base}
use Rattle.pa_row.specs.declared.place.Place.{Place}
use Rattle.pa_meaning.specs.Contracts.{Name, Contract}
use Rattle.pa_meaning.specs.Composition.{is_among, part_at, internal_outputs}
use Rattle.pa_contract.specs.Merge.{row_count}
use Rattle.pa_cert.specs.Tables.{Limits}
use Rattle.pa_holds.specs.Questions.{Question, Testing, Refining, Bounding, Hiding, Composing, Dividing}

-- the step is one of these names', and its number of rows is above the limit
pub record LimitFits (most : ℕ) (gone : List Name) (step count : ℕ) : Type 0 where
  pub first : 1 ≤ step
  pub last : step ≤ length gone
  pub above : most < count

-- a row of a step: of the given rows in step 0, else within the row limit in a step of a name that goes
abbrev pub StepRowFits : Limits → ℕ → ℕ → ℕ → ℕ → Type 0
StepRowFits most gone given zero row = row < given
StepRowFits most gone given (suc step) row = (suc step ≤ gone) × (row < most.rows)

-- a row of a step of a name that goes
abbrev pub PairFits : Limits → ℕ → ℕ → ℕ → Type 0
PairFits most gone zero row = ⊥
PairFits most gone (suc step) row = (suc step ≤ gone) × (row < most.rows)

-- how many assumptions, and how many guarantees, the parts have together
abbrev pub assumption_count : List Contract → ℕ
assumption_count parts = sum_by (λ p. length p.assumptions) parts

abbrev pub guarantee_count : List Contract → ℕ
guarantee_count parts = sum_by (λ p. length p.guarantees) parts

-- an assumption of a part
pub record IsPartRow (parts : List Contract) (part row : ℕ) : Type 0 where
  pub part_fits : part < length parts
  pub row_fits : row < length (part_at parts part).assumptions

-- the task is one of the operation's, and its numbers are in their ranges
abbrev pub TaskFits : Limits → Question → Task → Type 0
TaskFits most (Testing c names x) (Sum row) = row < row_count c
TaskFits most (Refining c other) (Cover row) = row < length c.assumptions + length other.guarantees
TaskFits most (Bounding c goal least) Goal = Unit {0}
TaskFits most (Hiding c names) (Clean (Step step) row) =
    StepRowFits most (length (filter (is_among names) c.outputs)) (length c.guarantees) step row
TaskFits most (Hiding c names) (Filter (Step step) row) =
    StepRowFits most (length (filter (is_among names) c.outputs)) (length c.guarantees) step row
TaskFits most (Hiding c names) (Pairs step row) = PairFits most (length (filter (is_among names) c.outputs)) step row
TaskFits most (Composing parts keep) Nominal = Unit {0}
TaskFits most (Composing parts keep) (Shift round part row) = (round < length parts) × IsPartRow parts part row
TaskFits most (Composing parts keep) (Whole part row) = IsPartRow parts part row
TaskFits most (Composing parts keep) (Clean Thin row) = row < assumption_count parts
TaskFits most (Composing parts keep) (Clean (Step step) row) =
    StepRowFits most (length (internal_outputs parts keep)) (guarantee_count parts) step row
TaskFits most (Composing parts keep) (Filter Thin row) = row < assumption_count parts
TaskFits most (Composing parts keep) (Filter (Step step) row) =
    StepRowFits most (length (internal_outputs parts keep)) (guarantee_count parts) step row
TaskFits most (Composing parts keep) (Pairs step row) = PairFits most (length (internal_outputs parts keep)) step row
TaskFits most (Dividing whole part) Nominal = Unit {0}
TaskFits most (Dividing whole part) (Shift round at row) = (round ≡ 0) × (at ≡ 0) × (row < length whole.guarantees)
TaskFits most (Dividing whole part) (Clean Thin row) = row < length part.assumptions + length whole.guarantees
TaskFits most (Dividing whole part) (Filter Thin row) = row < length part.assumptions + length whole.guarantees
TaskFits most question task = ⊥

-- the tasks that solve problems: a limit of pivots is met at no other
abbrev pub SolvesAProblem : Task → Type 0
SolvesAProblem (Cover row) = Unit {0}
SolvesAProblem Goal = Unit {0}
SolvesAProblem (Shift round part row) = Unit {0}
SolvesAProblem (Whole part row) = Unit {0}
SolvesAProblem (Filter group row) = Unit {0}
SolvesAProblem task = ⊥

-- a base problem stands beside the main one at two tasks
abbrev pub HasProblem : Task → Sub → Type 0
HasProblem task Main = Unit {0}
HasProblem (Cover row) Base = Unit {0}
HasProblem Goal Base = Unit {0}
HasProblem task Base = ⊥

-- where in a task a number can be too wide: where costs are made, at two tasks; in a pivot and in a reading, at the tasks
-- that solve problems; in a check, at each task
abbrev pub HasSpot : Task → Spot → Type 0
HasSpot (Shift round part row) Load = Unit {0}
HasSpot (Whole part row) Load = Unit {0}
HasSpot task Load = ⊥
HasSpot task (Pivot pivot row column) = SolvesAProblem task
HasSpot task Read = SolvesAProblem task
HasSpot task Check = Unit {0}

-- the pivot is within the limit; its line and its column are not tested
abbrev pub SpotFits : Limits → Spot → Type 0
SpotFits most (Pivot pivot row column) = pivot ≤ most.pivots
SpotFits most spot = Unit {0}

pub record PlaceFits (most : Limits) (question : Question) (place : Place) : Type 0 where
  pub task : TaskFits most question place.task
  pub problem : HasProblem place.task place.sub
  pub spot : HasSpot place.task place.spot
  pub pivot : SpotFits most place.spot

-- the same of a problem whose pivots came to their limit
pub record PivotsFit (most : Limits) (question : Question) (task : Task) (part : Sub) : Type 0 where
  pub task_fits : TaskFits most question task
  pub solves : SolvesAProblem task
  pub problem : HasProblem task part
