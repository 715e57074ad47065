-- Which rows and which drops an elimination of several columns gives exactly, and where a fault stands: a step for each column, the first refusal
-- of all winning.
use Rattle.std.specs.Prelude.{ℕ, suc, pred, List, [], ◌∷◌, ◌++◌, nat_lt, Result, Ok, Err, if◌then◌else◌}
use Rattle.pa_math.specs.Answers.{and_then, told_as}
use Rattle.pa_meaning.specs.Rows.{Row}
use Rattle.pa_witness.specs.Certificates.{Step}
use Rattle.pa_witness.specs.Steps.{Two, step_count}
use Rattle.pa_row.specs.declared.place.Task.TheVariants as task
use Rattle.pa_row.specs.declared.place.Group.TheVariants as group
use Rattle.pa_row.specs.declared.place.Sub.TheVariants.{Main}
use Rattle.pa_row.specs.declared.place.Spot.TheVariants.{Check}
use Rattle.pa_row.specs.declared.place.Halt.{Halt}
use Rattle.pa_row.specs.declared.place.Halt.TheVariants as halt
use Rattle.pa_fourier.specs.StepFaults.{step_in}
use Rattle.pa_fourier.specs.declared.fault.StepFault.{StepFault}
use Rattle.pa_fourier.specs.declared.fault.StepFault.TheVariants as stepping
use Rattle.pa_farkas.specs.Alternatives.{Thinning}
use Rattle.pa_farkas.specs.Answered.{thinned_of}
use Rattle.pa_elim.specs.declared.fault.ElimFault.{ElimFault}
use Rattle.pa_elim.specs.declared.fault.ElimFault.TheVariants as fault

-- the rows that are left, and the drops of the given rows and of each step so far
pub record Projection : Type 0 where
  pub rows : List Row
  pub steps : List Step

-- ---- the columns that go
-- where a column stands once another one is out: those behind it move up
abbrev pub moved_up : ℕ → ℕ → ℕ
moved_up gone column = if nat_lt gone column then pred column else column

-- where it stands once these are out, one after another, each at its place when its turn came
abbrev pub place_after : List ℕ → ℕ → ℕ
place_after [] column = column
place_after (g ∷ gone) column = place_after gone (moved_up g column)

-- the place of each of these columns in the list that is left when its turn comes, once those at the first places are out
abbrev pub in_turn_after : List ℕ → List ℕ → List ℕ
in_turn_after gone [] = []
in_turn_after gone (k ∷ ks) = place_after gone k ∷ in_turn_after (gone ++ place_after gone k ∷ []) ks

-- the same where none is out yet
abbrev pub in_turn : List ℕ → List ℕ
in_turn ks = in_turn_after [] ks

-- ---- faults
-- a fault of a thinning
abbrev pub elim_fault : Halt → ElimFault
elim_fault halt.Memory = fault.Memory
elim_fault (halt.PivotLimit place) = fault.PivotLimit place
elim_fault (halt.Wide place) = fault.Wide place

-- a fault of the rows that a step makes
abbrev pub pairs_fault : ℕ → StepFault → ElimFault
pairs_fault step stepping.Memory = fault.Memory
pairs_fault step (stepping.Wide row) = fault.Wide (record { task = task.Pairs step row; sub = Main; spot = Check })

-- ---- a step
-- the rows that are made where column k goes, if they are no more than the limit allows: they are counted before one is made
abbrev pub made_in : ℕ → ℕ → ℕ → List Row → Result (List Row) ElimFault
made_in limit step k rows =
    if nat_lt limit (step_count Two k rows) then Err (fault.RowLimit step (step_count Two k rows))
    else told_as (pairs_fault step) (step_in Two k rows)

-- rows of a step over n columns, thinned
abbrev pub thinned_in : ℕ → ℕ → ℕ → List Row → Result Thinning ElimFault
thinned_in n most step rows = told_as elim_fault (thinned_of n rows [] most (group.Step step))

-- the steps so far and one more, with the rows that it leaves
abbrev pub with_step : List Step → Thinning → Projection
with_step steps t = record { rows = t.rows; steps = steps ++ record { drops = t.drops } ∷ [] }

-- what is left after one step more, in which column k of n goes
abbrev pub after_step : ℕ → ℕ → ℕ → ℕ → ℕ → Projection → Result Projection ElimFault
after_step limit most n step k p =
    and_then (made_in limit step k p.rows) (λ made. and_then (thinned_in (pred n) most step made) (λ t. Ok (with_step p.steps t)))

-- ---- an elimination
-- what is left after a step for each of these columns of n, each by its place when its turn comes; the first step has this number
abbrev pub after_steps : ℕ → ℕ → ℕ → ℕ → List ℕ → Projection → Result Projection ElimFault
after_steps limit most n step [] p = Ok p
after_steps limit most n step (k ∷ ks) p = and_then (after_step limit most n step k p) (λ next. after_steps limit most (pred n) (suc step) ks next)

-- the given rows over n columns, thinned as step 0
abbrev pub start_of : ℕ → ℕ → List Row → Result Projection ElimFault
start_of n most rows = and_then (thinned_in n most 0 rows) (λ t. Ok (with_step [] t))

-- the same and then a step for each of these columns
abbrev pub projected_of : ℕ → ℕ → ℕ → List ℕ → List Row → Result Projection ElimFault
projected_of limit most n ks rows = and_then (start_of n most rows) (after_steps limit most n 1 ks)

-- the rows over n columns without these, within limits of rows and of pivots
abbrev pub eliminated_of : ℕ → ℕ → ℕ → List ℕ → List Row → Result Projection ElimFault
eliminated_of limit most n gone rows = projected_of limit most n (in_turn gone) rows
