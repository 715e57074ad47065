-- Which trial of rows it is exactly, and where a fault stands: the rows are brought to the columns of the nominal point one after another, up to the
-- first without weights.
use Rattle.std.specs.Prelude.{ℕ, suc, List, [], ◌∷◌, ◌++◌, length, map, Result, Ok}
use Rattle.pa_math.specs.Answers.{and_then, told_as}
use Rattle.pa_meaning.specs.Rows.{Row, Point, front_row}
use Rattle.pa_meaning.specs.Weights.{Weights}
use Rattle.pa_meaning.specs.Contracts.{Name}
use Rattle.pa_contract.specs.Nominal.{Nominal, value_of}
use Rattle.pa_row.specs.declared.place.Task.{Task}
use Rattle.pa_row.specs.declared.place.Task.TheVariants as task
use Rattle.pa_row.specs.declared.place.Sub.TheVariants.{Main}
use Rattle.pa_row.specs.declared.place.Spot.TheVariants.{Check}
use Rattle.pa_row.specs.declared.place.Halt.{Halt}
use Rattle.pa_row.specs.Fractions.{point_in}
use Rattle.pa_farkas.specs.Answered.{wide_in}
use Rattle.pa_shift.specs.declared.shifting.Shifted.{Shifted}
use Rattle.pa_shift.specs.declared.shifting.Shifted.TheVariants.{Term, Ray}
use Rattle.pa_shift.specs.Shifting.{Premises, shifted_of}
use Rattle.pa_trial.specs.declared.trial.Trial.{Trial}
use Rattle.pa_trial.specs.declared.trial.Trial.TheVariants.{Through, Stopped}
use Rattle.pa_trial.specs.declared.trial.Turn.{Turn}
use Rattle.pa_trial.specs.declared.trial.Turn.TheVariants as turns
use Rattle.pa_trial.specs.Lefts.{Lefts}

-- the nominal values of these names, as a point
abbrev pub nominal_in : Nominal → List Name → Result Point Halt
nominal_in nominal names = told_as (wide_in task.Nominal Main Check) (point_in (map (value_of nominal) names))

abbrev pub task_of : Turn → ℕ → ℕ → Task
task_of (turns.InRound round) part row = task.Shift round part row
task_of turns.Whole part row = task.Whole part row

-- what is left so far, and one row more over the first n columns, with its weights
abbrev pub with_left : ℕ → Lefts → Row → Weights → Lefts
with_left n lefts row w = record { rows = lefts.rows ++ front_row n row ∷ []; weights = lefts.weights ++ w ∷ [] }

-- by what became of one row: its direction ends the trial, and else the next rows are tried
abbrev pub after_shift : ℕ → ℕ → Lefts → (Lefts → Result Trial Halt) → Shifted → Result Trial Halt
after_shift n i lefts next (Term row w) = next (with_left n lefts row w)
after_shift n i lefts next (Ray d) = Ok (Stopped i d)

-- these rows, of which the first has the place i, are shifted one after another, up to the first without weights
abbrev pub tried_from : Premises → ℕ → Turn → ℕ → ℕ → Lefts → List Row → Result Trial Halt
tried_from premises most turn part i lefts [] = Ok (Through lefts)
tried_from premises most turn part i lefts (t ∷ ts) =
    and_then (shifted_of premises t most (task_of turn part i))
    (after_shift (length premises.nominal.p) i lefts (λ more. tried_from premises most turn part (suc i) more ts))

abbrev pub tried_of : Premises → ℕ → Turn → ℕ → List Row → Result Trial Halt
tried_of premises most turn part rows = tried_from premises most turn part 0 (record { rows = []; weights = [] }) rows
