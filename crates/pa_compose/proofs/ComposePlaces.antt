-- Where a fault of a composition stands, once no refusal by a name or a count is due: at a task of the composition, with numbers that are in their ranges.
use Rattle.std.proofs.Common.{◌≡◌, ◌⊎◌, inl, inr, sym, subst, ℕ, zero, suc, ◌<◌, ◌≤◌, List, length, arith, Err}
use Rattle.pa_meaning.specs.Contracts.{Name, Contract}
use Rattle.pa_meaning.specs.Composition.{internal_outputs}
use Rattle.pa_row.specs.declared.place.Group.TheVariants.{Thin, Step}
use Rattle.pa_row.specs.declared.place.Task.{Task}
use Rattle.pa_row.specs.declared.place.Task.TheVariants as task
use Rattle.pa_row.specs.declared.place.Sub.{Sub}
use Rattle.pa_row.specs.declared.place.Sub.TheVariants.{Main}
use Rattle.pa_row.specs.declared.place.Spot.{Spot}
use Rattle.pa_row.specs.declared.place.Spot.TheVariants as spot
use Rattle.pa_row.specs.declared.place.Place.{Place}
use Rattle.pa_row.specs.declared.place.Halt.{Halt}
use Rattle.pa_row.specs.declared.place.Halt.TheVariants as halt
use Rattle.pa_contract.specs.Nominal.{Nominal}
use Rattle.pa_cert.specs.Tables.{Limits}
use Rattle.pa_holds.specs.Questions.{Question, Composing}
use Rattle.pa_holds.specs.Limits.{LimitFits, PlaceFits, PivotsFit, TaskFits, StepRowFits, SolvesAProblem, HasProblem, HasSpot, SpotFits}
use Rattle.pa_holds.specs.Limits.{assumption_count, guarantee_count}
use Rattle.pa_farkas.proofs.Defined.{IsSolved}
use Rattle.pa_farkas.proofs.Thinnings.{IsThinFault, IsCleanPlace, IsFilterPlace}
use Rattle.pa_shift.proofs.Defined.{IsShiftSpot}
use Rattle.pa_elim.specs.declared.fault.ElimFault.{ElimFault}
use Rattle.pa_elim.specs.declared.fault.ElimFault.TheVariants as eliminating
use Rattle.pa_elim.proofs.Defined.{IsElimFault, IsPairsPlace, IsStepRow}
use Rattle.pa_discharge.specs.declared.fault.DischargeFault.{DischargeFault}
use Rattle.pa_discharge.specs.declared.fault.DischargeFault.TheVariants as discharging
use Rattle.pa_discharge.specs.Meant.{IsFirstStuck, IsWholeCircle}
use Rattle.pa_discharge.proofs.Defined.{DischargeTells, IsTrialTask, IsWidePlace}
use Rattle.pa_compose.specs.declared.compose_fault.ComposeFault.{ComposeFault}
use Rattle.pa_compose.specs.declared.compose_fault.ComposeFault.TheVariants as fault
use Rattle.pa_compose.specs.Composing.{discharge_fault, halted, elim_fault}

-- a fault of the rounds, of the thinning or of the elimination
abbrev pub IsRowsFault : Limits → List Contract → List Name → ComposeFault → Type 0
IsRowsFault most parts keep (fault.NoMultipliers s) = IsFirstStuck parts s
IsRowsFault most parts keep (fault.Circle ss) = IsWholeCircle parts ss
IsRowsFault most parts keep (fault.RowLimit step count) = LimitFits most.rows (internal_outputs parts keep) step count
IsRowsFault most parts keep (fault.PivotLimit p) = PivotsFit most (Composing parts keep) p.task p.sub
IsRowsFault most parts keep (fault.Wide p) = PlaceFits most (Composing parts keep) p
IsRowsFault most parts keep other = ⊥

-- each task has a main problem
main_problem : (t : Task) → HasProblem t Main
main_problem t = tt

in_main : (t : Task) (s : Sub) → s ≡ Main → HasProblem t s
in_main t s main = subst (HasProblem t) (sym main) (main_problem t)

-- where a problem that is solved stops, under the limit of pivots
solved_spot : (most : ℕ) (t : Task) (s : Spot) → SolvesAProblem t → IsSolved most s → HasSpot t s
solved_spot most t spot.Load solves h = absurd h
solved_spot most t (spot.Pivot pivot row column) solves h = solves
solved_spot most t spot.Read solves h = solves
solved_spot most t spot.Check solves h = tt

solved_fits : (most : Limits) (s : Spot) → IsSolved most.pivots s → SpotFits most s
solved_fits most spot.Load h = tt
solved_fits most (spot.Pivot pivot row column) h = h
solved_fits most spot.Read h = tt
solved_fits most spot.Check h = tt

shift_fits : (most : Limits) (s : Spot) → IsShiftSpot most.pivots s → SpotFits most s
shift_fits most spot.Load h = tt
shift_fits most (spot.Pivot pivot row column) h = h
shift_fits most spot.Read h = tt
shift_fits most spot.Check h = tt

module _ (most : Limits) (parts : List Contract) (keep : List Name) where
  abbrev question : Question
  question = Composing parts keep

  abbrev gone : ℕ
  gone = length (internal_outputs parts keep)

  -- ---- the rounds
  trial_fits : (t : Task) → IsTrialTask parts t → TaskFits most question t
  trial_fits (task.Shift round part row) h = h
  trial_fits (task.Whole part row) h = h
  trial_fits t h = absurd h

  trial_solves : (t : Task) → IsTrialTask parts t → SolvesAProblem t
  trial_solves (task.Shift round part row) h = tt
  trial_solves (task.Whole part row) h = tt
  trial_solves t h = absurd h

  load_spot : (t : Task) → IsTrialTask parts t → HasSpot t spot.Load
  load_spot (task.Shift round part row) h = tt
  load_spot (task.Whole part row) h = tt
  load_spot t h = absurd h

  trial_spot : (t : Task) (s : Spot) → IsTrialTask parts t → IsShiftSpot most.pivots s → HasSpot t s
  trial_spot t spot.Load h k = load_spot t h
  trial_spot t (spot.Pivot pivot row column) h k = trial_solves t h
  trial_spot t spot.Read h k = trial_solves t h
  trial_spot t spot.Check h k = tt

  wide_fits : (p : Place) → IsWidePlace most.pivots parts p → PlaceFits most question p
  wide_fits p (inl (at, main, check)) = record {
    task = subst (TaskFits most question) (sym at) tt;
    problem = in_main p.task p.sub main;
    spot = subst (HasSpot p.task) (sym check) tt;
    pivot = subst (SpotFits most) (sym check) tt;
  }
  wide_fits p (inr (trial, main, solved)) = record {
    task = trial_fits p.task trial;
    problem = in_main p.task p.sub main;
    spot = trial_spot p.task p.spot trial solved;
    pivot = shift_fits most p.spot solved;
  }

  pub discharge_faults : (nominal : Nominal) (e : DischargeFault) → DischargeTells most.pivots parts nominal (Err e)
      → IsRowsFault most parts keep (discharge_fault e)
  discharge_faults nominal discharging.Memory h = h
  discharge_faults nominal (discharging.NoMultipliers s) h = h
  discharge_faults nominal (discharging.Circle ss) h = h
  discharge_faults nominal (discharging.PivotLimit p) (trial, main) = record {
    task_fits = trial_fits p.task trial;
    solves = trial_solves p.task trial;
    problem = in_main p.task p.sub main;
  }
  discharge_faults nominal (discharging.Wide p) h = wide_fits p h

  -- ---- a problem that is solved
  module _ (p : Place) (t : Task) (is : p.task ≡ t) (fits : TaskFits most question t) (solves : SolvesAProblem t) (main : p.sub ≡ Main) where
    pivots_fit : PivotsFit most question p.task p.sub
    pivots_fit = record {
      task_fits = subst (TaskFits most question) (sym is) fits;
      solves = subst SolvesAProblem (sym is) solves;
      problem = in_main p.task p.sub main;
    }

    place_fits : IsSolved most.pivots p.spot → PlaceFits most question p
    place_fits solved = record {
      task = subst (TaskFits most question) (sym is) fits;
      problem = in_main p.task p.sub main;
      spot = solved_spot most.pivots p.task p.spot (subst SolvesAProblem (sym is) solves) solved;
      pivot = solved_fits most p.spot solved;
    }

  -- ---- the thinning
  thin_place : (n row : ℕ) (p : Place) → n ≤ assumption_count parts → row < n → IsCleanPlace Thin row p ⊎ IsFilterPlace most.pivots Thin row p
      → PlaceFits most question p
  thin_place n row p few low (inl is) =
      subst (PlaceFits most question) (sym is) (record { task = omega (arith, few, low); problem = tt; spot = tt; pivot = tt })
  thin_place n row p few low (inr (is, main, solved)) = place_fits p (task.Filter Thin row) is (omega (arith, few, low)) tt main solved

  pub thin_faults : (n : ℕ) (e : Halt) → n ≤ assumption_count parts → IsThinFault most.pivots Thin n e → IsRowsFault most parts keep (halted e)
  thin_faults n halt.Memory few h = h
  thin_faults n (halt.PivotLimit p) few (row, low, is, main) = pivots_fit p (task.Filter Thin row) is (omega (arith, few, low)) tt main
  thin_faults n (halt.Wide p) few (row, low, at) = thin_place n row p few low at

  -- ---- the elimination
  abbrev IsRow : ℕ → ℕ → Type 0
  IsRow step row = IsStepRow most.rows (guarantee_count parts) gone step row

  row_fits : (step row : ℕ) → IsRow step row → StepRowFits most gone (guarantee_count parts) step row
  row_fits zero row h = h
  row_fits (suc step) row h = h

  pairs_fit : (step row : ℕ) → IsRow step row → (p : Place) → IsPairsPlace step row p → PlaceFits most question p
  pairs_fit zero row fits p is = absurd is
  pairs_fit (suc step) row fits p is = subst (PlaceFits most question) (sym is) (record { task = fits; problem = tt; spot = tt; pivot = tt })

  elim_place : (p : Place) (step row : ℕ) → IsRow step row
      → IsCleanPlace (Step step) row p ⊎ IsFilterPlace most.pivots (Step step) row p ⊎ IsPairsPlace step row p → PlaceFits most question p
  elim_place p step row fits (inl is) =
      subst (PlaceFits most question) (sym is) (record { task = row_fits step row fits; problem = tt; spot = tt; pivot = tt })
  elim_place p step row fits (inr (inl (is, main, solved))) = place_fits p (task.Filter (Step step) row) is (row_fits step row fits) tt main solved
  elim_place p step row fits (inr (inr is)) = pairs_fit step row fits p is

  pub elim_faults : (e : ElimFault) → IsElimFault most.rows most.pivots (guarantee_count parts) gone e → IsRowsFault most parts keep (elim_fault e)
  elim_faults eliminating.Memory h = h
  elim_faults (eliminating.RowLimit step count) h = record { first = h.0; last = h.1; above = h.2 }
  elim_faults (eliminating.PivotLimit p) (step, row, fits, is, main) = pivots_fit p (task.Filter (Step step) row) is (row_fits step row fits) tt main
  elim_faults (eliminating.Wide p) (step, row, fits, at) = elim_place p step row fits at
