-- Where a fault of a quotient stands, once no refusal by a name or a count is due: at a task of the quotient, with numbers that are in their ranges.
use Rattle.std.proofs.Common.{◌≡◌, ◌⊎◌, inl, inr, refl, sym, subst, ℕ, ◌+◌, ◌<◌, ◌≤◌, length, arith}
use Rattle.pa_meaning.specs.Contracts.{Contract}
use Rattle.pa_row.specs.declared.place.Group.TheVariants.{Thin}
use Rattle.pa_row.specs.declared.place.Task.{Task}
use Rattle.pa_row.specs.declared.place.Task.TheVariants as task
use Rattle.pa_row.specs.declared.place.Sub.TheVariants.{Main}
use Rattle.pa_row.specs.declared.place.Spot.{Spot}
use Rattle.pa_row.specs.declared.place.Spot.TheVariants as spot
use Rattle.pa_row.specs.declared.place.Place.{Place}
use Rattle.pa_row.specs.declared.place.Halt.{Halt}
use Rattle.pa_row.specs.declared.place.Halt.TheVariants as halt
use Rattle.pa_cert.specs.Tables.{Limits}
use Rattle.pa_holds.specs.Questions.{Question, Dividing}
use Rattle.pa_holds.specs.Limits.{PlaceFits, PivotsFit, TaskFits, SolvesAProblem, HasSpot, SpotFits}
use Rattle.pa_farkas.proofs.Defined.{IsSolved}
use Rattle.pa_farkas.proofs.Thinnings.{IsThinFault, IsCleanPlace, IsFilterPlace}
use Rattle.pa_shift.proofs.Defined.{IsShiftSpot}
use Rattle.pa_trial.specs.Trying.{task_of}
use Rattle.pa_trial.specs.declared.trial.Turn.TheVariants.{InRound}
use Rattle.pa_trial.proofs.Trials.{IsTrialFault, IsRowOf}
use Rattle.pa_quotient.specs.declared.fault.QuotientFault.{QuotientFault}
use Rattle.pa_quotient.specs.declared.fault.QuotientFault.TheVariants as fault
use Rattle.pa_quotient.specs.Dividing.{halted}
use Rattle.pa_quotient.specs.Meant.{IsFirstStuck}

-- a fault of the shifts or of the thinning
abbrev pub IsTaskFault : Limits → Contract → Contract → QuotientFault → Type 0
IsTaskFault most whole part (fault.NoMultipliers row d) = IsFirstStuck whole part row d
IsTaskFault most whole part (fault.PivotLimit p) = PivotsFit most (Dividing whole part) p.task p.sub
IsTaskFault most whole part (fault.Wide p) = PlaceFits most (Dividing whole part) p
IsTaskFault most whole part other = ⊥

module _ (most : Limits) (whole part : Contract) where
  abbrev question : Question
  question = Dividing whole part

  -- ---- a place of a task, by what the place is
  made : (t : Task) (s : Spot) → TaskFits most question t → HasSpot t s → SpotFits most s → PlaceFits most question (record { task = t; sub = Main; spot = s })
  made t s fits has low = record { task = fits; problem = tt; spot = has; pivot = low }

  at : (p : Place) (t : Task) → p.task ≡ t → p.sub ≡ Main → PlaceFits most question (record { task = t; sub = Main; spot = p.spot }) → PlaceFits most question p
  at p t is main h = subst (PlaceFits most question) (λ i. record { task = sym is i; sub = sym main i; spot = p.spot }) h

  limited : (p : Place) (t : Task) → p.task ≡ t → p.sub ≡ Main → TaskFits most question t → SolvesAProblem t → PivotsFit most question p.task p.sub
  limited p t is main fits solves = subst (λ (q : Place). PivotsFit most question q.task q.sub)
      (λ i. record { task = sym is i; sub = sym main i; spot = p.spot }) (record { task_fits = fits; solves = solves; problem = tt })

  -- ---- the nominal point
  pub nominal_fits : PlaceFits most question (record { task = task.Nominal; sub = Main; spot = spot.Check })
  nominal_fits = made task.Nominal spot.Check tt tt tt

  -- ---- the shifts
  shift_place : (row : ℕ) (s : Spot) → row < length whole.guarantees → IsShiftSpot most.pivots s
      → PlaceFits most question (record { task = task.Shift 0 0 row; sub = Main; spot = s })
  shift_place row spot.Load low h = made (task.Shift 0 0 row) spot.Load (refl, refl, low) tt tt
  shift_place row (spot.Pivot pivot line column) low h = made (task.Shift 0 0 row) (spot.Pivot pivot line column) (refl, refl, low) tt h
  shift_place row spot.Read low h = made (task.Shift 0 0 row) spot.Read (refl, refl, low) tt tt
  shift_place row spot.Check low h = made (task.Shift 0 0 row) spot.Check (refl, refl, low) tt tt

  pub trial_faults : (n : ℕ) (e : Halt) → n ≤ length whole.guarantees → IsTrialFault most.pivots (InRound 0) (IsRowOf 0 n) e
      → IsTaskFault most whole part (halted e)
  trial_faults n halt.Memory few h = h
  trial_faults n (halt.PivotLimit p) few (here, row, (first, low), is, main) =
      limited p (task.Shift 0 0 row) (subst (λ k. p.task ≡ task_of (InRound 0) k row) first is) main (refl, refl, omega (arith, few, low)) tt
  trial_faults n (halt.Wide p) few (here, row, (first, low), is, main, solved) =
      at p (task.Shift 0 0 row) (subst (λ k. p.task ≡ task_of (InRound 0) k row) first is) main (shift_place row p.spot (omega (arith, few, low)) solved)

  -- ---- the thinning
  abbrev rows_of : ℕ
  rows_of = length part.assumptions + length whole.guarantees

  filter_place : (row : ℕ) (s : Spot) → row < rows_of → IsSolved most.pivots s
      → PlaceFits most question (record { task = task.Filter Thin row; sub = Main; spot = s })
  filter_place row spot.Load low h = absurd h
  filter_place row (spot.Pivot pivot line column) low h = made (task.Filter Thin row) (spot.Pivot pivot line column) low tt h
  filter_place row spot.Read low h = made (task.Filter Thin row) spot.Read low tt tt
  filter_place row spot.Check low h = made (task.Filter Thin row) spot.Check low tt tt

  thin_place : (row : ℕ) (p : Place) → row < rows_of → IsCleanPlace Thin row p ⊎ IsFilterPlace most.pivots Thin row p → PlaceFits most question p
  thin_place row p low (inl is) = subst (PlaceFits most question) (sym is) (made (task.Clean Thin row) spot.Check low tt tt)
  thin_place row p low (inr (is, main, solved)) = at p (task.Filter Thin row) is main (filter_place row p.spot low solved)

  pub thin_faults : (n : ℕ) (e : Halt) → n ≤ length part.assumptions + length whole.guarantees → IsThinFault most.pivots Thin n e
      → IsTaskFault most whole part (halted e)
  thin_faults n halt.Memory few h = h
  thin_faults n (halt.PivotLimit p) few (row, low, is, main) = limited p (task.Filter Thin row) is main (omega (arith, few, low)) tt
  thin_faults n (halt.Wide p) few (row, low, there) = thin_place row p (omega (arith, few, low)) there
