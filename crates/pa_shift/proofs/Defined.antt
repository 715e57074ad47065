-- What the definitions answer is true of the given rows and the term, also where no call has computed it, and their faults are at the task that was
-- asked for, in its main problem: never want of memory.
use Rattle.std.proofs.Common.{◌≡◌, refl, sym, ℕ, ◌≤◌, List, length, Result, Ok, Err, IfErr, Bool, true, false, cond}
use lib.IntN.{ℤ}
use Rattle.pa_math.specs.Answers.{and_then, told_as}
use Rattle.pa_frac.specs.declared.wide.Wide.{Wide}
use Rattle.pa_tableau.specs.Arithmetic.{at_width}
use Rattle.pa_meaning.specs.Rows.{Row}
use Rattle.pa_meaning.specs.Weights.{Weights}
use Rattle.pa_meaning.specs.Shifting.{shifted}
use Rattle.pa_witness.specs.Shifts.{ShiftHolds}
use Rattle.pa_row.specs.declared.place.Task.{Task}
use Rattle.pa_row.specs.declared.place.Sub.TheVariants.{Main}
use Rattle.pa_row.specs.declared.place.Spot.{Spot}
use Rattle.pa_row.specs.declared.place.Spot.TheVariants as spot
use Rattle.pa_row.specs.declared.place.Halt.{Halt}
use Rattle.pa_row.specs.declared.place.Halt.TheVariants as halt
use Rattle.pa_row.specs.Sums.{shifted_in}
use Rattle.pa_row.proofs.ShiftedPoints.{shifted_exact}
use Rattle.pa_replay.specs.Shown.{ShowsNoWeights}
use Rattle.pa_bland.specs.declared.answer.Answer.{Answer}
use Rattle.pa_bland.specs.declared.answer.Answer.TheVariants.{Least, NoWeights, Endless}
use Rattle.pa_bland.specs.declared.answer.SolveError.{SolveError}
use Rattle.pa_bland.specs.declared.answer.SolveError.TheVariants as errors
use Rattle.pa_bland.specs.declared.answer.Spot.TheVariants as spots
use Rattle.pa_bland.specs.Answered.{Shows, answer_of}
use Rattle.pa_farkas.specs.Answered.{halt_of, solved_for, wide_in}
use Rattle.pa_farkas.proofs.Defined.{HasAll, Holds, IsOf, problem_faults, solved_has, solved_shows, then, told, told_ok}
use Rattle.pa_shift.specs.declared.shifting.Shifted.{Shifted}
use Rattle.pa_shift.specs.declared.shifting.Shifted.TheVariants.{Term, Ray}
use Rattle.pa_shift.specs.Meant.{CanShift, IsExactAt, IsShifting}
use Rattle.pa_shift.specs.Seen.{AreCosts}
use Rattle.pa_shift.specs.Shifting as spec
use Rattle.pa_shift.specs.Shifting.{Premises}
use Rattle.pa_shift.proofs.Shown.{costs_over, endless_exact, endless_shift, least_exact, least_shift, left_shows, of_term, settled_exact, settled_shift}
use Rattle.pa_shift.proofs.Shown.{stuck_shows}

-- ---- faults
-- the costs are made, a cell of at most this many pivots is computed, an end is read, or sums are checked
abbrev pub IsShiftSpot : ℕ → Spot → Type 0
IsShiftSpot most spot.Load = Unit {0}
IsShiftSpot most (spot.Pivot pivot row column) = pivot ≤ most
IsShiftSpot most spot.Read = Unit {0}
IsShiftSpot most spot.Check = Unit {0}

-- the fault has this task, is in its main problem, and has one of these spots
abbrev pub IsShiftFault : ℕ → Task → Halt → Type 0
IsShiftFault most t halt.Memory = ⊥
IsShiftFault most t (halt.PivotLimit p) = (p.task ≡ t) × (p.sub ≡ Main)
IsShiftFault most t (halt.Wide p) = (p.task ≡ t) × (p.sub ≡ Main) × IsShiftSpot most p.spot

module _ (most : ℕ) (t : Task) where
  wide_fault : {A : Type 0} (s : Spot) (r : Result A Wide) → IsShiftSpot most s → IfErr (told_as (wide_in t Main s) r) (IsShiftFault most t)
  wide_fault s r h = told (IsShiftFault most t) (wide_in t Main s) r (λ e is. (refl, refl, h))

  solved_fault : (rows : List Row) (target : List ℤ) → IfErr (solved_for t Main rows target most) (IsShiftFault most t)
  solved_fault rows target = by (answer_of (at_width 126) (record { rows = rows; target = target }) most) (problem_faults most t Main rows target)
    where
      by : (r : Result Answer SolveError) → IfErr (told_as (halt_of t Main) r) (IsOf most t) → IfErr (told_as (halt_of t Main) r) (IsShiftFault most t)
      by (Ok a) h = tt
      by (Err errors.Memory) h = h
      by (Err errors.PivotLimit) h = (h, refl)
      by (Err (errors.Wide (spots.Cell at))) h = (h.0, refl, h.1)
      by (Err (errors.Wide spots.Read)) h = (h.0, refl, tt)

  -- ---- of a term over given rows
  module _ (given : Premises) (term : Row) (can : CanShift given term) where
    abbrev pub IsAnswered : Result Shifted Halt → Type 0
    IsAnswered r = Holds (IsShifting given term) (IsShiftFault most t) r

    left_is : (w : Weights) → ShiftHolds (length given.nominal.p) given.rows term w → IsExactAt given term (shifted term given.rows w)
        → IsAnswered (spec.left_by given.rows term t w)
    left_is w holds exact = by (shifted_in term given.rows w) refl
      where
        by : (r : Result Row Wide) → shifted_in term given.rows w ≡ r
            → IsAnswered (told_as (wide_in t Main spot.Check) (and_then r (λ row. Ok (Term row w))))
        by (Ok row) is = record {
          ok = left_shows given term row w can holds exact (shifted_exact term given.rows w row can.columns (sym is));
          err = tt;
        }
        by (Err e) is = record { ok = tt; err = (refl, refl, tt) }

    ray_is : (costs : List Row) (d : List ℤ) → AreCosts given costs → ShowsNoWeights (of_term given costs term) d
        → IsAnswered (spec.ray_by costs (spec.target_of given.nominal term) t d)
    ray_is costs d are shows = by (spec.rise_in d (spec.target_of given.nominal term) costs)
      where
        by : (r : Result ℤ Wide) → IsAnswered (told_as (wide_in t Main spot.Check) (and_then r (λ rise. Ok (Ray d))))
        by (Ok rise) = record { ok = stuck_shows given costs term d can are shows; err = tt }
        by (Err e) = record { ok = tt; err = (refl, refl, tt) }

    answer_is : (costs : List Row) → AreCosts given costs → (a : Answer) → Shows (of_term given costs term) a → HasAll a
        → IsAnswered (spec.by_answer given costs term t a)
    answer_is costs are (Least a) shows dens =
        left_is a.weights (least_shift given costs term a are shows) (least_exact given costs term a can.positive dens are shows)
    answer_is costs are (Endless a) shows dens =
        left_is a.last (endless_shift given costs term a are shows) (endless_exact given costs term a can.positive are shows)
    answer_is costs are (NoWeights d) shows dens = ray_is costs d are shows

    problem_is : (costs : List Row) → AreCosts given costs → IsAnswered (spec.by_problem given term most t costs)
    problem_is costs are =
        then (IsShiftFault most t) (IsShifting given term) (solved_for t Main costs (spec.target_of given.nominal term) most) _
        (solved_fault costs (spec.target_of given.nominal term))
        (λ a is. answer_is costs are a (solved_shows most t Main (of_term given costs term) (costs_over given costs term can.columns are) a is)
        (solved_has most t Main (of_term given costs term) a is))

    costs_is : IsAnswered (spec.by_costs given term most t)
    costs_is =
        then (IsShiftFault most t) (IsShifting given term) (told_as (wide_in t Main spot.Load) (spec.costed_in given.nominal given.rows)) _
        (wide_fault spot.Load (spec.costed_in given.nominal given.rows) tt)
        (λ costs is. problem_is costs (told_ok (wide_in t Main spot.Load) (spec.costed_in given.nominal given.rows) costs is))

    pub shifted_is : IsAnswered (spec.shifted_of given term most t)
    shifted_is = by (spec.are_zero (spec.target_of given.nominal term)) refl
      where
        by : (b : Bool) → spec.are_zero (spec.target_of given.nominal term) ≡ b
            → IsAnswered (cond b (spec.left_by given.rows term t spec.no_weights) (spec.by_costs given term most t))
        by true zero = left_is spec.no_weights (settled_shift given term zero) (settled_exact given term can.positive zero)
        by false some = costs_is
