-- What the definition of the rounds answers is true of the parts, also where no call has computed it: the parts are discharged as it says, and each refusal
-- is the one that it names.
use Rattle.std.proofs.Common.{◌≡◌, ◌⊎◌, inl, inr, refl, sym, ap, ◌∙◌, subst, ℕ, ◌≤◌, List, [], ◌∷◌, length, map, Option, Result, Ok, Err, All, sum_by}
use Rattle.std.proofs.lemmas.List.{length-map}
use Rattle.std.specs.List.{IsDistinct}
use Rattle.std.specs.Str.{bytes_eq}
use lib.IntN.{ℤ}
use Rattle.pa_math.specs.Answers.{and_then, told_as}
use Rattle.pa_frac.specs.declared.wide.Wide.{Wide}
use Rattle.pa_meaning.specs.Rows.{Point}
use Rattle.pa_meaning.specs.Contracts.{Name, Contract}
use Rattle.pa_meaning.specs.Composition.{all_outputs, external_inputs, names_of}
use Rattle.pa_row.specs.declared.place.Task.TheVariants as task
use Rattle.pa_row.specs.declared.place.Sub.TheVariants.{Main}
use Rattle.pa_row.specs.declared.place.Spot.TheVariants.{Check}
use Rattle.pa_row.specs.declared.place.Place.{Place}
use Rattle.pa_row.specs.Fractions.{point_in}
use Rattle.pa_row.proofs.CommonDenominators.{over_length}
use Rattle.pa_contract.specs.Merge.{row_count}
use Rattle.pa_contract.specs.Nominal.{IsNominal, Nominal, value_of}
use Rattle.pa_contract.specs.WellFormed.{IsWellFormed}
use Rattle.pa_replay.proofs.CommonPoints.{HavePositive, point_formed}
use Rattle.pa_farkas.specs.Answered.{wide_in}
use Rattle.pa_farkas.proofs.Defined.{Holds}
use Rattle.pa_shift.proofs.Defined.{IsShiftSpot}
use Rattle.pa_discharge.specs.declared.fault.DischargeFault.{DischargeFault}
use Rattle.pa_discharge.specs.declared.fault.DischargeFault.TheVariants as fault
use Rattle.pa_discharge.specs.Rounds.{Brought, Discharged}
use Rattle.pa_discharge.specs.Discharging.{Asked, brought_of, discharged_by, discharged_of, halted}
use Rattle.pa_discharge.specs.Meant.{AreDischargedAt, IsFirstStuck, IsTrueRefusal, IsWholeCircle}
use Rattle.pa_discharge.proofs.States.{CanAsk}
use Rattle.pa_trial.proofs.AtNominal.{value_fraction}
use Rattle.pa_discharge.proofs.Timing.{are_in_time, are_timely}
use Rattle.pa_discharge.proofs.Ends.{IsEnd, IsEndFault, IsRefused, brought_is}
use Rattle.pa_discharge.proofs.AllDischarged.{all_discharged_is}
use Rattle.pa_discharge.proofs.Refusals.{refusal_is_true}
pub use Rattle.pa_discharge.proofs.Ends.{IsTrialTask}

-- a number is too wide in the nominal point, or in a trial
abbrev pub IsWidePlace : ℕ → List Contract → Place → Type 0
IsWidePlace most parts p =
    ((p.task ≡ task.Nominal) × (p.sub ≡ Main) × (p.spot ≡ Check)) ⊎ (IsTrialTask parts p.task × (p.sub ≡ Main) × IsShiftSpot most p.spot)

-- what an answer tells
abbrev pub DischargeTells : ℕ → List Contract → Nominal → Result Discharged DischargeFault → Type 0
DischargeTells most parts nominal (Ok d) = AreDischargedAt parts nominal d
DischargeTells most parts nominal (Err fault.Memory) = ⊥
DischargeTells most parts nominal (Err (fault.NoMultipliers s)) = IsFirstStuck parts s
DischargeTells most parts nominal (Err (fault.Circle ss)) = IsWholeCircle parts ss
DischargeTells most parts nominal (Err (fault.PivotLimit p)) = IsTrialTask parts p.task × (p.sub ≡ Main)
DischargeTells most parts nominal (Err (fault.Wide p)) = IsWidePlace most parts p

-- ---- the nominal point
have_positive : (nominal : Nominal) (names : List Name) → IsNominal nominal → HavePositive (map (value_of nominal) names)
have_positive nominal [] is = tt
have_positive nominal (n ∷ names) is = ((value_fraction nominal n is).reduced.positive, have_positive nominal names is)

module _ (parts : List Contract) (nominal : Nominal) (most : ℕ) (formed : All IsWellFormed parts) (apart : IsDistinct bytes_eq (all_outputs parts))
    (few : sum_by row_count parts ≤ 4096) (short : length (names_of parts) ≤ 128) (is : IsNominal nominal) where
  abbrev Tells : Result Discharged DischargeFault → Type 0
  Tells r = DischargeTells most parts nominal r

  abbrev asked_at : Point → Asked
  asked_at x = record { parts = parts; nominal = x; most = most }

  can_ask : (x : Point) → point_in (map (value_of nominal) (external_inputs parts)) ≡ Ok x → CanAsk (asked_at x)
  can_ask x made =
      let fs : List (ℤ × ℤ) = map (value_of nominal) (external_inputs parts) in
      let (up, has) = point_formed fs x (have_positive nominal (external_inputs parts) is) (sym made) in record {
        formed = formed;
        apart = apart;
        few = few;
        short = short;
        fits = over_length x.q fs x.p has.columns ∙ length-map (external_inputs parts) (value_of nominal);
        positive = up;
      }

  -- ---- the answer
  refused_true : (x : Point) → CanAsk (asked_at x) → (f : DischargeFault) → IsRefused (asked_at x) f → IsTrueRefusal parts f
  refused_true x can f h =
      subst (IsTrueRefusal parts) (sym h.is)
      (refusal_is_true (asked_at x) h.round h.brought h.stuck h.found can h.last h.first (are_in_time (asked_at x) can h.round h.brought h.last.state))

  fault_tells : (x : Point) → CanAsk (asked_at x) → (f : DischargeFault) → IsEndFault (asked_at x) f → Tells (Err f)
  fault_tells x can fault.Memory h = h
  fault_tells x can (fault.NoMultipliers s) h = refused_true x can (fault.NoMultipliers s) h
  fault_tells x can (fault.Circle ss) h = refused_true x can (fault.Circle ss) h
  fault_tells x can (fault.PivotLimit p) h = h
  fault_tells x can (fault.Wide p) h = inr h

  brought_tells : (x : Point) → point_in (map (value_of nominal) (external_inputs parts)) ≡ Ok x
      → Tells (and_then (brought_of (asked_at x)) (λ bs. Ok (discharged_by bs)))
  brought_tells x made = by (brought_of (asked_at x)) (brought_is (asked_at x) can)
    where
      can : CanAsk (asked_at x)
      can = can_ask x made

      by : (r : Result (List (Option Brought)) DischargeFault) → Holds (IsEnd (asked_at x) can) (IsEndFault (asked_at x)) r
          → Tells (and_then r (λ bs. Ok (discharged_by bs)))
      by (Ok bs) h =
          let (round, state, whole) = h.ok in
          all_discharged_is (asked_at x) round bs nominal can is (ap (told_as (wide_in task.Nominal Main Check)) made) state whole
          (are_timely (asked_at x) can round bs state whole)
      by (Err f) h = fault_tells x can f h.err

  -- What the definition answers is true of the parts.
  pub discharge_tells : Tells (discharged_of parts nominal most)
  discharge_tells = by (point_in (map (value_of nominal) (external_inputs parts))) refl
    where
      by : (r : Result Point Wide) → point_in (map (value_of nominal) (external_inputs parts)) ≡ r
          → Tells (and_then (told_as halted (told_as (wide_in task.Nominal Main Check) r)) (λ x.
          and_then (brought_of (asked_at x)) (λ bs. Ok (discharged_by bs))))
      by (Ok x) made = brought_tells x made
      by (Err wide) made = inl (refl, refl, refl)
