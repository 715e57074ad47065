-- Where a problem of all guarantees has no more bases than the limit of pivots, no discharge uses the pivots up: nothing but the problem of a shift uses
-- any, and no shift has more rows than there are guarantees.
use Rattle.std.proofs.Common.{◌≡◌, refl, sym, subst, ◌∙◌, ℕ, zero, suc, ◌-◌, ◌≤◌, ◌==◌, Bool, true, false, cond, List, [], ◌∷◌, length, length-append}
use Rattle.std.proofs.Common.{map, replicate}
use Rattle.std.proofs.Common.{All, inl, inr, arith, Option, Some, None, Result, Ok, Err}
use Rattle.std.proofs.lemmas.List.Elements.{All-nil, All-cons, All-head, All-tail}
use Rattle.pa_math.specs.Answers.{IsAnswer, and_then, given, told_as}
use Rattle.pa_meaning.specs.Rows.{Row, Point}
use Rattle.pa_meaning.specs.Directions.{Stuck}
use Rattle.pa_meaning.specs.Contracts.{Name, Contract}
use Rattle.pa_meaning.specs.Composition.{all_outputs, assumptions_over, external_inputs, names_of}
use Rattle.pa_contract.specs.Nominal.{Nominal, value_of}
use Rattle.pa_row.specs.Fractions.{point_in}
use Rattle.pa_row.specs.declared.place.Task.TheVariants as task
use Rattle.pa_row.specs.declared.place.Sub.TheVariants.{Main}
use Rattle.pa_row.specs.declared.place.Spot.TheVariants.{Check}
use Rattle.pa_row.specs.declared.place.Place.{Place}
use Rattle.pa_row.specs.declared.place.Halt.{Halt}
use Rattle.pa_row.specs.declared.place.Halt.TheVariants as halt
use Rattle.pa_holds.specs.Composed.{all_guarantees}
use Rattle.pa_farkas.specs.FewBases.{HasFewBases, IsNotLimited}
use Rattle.pa_farkas.proofs.Unlimited.{fewer_bases, next_not_limited, value_not_limited, wide_not_limited}
use Rattle.pa_shift.specs.Shifting.{Premises}
use Rattle.pa_parts.proofs.Rows.{assumptions_long}
use Rattle.pa_trial.specs.declared.trial.Turn.{Turn}
use Rattle.pa_trial.specs.declared.trial.Turn.TheVariants as turns
use Rattle.pa_discharge.specs.declared.fault.DischargeFault.{DischargeFault}
use Rattle.pa_discharge.specs.declared.fault.DischargeFault.TheVariants as fault
use Rattle.pa_trial.specs.Lefts.{Lefts}
use Rattle.pa_discharge.specs.Rounds.{Brought, AfterRound, Discharged}
use Rattle.pa_trial.specs.Trying.{nominal_in, tried_of}
use Rattle.pa_trial.proofs.Unlimited.{tried_not_limited}
use Rattle.pa_discharge.specs.Discharging.{Asked, after_trial, are_discharged, brought_of, discharged_by, discharged_count, discharged_of}
use Rattle.pa_discharge.specs.Discharging.{discharged_rows, halted, no_discharge, premises_of, refused_by, round_from, round_in, rounds_from, settled}
use Rattle.pa_discharge.specs.Discharging.{stuck_at, terms_of, turn_of, whole_from, whole_of, whole_turn}
use Rattle.pa_discharge.proofs.Room.{discharged_fewer}
use Rattle.pa_discharge.proofs.Told.{nominal_columns}

-- the answer is not that the pivots were used up
abbrev IsNotUsedUp : {A : Type 0} → Result A DischargeFault → Type 0
IsNotUsedUp r = (place : Place) → r ≡ Err (fault.PivotLimit place) → ⊥

-- ---- steps one after another
after_halts : {A B : Type 0} (r : Result A Halt) (next : A → Result B DischargeFault) → IsNotLimited r → ((a : A) → IsNotUsedUp (next a))
    → IsNotUsedUp (and_then (told_as halted r) next)
after_halts (Ok a) next not later place h = later a place h
after_halts (Err halt.Memory) next not later place h = cc
after_halts (Err (halt.PivotLimit p)) next not later place h = not p refl
after_halts (Err (halt.Wide p)) next not later place h = cc

after_refusals : {A B : Type 0} (r : Result A DischargeFault) (next : A → Result B DischargeFault) → IsNotUsedUp r → ((a : A) → IsNotUsedUp (next a))
    → IsNotUsedUp (and_then r next)
after_refusals (Ok a) next not later place h = later a place h
after_refusals (Err fault.Memory) next not later place h = cc
after_refusals (Err (fault.NoMultipliers s)) next not later place h = cc
after_refusals (Err (fault.Circle ss)) next not later place h = cc
after_refusals (Err (fault.PivotLimit p)) next not later place h = not p refl
after_refusals (Err (fault.Wide p)) next not later place h = cc

-- the terms have a column for each name
terms_long : (names : List Name) (ps : List Contract)
    → All (λ (ts : List Row). All (λ (t : Row). length t.c ≡ length names) ts) (map (assumptions_over names) ps)
terms_long names [] = All-nil (λ (ts : List Row). All (λ (t : Row). length t.c ≡ length names) ts)
terms_long names (p ∷ ps) =
    All-cons (λ (ts : List Row). All (λ (t : Row). length t.c ≡ length names) ts) (assumptions_over names p) (map (assumptions_over names) ps)
    (assumptions_long names p) (terms_long names ps)

module _ (parts : List Contract) (x : Point) (most : ℕ) (fits : length x.p ≡ length (external_inputs parts))
    (bases : HasFewBases (length (all_guarantees parts)) (length (all_outputs parts)) most) where
  abbrev asked : Asked
  asked = record { parts = parts; nominal = x; most = most }

  abbrev AreLong : List Row → Type 0
  AreLong ts = All (λ (t : Row). length t.c ≡ length (names_of parts)) ts

  module _ (rows : List Row) (fewer : length rows ≤ length (all_guarantees parts)) where
    abbrev premises : Premises
    premises = record { nominal = x; rows = rows }

    -- ---- a trial
    shift_few : HasFewBases (length rows) (length (names_of parts) - length x.p) most
    shift_few =
        let both = length-append (external_inputs parts) (all_outputs parts) in
        let outputs : length (all_outputs parts) ≡ length (names_of parts) - length x.p = omega (arith, both, fits) in
        subst (λ k. HasFewBases (length rows) k most) outputs
        (fewer_bases (length rows) (length (all_guarantees parts)) (length (all_outputs parts)) most fewer bases)

    tried : (turn : Turn) (part : ℕ) (ts : List Row) → AreLong ts → IsNotLimited (tried_of premises most turn part ts)
    tried turn part ts long = tried_not_limited premises most turn part (length (names_of parts)) shift_few ts long

    -- ---- a round
    turned : (round part : ℕ) (ts : List Row) → AreLong ts → (r : AfterRound) (b : Option Brought) → IsNotLimited (turn_of premises most round part ts r b)
    turned round part ts long r (Some b) = value_not_limited _
    turned round part ts long r None =
        next_not_limited (tried_of premises most (turns.InRound round) part ts) (λ trial. Ok (after_trial round part r trial))
        (tried (turns.InRound round) part ts long) (λ trial. value_not_limited (after_trial round part r trial))

    round_on : (round part : ℕ) (terms : List (List Row)) → All AreLong terms → (r : AfterRound) (bs : List (Option Brought))
        → IsNotLimited (round_from premises most round part terms r bs)
    round_on round part [] long r bs = value_not_limited r
    round_on round part (ts ∷ terms) long r [] = value_not_limited r
    round_on round part (ts ∷ terms) long r (b ∷ bs) =
        next_not_limited (turn_of premises most round part ts r b) (λ next. round_from premises most round (suc part) terms next bs)
        (turned round part ts (All-head AreLong ts terms long) r b) (λ next. round_on round (suc part) terms (All-tail AreLong ts terms long) next bs)

    -- ---- over all guarantees
    whole_turned : (part : ℕ) (ts : List Row) → AreLong ts → (b : Option Brought) → IsNotLimited (whole_turn premises most part ts b)
    whole_turned part ts long (Some b) = value_not_limited _
    whole_turned part ts long None =
        next_not_limited (tried_of premises most turns.Whole part ts) (λ trial. Ok (stuck_at part trial)) (tried turns.Whole part ts long)
        (λ trial. value_not_limited (stuck_at part trial))

    whole_on : (part : ℕ) (terms : List (List Row)) → All AreLong terms → (bs : List (Option Brought)) → IsNotLimited (whole_from premises most part terms bs)
    whole_on part [] long bs = value_not_limited _
    whole_on part (ts ∷ terms) long [] = value_not_limited _
    whole_on part (ts ∷ terms) long (b ∷ bs) =
        next_not_limited (whole_turn premises most part ts b)
        (λ found. given (whole_from premises most (suc part) terms bs) found (λ stuck. Ok (Some stuck)))
        (whole_turned part ts (All-head AreLong ts terms long) b) (by (whole_on (suc part) terms (All-tail AreLong ts terms long) bs))
      where
        by : IsNotLimited (whole_from premises most (suc part) terms bs) → (found : Option Stuck)
            → IsNotLimited (given (whole_from premises most (suc part) terms bs) found (λ stuck. Ok (Some stuck)))
        by rest None = rest
        by rest (Some s) = value_not_limited (Some s)

  -- ---- the rounds
  long : All AreLong (terms_of parts)
  long = terms_long (names_of parts) parts

  no_more : (bs : List (Option Brought)) (stuck : List Stuck) → IsNotUsedUp (no_discharge asked bs stuck)
  no_more bs stuck =
      after_halts (whole_from (whole_of asked) most 0 (terms_of parts) bs) (λ found. Err (refused_by stuck found))
      (whole_on (all_guarantees parts) (omega arith) 0 (terms_of parts) long bs) by
    where
      by : (found : Option Stuck) → IsNotUsedUp (let r : Result (List (Option Brought)) DischargeFault = Err (refused_by stuck found) in r)
      by None place h = cc
      by (Some s) place h = cc

  settled_on : (bs : List (Option Brought)) (r : AfterRound) → IsNotUsedUp (settled asked bs r)
  settled_on bs r = by (discharged_count r.brought == discharged_count bs)
    where
      by : (b : Bool) → IsNotUsedUp (cond b (no_discharge asked bs r.stuck) (Ok r.brought))
      by true = no_more bs r.stuck
      by false = λ place h. cc

  round_done : (round : ℕ) (bs : List (Option Brought)) → IsNotUsedUp (round_in asked round bs)
  round_done round bs =
      after_halts (round_from (premises_of asked bs) most round 0 (terms_of parts) (record { brought = []; stuck = [] }) bs) (settled asked bs)
      (round_on (discharged_rows (names_of parts) parts bs) (discharged_fewer (names_of parts) parts bs) round 0 (terms_of parts) long
      (record { brought = []; stuck = [] }) bs) (settled_on bs)

  rounds_on : (round left : ℕ) (bs : List (Option Brought)) → IsNotUsedUp (rounds_from asked round left bs)
  rounds_on round zero bs = λ place h. cc
  rounds_on round (suc left) bs =
      by (are_discharged bs) (after_refusals (round_in asked round bs) (rounds_from asked (suc round) left) (round_done round bs) (rounds_on (suc round) left))
    where
      by : (b : Bool) → IsNotUsedUp (and_then (round_in asked round bs) (rounds_from asked (suc round) left))
          → IsNotUsedUp (cond b (Ok bs) (and_then (round_in asked round bs) (rounds_from asked (suc round) left)))
      by true rest = λ place h. cc
      by false rest = rest

-- so no discharge is limited
pub discharged_not_limited : (parts : List Contract) (nominal : Nominal) (most : ℕ)
    → HasFewBases (length (all_guarantees parts)) (length (all_outputs parts)) most → IsNotUsedUp (discharged_of parts nominal most)
discharged_not_limited parts nominal most bases =
    by (nominal_in nominal (external_inputs parts)) refl
    (wide_not_limited task.Nominal Main Check (point_in (map (value_of nominal) (external_inputs parts))))
  where
    by : (r : Result Point Halt) → nominal_in nominal (external_inputs parts) ≡ r → IsNotLimited r
        → IsNotUsedUp (and_then (told_as halted r) (λ x.
        and_then (brought_of (record { parts = parts; nominal = x; most = most })) (λ bs. Ok (discharged_by bs))))
    by (Ok x) made not =
        after_refusals (brought_of (record { parts = parts; nominal = x; most = most })) (λ bs. Ok (discharged_by bs))
        (rounds_on parts x most (nominal_columns nominal (external_inputs parts) x made) bases 0 (length parts) (replicate (length parts) None))
        (λ bs place h. cc)
    by (Err halt.Memory) made not = λ place h. cc
    by (Err (halt.PivotLimit p)) made not = λ place h. not p refl
    by (Err (halt.Wide p)) made not = λ place h. cc

err_same : {A E : Type 0} (x y : E) → (let r : Result A E = Err x in r) ≡ Err y → x ≡ y
err_same x y h = cc

-- nor is the answer of a call
pub discharge_unlimited : (parts : List Contract) (nominal : Nominal) (most : ℕ) (result : Result Discharged DischargeFault)
    → IsAnswer fault.Memory (discharged_of parts nominal most) result → HasFewBases (length (all_guarantees parts)) (length (all_outputs parts)) most
    → IsNotUsedUp result
discharge_unlimited parts nominal most (Ok d) answer bases place h = cc
discharge_unlimited parts nominal most (Err e) (inl free) bases place h = wrong (sym free ∙ err_same {A = Discharged} e (fault.PivotLimit place) h)
  where
    wrong : fault.Memory ≡ fault.PivotLimit place → ⊥
    wrong h = cc
discharge_unlimited parts nominal most (Err e) (inr is) bases place h = discharged_not_limited parts nominal most bases place (is ∙ h)
