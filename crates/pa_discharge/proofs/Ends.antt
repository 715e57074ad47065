-- How the rounds end: with all parts discharged, at a round that discharges none, with the first assumption that has no weights over all parts' guarantees
-- or with none, or at a number that is too wide, or a limit of pivots, in the trial of an assumption. There are no more rounds than parts.
use Rattle.std.proofs.Common.{◌≡◌, inl, inr, refl, sym, ◌∙◌, subst, ℕ, zero, suc, ◌+◌, ◌<◌, ◌≤◌, List, [], ◌∷◌, length, map, Option, Some, None}
use Rattle.std.proofs.Common.{All, Bool, true, false, cond, Result, Ok, Err, sum_by, arith, length-append, eqb, eqb-true}
use Rattle.std.proofs.lemmas.Bool.{eqb-false}
use Rattle.std.proofs.lemmas.List.{length-map}
use Rattle.std.proofs.lemmas.List.Elements.{All-map, All-weaker}
use Rattle.std.proofs.lemmas.List.Sums.{sum_by-cons}
use lib.IntN.{pos}
use lib.Signed.{◌<ℤ◌}
use Rattle.pa_ring.proofs.Lists.{All-from_contains}
use Rattle.pa_math.specs.Answers.{and_then, told_as}
use Rattle.pa_meaning.specs.Rows.{Row}
use Rattle.pa_meaning.specs.Directions.{Stuck}
use Rattle.pa_meaning.specs.Contracts.{Name, Contract}
use Rattle.pa_meaning.specs.Composition.{all_outputs, assumptions_over, external_inputs, guarantees_over, names_of, part_at}
use Rattle.pa_row.specs.declared.place.Task.{Task}
use Rattle.pa_row.specs.declared.place.Task.TheVariants as task
use Rattle.pa_row.specs.declared.place.Sub.TheVariants.{Main}
use Rattle.pa_row.specs.declared.place.Halt.{Halt}
use Rattle.pa_row.specs.declared.place.Halt.TheVariants as halt
use Rattle.pa_contract.specs.Merge.{row_count}
use Rattle.pa_holds.specs.Limits.{IsPartRow}
use Rattle.pa_parts.proofs.Rows.{all_guarantees_few, all_guarantees_long, assumptions_count, assumptions_long, guarantees_count, guarantees_long}
use Rattle.pa_farkas.proofs.Defined.{Holds}
use Rattle.pa_shift.specs.Shifting.{Premises}
use Rattle.pa_shift.specs.Meant.{CanShift}
use Rattle.pa_shift.proofs.Defined.{IsShiftSpot}
use Rattle.pa_trial.specs.declared.trial.Turn.{Turn}
use Rattle.pa_trial.specs.declared.trial.Turn.TheVariants as turns
use Rattle.pa_discharge.specs.declared.fault.DischargeFault.{DischargeFault}
use Rattle.pa_discharge.specs.declared.fault.DischargeFault.TheVariants as fault
use Rattle.pa_discharge.specs.Rounds.{AfterRound, Brought}
use Rattle.pa_discharge.specs.Discharging.{Asked, are_discharged, brought_of, discharged_count, discharged_rows, halted, no_discharge, premises_of, refused_by}
use Rattle.pa_trial.specs.Trying.{task_of}
use Rattle.pa_discharge.specs.Discharging.{round_in, round_of, rounds_from, settled, terms_of, whole_from, whole_of}
use Rattle.pa_discharge.proofs.States.{CanAsk, IsFirstFound, IsLastRound, IsState}
use Rattle.pa_trial.proofs.Trials.{IsTrialFault}
use Rattle.pa_discharge.proofs.Turns.{CanShiftEach, IsRound, IsRowIn, round_is, whole_is}
use Rattle.pa_discharge.proofs.NextStates.{count_full, last_is, next_is, start_is}
use Rattle.pa_discharge.proofs.Outputs.{discharged_all}

-- ---- the trials can be made
discharged_few : (names : List Name) (ps : List Contract) (bs : List (Option Brought)) → length (discharged_rows names ps bs) ≤ sum_by row_count ps
discharged_few names [] bs = omega (arith)
discharged_few names (p ∷ ps) [] = omega (arith)
discharged_few names (p ∷ ps) (None ∷ bs) =
    let rest = discharged_few names ps bs in
    let sum = sum_by-cons row_count p ps in omega (arith, rest, sum)
discharged_few names (p ∷ ps) (Some b ∷ bs) =
    let here = guarantees_count names p in
    let rest = discharged_few names ps bs in
    let both = length-append (guarantees_over names p) (discharged_rows names ps bs) in
    let sum = sum_by-cons row_count p ps in omega (arith, here, rest, both, sum)

-- premises over the names, of which the nominal point has the external inputs
record ArePremises (parts : List Contract) (premises : Premises) : Type 0 where
  columns : All (λ (r : Row). length r.c ≡ length (names_of parts)) premises.rows
  few : length premises.rows ≤ 4096
  fits : length premises.nominal.p ≡ length (external_inputs parts)
  positive : pos 0 <ℤ premises.nominal.q

can_each : (parts : List Contract) (premises : Premises) → length (names_of parts) ≤ 128 → ArePremises parts premises
    → CanShiftEach premises (map (assumptions_over (names_of parts)) parts)
can_each parts premises short are =
    All-map (λ rows. All (CanShift premises) rows) (assumptions_over (names_of parts)) parts
    (All-from_contains (λ p. All (CanShift premises) (assumptions_over (names_of parts) p)) parts (λ p i.
    All-weaker (λ (r : Row). length r.c ≡ length (names_of parts)) (CanShift premises) (λ t long. record {
      columns = subst (λ k. All (λ (r : Row). length r.c ≡ k) premises.rows) (sym long) are.columns;
      nominal =
          let fits : length premises.nominal.p ≡ length (external_inputs parts) = are.fits in
          let both = length-append (external_inputs parts) (all_outputs parts) in
          omega (arith, long, fits, both);
      positive = are.positive;
      few = are.few;
      short = omega (arith, long, short);
    }) (assumptions_over (names_of parts) p) (assumptions_long (names_of parts) p)))

module _ (asked : Asked) (can : CanAsk asked) where
  can_round : (bs : List (Option Brought)) → CanShiftEach (premises_of asked bs) (terms_of asked.parts)
  can_round bs = can_each asked.parts (premises_of asked bs) can.short (record {
    columns = discharged_all (λ (r : Row). length r.c ≡ length (names_of asked.parts)) (names_of asked.parts) asked.parts bs
        (λ j b less at. guarantees_long (names_of asked.parts) (part_at asked.parts j));
    few =
        let less = discharged_few (names_of asked.parts) asked.parts bs in
        let most : sum_by row_count asked.parts ≤ 4096 = can.few in
        omega (arith, less, most);
    fits = can.fits;
    positive = can.positive;
  })

  can_whole : CanShiftEach (whole_of asked) (terms_of asked.parts)
  can_whole = can_each asked.parts (whole_of asked) can.short (record {
    columns = all_guarantees_long asked.parts;
    few =
        let less = all_guarantees_few asked.parts in
        let most : sum_by row_count asked.parts ≤ 4096 = can.few in
        omega (arith, less, most);
    fits = can.fits;
    positive = can.positive;
  })

-- ---- faults
-- the task is the trial of an assumption of a part, in a round or over all parts' guarantees
abbrev pub IsTrialTask : List Contract → Task → Type 0
IsTrialTask parts (task.Shift round part row) = (round < length parts) × IsPartRow parts part row
IsTrialTask parts (task.Whole part row) = IsPartRow parts part row
IsTrialTask parts other = ⊥

-- a round discharges no part: these are its stuck rows, and the first row without weights over all parts' guarantees, where there is one
pub record IsRefused (asked : Asked) (f : DischargeFault) : Type 0 where
  pub round : ℕ
  pub brought : List (Option Brought)
  pub stuck : List Stuck
  pub found : Option Stuck
  pub last : IsLastRound asked round brought stuck
  pub first : IsFirstFound (whole_of asked) 0 (terms_of asked.parts) brought found
  pub is : f ≡ refused_by stuck found

abbrev pub IsEndFault : Asked → DischargeFault → Type 0
IsEndFault asked fault.Memory = ⊥
IsEndFault asked (fault.NoMultipliers s) = IsRefused asked (fault.NoMultipliers s)
IsEndFault asked (fault.Circle ss) = IsRefused asked (fault.Circle ss)
IsEndFault asked (fault.PivotLimit p) = IsTrialTask asked.parts p.task × (p.sub ≡ Main)
IsEndFault asked (fault.Wide p) = IsTrialTask asked.parts p.task × (p.sub ≡ Main) × IsShiftSpot asked.most p.spot

row_in : (names : List Name) (here : ℕ) (ps : List Contract) (part row : ℕ) → IsRowIn here (map (assumptions_over names) ps) part row
    → (k : ℕ) × (part ≡ here + k) × (k < length ps) × (row < length (part_at ps k).assumptions)
row_in names here [] part row at = absurd at
row_in names here (p ∷ ps) part row (inl (is, less)) = (0, omega (arith, is), omega (arith), subst (λ n. row < n) (assumptions_count names p) less)
row_in names here (p ∷ ps) part row (inr at) =
    let (k, is, there, less) = row_in names (suc here) ps part row at in
    (suc k, omega (arith, is), omega (arith, there), less)

part_row : (parts : List Contract) (part row : ℕ) → IsRowIn 0 (terms_of parts) part row → IsPartRow parts part row
part_row parts part row at =
    let (k, is, there, less) = row_in (names_of parts) 0 parts part row at in
    let same : k ≡ part = omega (arith, is) in
    subst (λ part. IsPartRow parts part row) same (record { part_fits = there; row_fits = less })

halted_fault : (asked : Asked) (turn : Turn) → ((part row : ℕ) → IsRowIn 0 (terms_of asked.parts) part row → IsTrialTask asked.parts (task_of turn part row))
    → (h : Halt) → IsTrialFault asked.most turn (IsRowIn 0 (terms_of asked.parts)) h → IsEndFault asked (halted h)
halted_fault asked turn tasks halt.Memory f = f
halted_fault asked turn tasks (halt.PivotLimit p) (part, row, at, is, sub) = (subst (IsTrialTask asked.parts) (sym is) (tasks part row at), sub)
halted_fault asked turn tasks (halt.Wide p) (part, row, at, is, sub, spot) = (subst (IsTrialTask asked.parts) (sym is) (tasks part row at), sub, spot)

refused_fault : (asked : Asked) (ss : List Stuck) (found : Option Stuck) → IsRefused asked (refused_by ss found) → IsEndFault asked (refused_by ss found)
refused_fault asked ss None h = h
refused_fault asked ss (Some s) h = h

-- ---- a round
module _ (asked : Asked) (can : CanAsk asked) where
  abbrev Next : ℕ → Result (List (Option Brought)) DischargeFault → Type 0
  Next round r = Holds (IsState asked (suc round)) (IsEndFault asked) r

  module _ (round : ℕ) (bs : List (Option Brought)) (state : IsState asked round bs) (some : are_discharged bs ≡ false) where
    refusal_is : (ss : List Stuck) → IsLastRound asked round bs ss → Next round (no_discharge asked bs ss)
    refusal_is ss last =
        by (whole_from (whole_of asked) asked.most 0 (terms_of asked.parts) bs) (whole_is (whole_of asked) asked.most 0 (terms_of asked.parts) bs
        (can_whole asked can))
      where
        by : (w : Result (Option Stuck) Halt) → Holds (IsFirstFound (whole_of asked) 0 (terms_of asked.parts) bs)
            (IsTrialFault asked.most turns.Whole (IsRowIn 0 (terms_of asked.parts))) w
            → Next round (and_then (told_as halted w) (λ found. Err (refused_by ss found)))
        by (Ok found) h = record {
          ok = tt;
          err = refused_fault asked ss found
              (record { round = round; brought = bs; stuck = ss; found = found; last = last; first = h.ok; is = refl });
        }
        by (Err e) h = record { ok = tt; err = halted_fault asked turns.Whole (part_row asked.parts) e h.err }

    settled_is : (r : AfterRound) → IsRound (premises_of asked bs) round (terms_of asked.parts) bs r → Next round (settled asked bs r)
    settled_is r is = by (eqb (discharged_count r.brought) (discharged_count bs)) refl
      where
        by : (b : Bool) → eqb (discharged_count r.brought) (discharged_count bs) ≡ b → Next round (cond b (no_discharge asked bs r.stuck) (Ok r.brought))
        by true same =
            let none : discharged_count r.brought ≡ discharged_count bs = eqb-true (discharged_count r.brought) (discharged_count bs) same in
            refusal_is r.stuck (last_is asked round bs r state is none some)
        by false more = record {
          ok = next_is asked round bs r state is (eqb-false (discharged_count r.brought) (discharged_count bs) more);
          err = tt;
        }

    round_ended : round < length asked.parts → Next round (round_in asked round bs)
    round_ended low =
        by (round_of (premises_of asked bs) asked.most round (terms_of asked.parts) bs)
        (round_is (premises_of asked bs) asked.most round (terms_of asked.parts) bs
        (state.parts ∙ sym (length-map asked.parts (assumptions_over (names_of asked.parts)))) (can_round asked can bs))
      where
        by : (r : Result AfterRound Halt) → Holds (IsRound (premises_of asked bs) round (terms_of asked.parts) bs)
            (IsTrialFault asked.most (turns.InRound round) (IsRowIn 0 (terms_of asked.parts))) r
            → Next round (and_then (told_as halted r) (settled asked bs))
        by (Ok r) h = settled_is r h.ok
        by (Err e) h = record {
          ok = tt;
          err = halted_fault asked (turns.InRound round) (λ part row at. (low, part_row asked.parts part row at)) e h.err;
        }

  -- ---- all rounds
  abbrev pub IsEnd : List (Option Brought) → Type 0
  IsEnd bs = (round : ℕ) × IsState asked round bs × (are_discharged bs ≡ true)

  abbrev Ends : Result (List (Option Brought)) DischargeFault → Type 0
  Ends r = Holds IsEnd (IsEndFault asked) r

  more_rounds : (round : ℕ) (rest : List (Option Brought) → Result (List (Option Brought)) DischargeFault)
      → ((next : List (Option Brought)) → IsState asked (suc round) next → Ends (rest next))
      → (r : Result (List (Option Brought)) DischargeFault) → Next round r → Ends (and_then r rest)
  more_rounds round rest ends (Ok next) h = ends next h.ok
  more_rounds round rest ends (Err e) h = record { ok = tt; err = h.err }

  rounds_ended : (left round : ℕ) (bs : List (Option Brought)) → round + left ≡ length asked.parts → IsState asked round bs
      → Ends (rounds_from asked round left bs)
  rounds_ended zero round bs all state = record {
    ok = (
      round,
      state,
      let long : length bs ≡ length asked.parts = state.parts in
          let progress : round ≤ discharged_count bs = state.progress in
          count_full bs (omega (arith, all, long, progress)),
    );
    err = tt;
  }
  rounds_ended (suc left) round bs all state =
      by (are_discharged bs) refl (λ next is. rounds_ended left (suc round) next (omega (arith, all)) is)
    where
      by : (b : Bool) → are_discharged bs ≡ b
          → ((next : List (Option Brought)) → IsState asked (suc round) next → Ends (rounds_from asked (suc round) left next))
          → Ends (cond b (Ok bs) (and_then (round_in asked round bs) (rounds_from asked (suc round) left)))
      by true whole rest = record { ok = (round, state, whole); err = tt }
      by false some rest = more_rounds round (rounds_from asked (suc round) left) rest (round_in asked round bs)
          (round_ended round bs state some (omega (arith, all)))

  pub brought_is : Ends (brought_of asked)
  brought_is = rounds_ended (length asked.parts) 0 _ (omega (arith)) (start_is asked)
