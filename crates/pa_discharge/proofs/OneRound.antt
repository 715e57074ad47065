-- A round keeps the parts that were discharged before it and discharges others in itself; where it discharges none, all stand as they did.
use Rattle.std.proofs.Common.{◌≡◌, ◌∙◌, ap, ap₂, refl, sym, subst, ℕ, suc, ◌+◌, ◌<◌, ◌≤◌, List, [], ◌∷◌, ◌++◌, length, map, Bool, true, false, IfOk, ◌⊎◌}
use Rattle.std.proofs.Common.{Option, Some, None, Result, Ok, Err, append-nil, append_assoc, nat_eq, All, arith, inl, inr}
use Rattle.std.specs.Prelude.{if◌then◌else◌}
use Rattle.std.proofs.lemmas.Bool.{eq-eqb, ne_eqb}
use Rattle.std.proofs.lemmas.List.Elements.{All-nil, All-cons, All-head, All-tail}
use Rattle.pa_math.specs.Answers.{and_then, IsAnswer}
use Rattle.pa_math.proofs.Answers.{and_then_ok, ok_same}
use Rattle.pa_meaning.specs.Rows.{Row}
use Rattle.pa_row.specs.declared.place.Halt.{Halt}
use Rattle.pa_shift.specs.Shifting.{Premises}
use Rattle.pa_discharge.specs.declared.fault.DischargeFault.{DischargeFault}
use Rattle.pa_discharge.specs.declared.fault.DischargeFault.TheVariants as fault
use Rattle.pa_trial.specs.declared.trial.Trial.{Trial}
use Rattle.pa_trial.specs.declared.trial.Trial.TheVariants.{Through, Stopped}
use Rattle.pa_trial.specs.declared.trial.Turn.TheVariants.{InRound}
use Rattle.pa_discharge.specs.Rounds.{Brought, AfterRound}
use Rattle.pa_trial.specs.Trying.{tried_of}
use Rattle.pa_discharge.specs.Discharging.{Asked, after_trial, discharged_count, no_discharge, round_from, round_of, settled, turn_of}
use Rattle.pa_discharge.specs.Seen.{before, IsAfter, IsBefore, IsRefusal}

-- ---- one part
not_equal : (a b : ℕ) → a < b → nat_eq a b ≡ false
not_equal a b less = ne_eqb a b (λ same. omega (arith, same, less))

-- what was discharged before a round stays so
kept_before : (round : ℕ) (b : Brought) → b.round < round → before round (Some b) ≡ Some b
kept_before round b less = ap (λ t. if t then None else Some b) (not_equal b.round round less)

-- what is discharged in a round was not before it
new_before : (round : ℕ) (b : Brought) → b.round ≡ round → before round (Some b) ≡ None
new_before round b is = ap (λ t. if t then None else Some b) (eq-eqb b.round round is)

-- a turn adds how the part stands after it
record AfterTurn (round : ℕ) (r : AfterRound) (b : Option Brought) (next : AfterRound) : Type 0 where
  part : Option Brought
  adds : next.brought ≡ r.brought ++ part ∷ []
  same : before round part ≡ b
  round_fits : IsBefore (round + 1) part

turn_after : (premises : Premises) (most round part : ℕ) (rows : List Row) (r : AfterRound) (b : Option Brought) (next : AfterRound) → IsBefore round b
    → turn_of premises most round part rows r b ≡ Ok next → AfterTurn round r b next
turn_after premises most round part rows r (Some b) next less turn = record {
  part = Some b;
  adds = ap (λ n. n.brought) (sym (ok_same _ next turn));
  same = kept_before round b less;
  round_fits = omega (arith, less);
}
turn_after premises most round part rows r None next less turn = by (tried_of premises most (InRound round) part rows) turn
  where
    by : (t : Result Trial Halt) → and_then t (λ trial. Ok (after_trial round part r trial)) ≡ Ok next → AfterTurn round r None next
    by (Err h) e = absurd (cc)
    by (Ok (Through lefts)) e = record {
      part = Some (record { round = round; lefts = lefts });
      adds = ap (λ n. n.brought) (sym (ok_same _ next e));
      same = new_before round (record { round = round; lefts = lefts }) refl;
      round_fits = omega arith;
    }
    by (Ok (Stopped i d)) e = record { part = None; adds = ap (λ n. n.brought) (sym (ok_same _ next e)); same = refl; round_fits = tt }

-- ---- all parts
-- the turns of these parts add how they stand after them
record AfterTurns (round : ℕ) (r : AfterRound) (bs : List (Option Brought)) (next : AfterRound) : Type 0 where
  parts : List (Option Brought)
  adds : next.brought ≡ r.brought ++ parts
  after : IsAfter round bs parts

turns_after : (premises : Premises) (most round part : ℕ) (terms : List (List Row)) (r : AfterRound) (bs : List (Option Brought)) (next : AfterRound)
    → length bs ≤ length terms → All (IsBefore round) bs → round_from premises most round part terms r bs ≡ Ok next → AfterTurns round r bs next
turns_after premises most round part [] r [] next fit less turns = record {
  parts = [];
  adds = ap (λ n. n.brought) (sym (ok_same r next turns)) ∙ sym (append-nil r.brought);
  after = record { parts = refl; same = refl; rounds = All-nil (IsBefore (round + 1)) };
}
turns_after premises most round part [] r (b ∷ bs) next fit less turns = absurd (omega (arith, fit))
turns_after premises most round part (rows ∷ terms) r [] next fit less turns = record {
  parts = [];
  adds = ap (λ n. n.brought) (sym (ok_same r next turns)) ∙ sym (append-nil r.brought);
  after = record { parts = refl; same = refl; rounds = All-nil (IsBefore (round + 1)) };
}
turns_after premises most round part (rows ∷ terms) r (b ∷ bs) next fit less turns =
    let (mid, turn, rest) = and_then_ok (turn_of premises most round part rows r b) (λ mid. round_from premises most round (suc part) terms mid bs) next
    (sym turns) in
    let here = turn_after premises most round part rows r b mid (All-head (IsBefore round) b bs less) (sym turn) in
    let others = turns_after premises most round (suc part) terms mid bs next (omega (arith, fit)) (All-tail (IsBefore round) b bs less) (sym rest) in
    record {
      parts = here.part ∷ others.parts;
      adds = others.adds ∙ ap (λ l. l ++ others.parts) here.adds ∙ append_assoc r.brought (here.part ∷ []) others.parts;
      after = record {
        parts = ap suc others.after.parts;
        same = ap₂ (λ (c : Option Brought) cs. c ∷ cs) here.same others.after.same;
        rounds = All-cons (IsBefore (round + 1)) here.part others.parts here.round_fits others.after.rounds;
      };
    }

pub round_after : (premises : Premises) (most round : ℕ) (terms : List (List Row)) (bs : List (Option Brought)) (next : AfterRound)
    → length bs ≤ length terms → All (IsBefore round) bs → round_of premises most round terms bs ≡ Ok next → IsAfter round bs next.brought
round_after premises most round terms bs next fit less turns =
    let all = turns_after premises most round 0 terms (record { brought = []; stuck = [] }) bs next fit less turns in
    subst (IsAfter round bs) (sym all.adds) all.after

-- ---- where a round discharges none
count_before : (round : ℕ) (bs : List (Option Brought)) → discharged_count (map (before round) bs) ≤ discharged_count bs
count_before round [] = omega arith
count_before round (None ∷ bs) = count_before round bs
count_before round (Some b ∷ bs) = by (nat_eq b.round round) (count_before round bs)
  where
    by : (t : Bool) → discharged_count (map (before round) bs) ≤ discharged_count bs
        → discharged_count ((if t then None else Some b) ∷ map (before round) bs) ≤ discharged_count (Some b ∷ bs)
    by true rest = omega (arith, rest)
    by false rest = omega (arith, rest)

pub none_new : (round : ℕ) (bs : List (Option Brought)) → discharged_count bs ≡ discharged_count (map (before round) bs) → map (before round) bs ≡ bs
none_new round [] h = refl
none_new round (None ∷ bs) h = ap (λ cs. None ∷ cs) (none_new round bs h)
none_new round (Some b ∷ bs) h = by (nat_eq b.round round) h (count_before round bs) (none_new round bs)
  where
    by : (t : Bool) → discharged_count (Some b ∷ bs) ≡ discharged_count ((if t then None else Some b) ∷ map (before round) bs)
        → discharged_count (map (before round) bs) ≤ discharged_count bs
        → (discharged_count bs ≡ discharged_count (map (before round) bs) → map (before round) bs ≡ bs)
        → (if t then None else Some b) ∷ map (before round) bs ≡ Some b ∷ bs
    by true h fewer same = absurd (omega (arith, h, fewer))
    by false h fewer same = ap (λ cs. Some b ∷ cs) (same (omega (arith, h)))

-- so its refusal is that of the parts as they stood
pub refused_same : (asked : Asked) (round : ℕ) (r : AfterRound) (due : DischargeFault)
    → discharged_count r.brought ≡ discharged_count (map (before round) r.brought) → IsRefusal (no_discharge asked r.brought r.stuck) due
    → (due ≡ fault.Memory) ⊎ (settled asked (map (before round) r.brought) r ≡ Err due)
refused_same asked round r due none (inl memory) = inl memory
refused_same asked round r due none (inr refused) = inr
    (ap (λ t. if t then no_discharge asked (map (before round) r.brought) r.stuck else Ok r.brought)
    (eq-eqb (discharged_count r.brought) (discharged_count (map (before round) r.brought)) none)
    ∙ ap (λ bs. no_discharge asked bs r.stuck) (none_new round r.brought none) ∙ refused)

-- ---- answers
pub if_ok : {T E : Type 0} (memory : E) (due result : Result T E) (P : T → Type 0) → ((t : T) → due ≡ Ok t → P t) → IsAnswer memory due result → IfOk result P
if_ok memory due (Ok t) P h is = h t is
if_ok memory due (Err e) P h is = tt
