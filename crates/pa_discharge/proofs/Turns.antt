-- What the definition of a round answers is one: a part that was discharged stays so, and each other part goes through its trial or is stuck where that ends.
-- Likewise the first trial that ends over all parts' guarantees. Their faults are at the assumptions of the parts, and never want of memory.
use Rattle.std.proofs.Common.{◌≡◌, ◌⊎◌, inl, inr, refl, sym, ◌∙◌, subst, ℕ, suc, List, [], ◌∷◌, ◌++◌, length, All, Option, Some, None}
use Rattle.std.proofs.Common.{Result, Ok, Err, arith, append_assoc, append-nil}
use Rattle.std.proofs.lemmas.List.Elements.{All-head, All-tail}
use Rattle.pa_math.specs.Answers.{and_then, given}
use Rattle.pa_meaning.specs.Rows.{Row}
use Rattle.pa_meaning.specs.Directions.{Stuck}
use Rattle.pa_row.specs.declared.place.Halt.{Halt}
use Rattle.pa_farkas.proofs.Defined.{Holds}
use Rattle.pa_shift.specs.Shifting.{Premises}
use Rattle.pa_shift.specs.Meant.{CanShift}
use Rattle.pa_trial.specs.declared.trial.Trial.{Trial}
use Rattle.pa_trial.specs.declared.trial.Trial.TheVariants.{Through, Stopped}
use Rattle.pa_trial.specs.declared.trial.Turn.TheVariants as turns
use Rattle.pa_discharge.specs.Rounds.{AfterRound, Brought}
use Rattle.pa_trial.specs.Trying.{tried_of}
use Rattle.pa_discharge.specs.Discharging.{after_trial, round_from, round_of, stuck_at, whole_from, with_standing, with_stuck}
use Rattle.pa_trial.specs.Meant.{AreServed, IsTrial}
use Rattle.pa_discharge.proofs.States.{AreStuck, IsFirstFound, StopsAt}
use Rattle.pa_trial.proofs.Trials.{IsRowOf, IsTrialFault, fault_wider, trial_served, trial_unserved, tried_is}

-- an assumption of these parts, of which the first has the place here
abbrev pub IsRowIn : ℕ → List (List Row) → ℕ → ℕ → Type 0
IsRowIn here [] part row = ⊥
IsRowIn here (rows ∷ terms) part row = IsRowOf here (length rows) part row ⊎ IsRowIn (suc here) terms part row

-- each list of terms can be brought to the columns that stay
abbrev pub CanShiftEach : Premises → List (List Row) → Type 0
CanShiftEach premises terms = All (λ rows. All (CanShift premises) rows) terms

-- ---- turns
-- a part before and after its turn
abbrev pub IsTurned : Premises → ℕ → List Row → Option Brought → Option Brought → Type 0
IsTurned premises round rows (Some b) None = ⊥
IsTurned premises round rows (Some b) (Some c) = c ≡ b
IsTurned premises round rows None None = ¬ AreServed premises rows
IsTurned premises round rows None (Some c) = (c.round ≡ round) × IsTrial premises rows (Through c.lefts)

abbrev pub AreTurned : Premises → ℕ → List (List Row) → List (Option Brought) → List (Option Brought) → Type 0
AreTurned premises round [] [] [] = Unit {0}
AreTurned premises round [] [] (c ∷ cs) = ⊥
AreTurned premises round [] (b ∷ bs) cs = ⊥
AreTurned premises round (rows ∷ terms) [] cs = ⊥
AreTurned premises round (rows ∷ terms) (b ∷ bs) [] = ⊥
AreTurned premises round (rows ∷ terms) (b ∷ bs) (c ∷ cs) = IsTurned premises round rows b c × AreTurned premises round terms bs cs

-- the turns of these parts, of which the first has the place here, lead from one state of the round to the other
pub record LeadsTo (premises : Premises) (round here : ℕ) (terms : List (List Row)) (bs : List (Option Brought)) (r next : AfterRound) : Type 0 where
  pub parts : List (Option Brought)
  pub ends : List Stuck
  pub brought_is : next.brought ≡ r.brought ++ parts
  pub stuck_is : next.stuck ≡ r.stuck ++ ends
  pub turned : AreTurned premises round terms bs parts
  pub stopped : AreStuck premises here terms parts ends

module _ (premises : Premises) (most round : ℕ) where
  leads_none : (here : ℕ) (r : AfterRound) → LeadsTo premises round here [] [] r r
  leads_none here r = record {
    parts = [];
    ends = [];
    brought_is = sym (append-nil r.brought);
    stuck_is = sym (append-nil r.stuck);
    turned = tt;
    stopped = refl;
  }

  leads_some : (here : ℕ) (rows : List Row) (terms : List (List Row)) (b : Option Brought) (bs : List (Option Brought)) (c : Brought) (r next : AfterRound)
      → IsTurned premises round rows b (Some c) → LeadsTo premises round (suc here) terms bs (with_standing r (Some c)) next
      → LeadsTo premises round here (rows ∷ terms) (b ∷ bs) r next
  leads_some here rows terms b bs c r next turn h = record {
    parts = Some c ∷ h.parts;
    ends = h.ends;
    brought_is = h.brought_is ∙ append_assoc r.brought (Some c ∷ []) h.parts;
    stuck_is = h.stuck_is;
    turned = (turn, h.turned);
    stopped = h.stopped;
  }

  leads_stuck : (here : ℕ) (rows : List Row) (terms : List (List Row)) (bs : List (Option Brought)) (s : Stuck) (r next : AfterRound)
      → StopsAt premises here rows s → LeadsTo premises round (suc here) terms bs (with_stuck (with_standing r None) s) next
      → LeadsTo premises round here (rows ∷ terms) (None ∷ bs) r next
  leads_stuck here rows terms bs s r next stops h = record {
    parts = None ∷ h.parts;
    ends = s ∷ h.ends;
    brought_is = h.brought_is ∙ append_assoc r.brought (None ∷ []) h.parts;
    stuck_is = h.stuck_is ∙ append_assoc r.stuck (s ∷ []) h.ends;
    turned = (trial_unserved premises rows s.row s.direction stops.1, h.turned);
    stopped = (stops, h.stopped);
  }

  -- ---- a round
  abbrev IsRoundFault : ℕ → List (List Row) → Halt → Type 0
  IsRoundFault here terms h = IsTrialFault most (turns.InRound round) (IsRowIn here terms) h

  abbrev Leads : ℕ → List (List Row) → List (Option Brought) → AfterRound → Result AfterRound Halt → Type 0
  Leads here terms bs r result = Holds (LeadsTo premises round here terms bs r) (IsRoundFault here terms) result

  -- the other turns, once the first part has had its own
  others_led : (here : ℕ) (rows : List Row) (terms : List (List Row)) (b : Option Brought) (bs : List (Option Brought)) (r middle : AfterRound)
      → ((next : AfterRound) → LeadsTo premises round (suc here) terms bs middle next → LeadsTo premises round here (rows ∷ terms) (b ∷ bs) r next)
      → (result : Result AfterRound Halt) → Leads (suc here) terms bs middle result → Leads here (rows ∷ terms) (b ∷ bs) r result
  others_led here rows terms b bs r middle leads (Ok next) h = record { ok = leads next h.ok; err = tt }
  others_led here rows terms b bs r middle leads (Err e) h = record {
    ok = tt;
    err = fault_wider most (turns.InRound round) (IsRowIn (suc here) terms) (IsRowIn here (rows ∷ terms)) (λ part row at. inr at) e h.err;
  }

  -- by the trial of the first part
  trial_led : (here : ℕ) (rows : List Row) (terms : List (List Row)) (bs : List (Option Brought)) (r : AfterRound)
      → (rest : AfterRound → Result AfterRound Halt) → ((middle : AfterRound) → Leads (suc here) terms bs middle (rest middle))
      → (result : Result Trial Halt) → Holds (IsTrial premises rows) (IsTrialFault most (turns.InRound round) (IsRowOf here (length rows))) result
      → Leads here (rows ∷ terms) (None ∷ bs) r (and_then (and_then result (λ trial. Ok (after_trial round here r trial))) rest)
  trial_led here rows terms bs r rest led (Ok (Through lefts)) h =
      let c : Brought = record { round = round; lefts = lefts } in
      others_led here rows terms None bs r (with_standing r (Some c)) (λ next. leads_some here rows terms None bs c r next (refl, h.ok))
      (rest (with_standing r (Some c))) (led (with_standing r (Some c)))
  trial_led here rows terms bs r rest led (Ok (Stopped i d)) h =
      let s : Stuck = record { part = here; row = i; direction = d } in
      others_led here rows terms None bs r (with_stuck (with_standing r None) s) (λ next. leads_stuck here rows terms bs s r next (refl, h.ok))
      (rest (with_stuck (with_standing r None) s)) (led (with_stuck (with_standing r None) s))
  trial_led here rows terms bs r rest led (Err e) h = record {
    ok = tt;
    err = fault_wider most (turns.InRound round) (IsRowOf here (length rows)) (IsRowIn here (rows ∷ terms)) (λ part row at. inl at) e h.err;
  }

  round_led : (here : ℕ) (terms : List (List Row)) (r : AfterRound) (bs : List (Option Brought)) → length bs ≡ length terms
      → CanShiftEach premises terms → Leads here terms bs r (round_from premises most round here terms r bs)
  round_led here [] r [] long can = record { ok = leads_none here r; err = tt }
  round_led here [] r (b ∷ bs) long can = absurd (omega (arith, long))
  round_led here (rows ∷ terms) r [] long can = absurd (omega (arith, long))
  round_led here (rows ∷ terms) r (Some b ∷ bs) long can =
      others_led here rows terms (Some b) bs r (with_standing r (Some b)) (λ next. leads_some here rows terms (Some b) bs b r next refl)
      (round_from premises most round (suc here) terms (with_standing r (Some b)) bs)
      (round_led (suc here) terms (with_standing r (Some b)) bs (omega (arith, long)) (All-tail (λ rows. All (CanShift premises) rows) rows terms can))
  round_led here (rows ∷ terms) r (None ∷ bs) long can =
      trial_led here rows terms bs r (λ next. round_from premises most round (suc here) terms next bs)
      (λ next. round_led (suc here) terms next bs (omega (arith, long)) (All-tail (λ rows. All (CanShift premises) rows) rows terms can))
      (tried_of premises most (turns.InRound round) here rows)
      (tried_is premises most (turns.InRound round) here rows (All-head (λ rows. All (CanShift premises) rows) rows terms can))

-- what a round leaves, from how the parts stood before it
pub record IsRound (premises : Premises) (round : ℕ) (terms : List (List Row)) (bs : List (Option Brought)) (r : AfterRound) : Type 0 where
  pub turned : AreTurned premises round terms bs r.brought
  pub stopped : AreStuck premises 0 terms r.brought r.stuck

pub round_is : (premises : Premises) (most round : ℕ) (terms : List (List Row)) (bs : List (Option Brought)) → length bs ≡ length terms
    → CanShiftEach premises terms
    → Holds (IsRound premises round terms bs) (IsTrialFault most (turns.InRound round) (IsRowIn 0 terms)) (round_of premises most round terms bs)
round_is premises most round terms bs long can = by (round_of premises most round terms bs)
    (round_led premises most round 0 terms (record { brought = []; stuck = [] }) bs long can)
  where
    by : (result : Result AfterRound Halt) → Holds (LeadsTo premises round 0 terms bs (record { brought = []; stuck = [] }))
        (IsTrialFault most (turns.InRound round) (IsRowIn 0 terms)) result
        → Holds (IsRound premises round terms bs) (IsTrialFault most (turns.InRound round) (IsRowIn 0 terms)) result
    by (Ok r) h = record {
      ok = record {
        turned = subst (AreTurned premises round terms bs) (sym h.ok.brought_is) h.ok.turned;
        stopped = subst (λ ss. AreStuck premises 0 terms r.brought ss) (sym h.ok.stuck_is)
            (subst (λ cs. AreStuck premises 0 terms cs h.ok.ends) (sym h.ok.brought_is) h.ok.stopped);
      };
      err = tt;
    }
    by (Err e) h = record { ok = tt; err = h.err }

-- ---- over all parts' guarantees
module _ (premises : Premises) (most : ℕ) where
  abbrev IsFound : ℕ → List (List Row) → List (Option Brought) → Result (Option Stuck) Halt → Type 0
  IsFound here terms bs r = Holds (IsFirstFound premises here terms bs) (IsTrialFault most turns.Whole (IsRowIn here terms)) r

  found_fault : (here : ℕ) (rows : List Row) (terms : List (List Row)) (e : Halt) → IsTrialFault most turns.Whole (IsRowIn (suc here) terms) e
      → IsTrialFault most turns.Whole (IsRowIn here (rows ∷ terms)) e
  found_fault here rows terms e f = fault_wider most turns.Whole (IsRowIn (suc here) terms) (IsRowIn here (rows ∷ terms)) (λ part row at. inr at) e f

  -- a part that is discharged is passed
  found_passed : (here : ℕ) (rows : List Row) (terms : List (List Row)) (b : Brought) (bs : List (Option Brought)) (r : Result (Option Stuck) Halt)
      → IsFound (suc here) terms bs r → IsFound here (rows ∷ terms) (Some b ∷ bs) r
  found_passed here rows terms b bs (Ok found) h = record { ok = h.ok; err = tt }
  found_passed here rows terms b bs (Err e) h = record { ok = tt; err = found_fault here rows terms e h.err }

  -- and so is one whose trial goes through
  found_later : (here : ℕ) (rows : List Row) (terms : List (List Row)) (bs : List (Option Brought)) → AreServed premises rows
      → (r : Result (Option Stuck) Halt) → IsFound (suc here) terms bs r → IsFound here (rows ∷ terms) (None ∷ bs) r
  found_later here rows terms bs served (Ok None) h = record { ok = (served, h.ok); err = tt }
  found_later here rows terms bs served (Ok (Some s)) h = record { ok = inr (served, h.ok); err = tt }
  found_later here rows terms bs served (Err e) h = record { ok = tt; err = found_fault here rows terms e h.err }

  found_by : (here : ℕ) (rows : List Row) (terms : List (List Row)) (bs : List (Option Brought)) (rest : Result (Option Stuck) Halt)
      → IsFound (suc here) terms bs rest
      → (result : Result Trial Halt) → Holds (IsTrial premises rows) (IsTrialFault most turns.Whole (IsRowOf here (length rows))) result
      → IsFound here (rows ∷ terms) (None ∷ bs)
      (and_then (and_then result (λ trial. Ok (stuck_at here trial))) (λ found. given rest found (λ stuck. Ok (Some stuck))))
  found_by here rows terms bs rest h (Ok (Through lefts)) t = found_later here rows terms bs (trial_served premises rows lefts t.ok) rest h
  found_by here rows terms bs rest h (Ok (Stopped i d)) t = record { ok = inl (refl, t.ok); err = tt }
  found_by here rows terms bs rest h (Err e) t = record {
    ok = tt;
    err = fault_wider most turns.Whole (IsRowOf here (length rows)) (IsRowIn here (rows ∷ terms)) (λ part row at. inl at) e t.err;
  }

  pub whole_is : (here : ℕ) (terms : List (List Row)) (bs : List (Option Brought)) → CanShiftEach premises terms
      → IsFound here terms bs (whole_from premises most here terms bs)
  whole_is here [] bs can = record { ok = refl; err = tt }
  whole_is here (rows ∷ terms) [] can = record { ok = refl; err = tt }
  whole_is here (rows ∷ terms) (Some b ∷ bs) can =
      found_passed here rows terms b bs (whole_from premises most (suc here) terms bs)
      (whole_is (suc here) terms bs (All-tail (λ rows. All (CanShift premises) rows) rows terms can))
  whole_is here (rows ∷ terms) (None ∷ bs) can =
      found_by here rows terms bs (whole_from premises most (suc here) terms bs)
      (whole_is (suc here) terms bs (All-tail (λ rows. All (CanShift premises) rows) rows terms can))
      (tried_of premises most turns.Whole here rows)
      (tried_is premises most turns.Whole here rows (All-head (λ rows. All (CanShift premises) rows) rows terms can))
