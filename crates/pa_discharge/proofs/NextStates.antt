-- How the parts stand is kept from round to round: those that were discharged stay so, over the premises of their own rounds, and the others could not be
-- discharged before. Each round discharges one more part, or leaves all as they were.
use Rattle.std.proofs.Common.{◌≡◌, ◌⊎◌, inl, inr, refl, sym, ap, ap₂, ◌∙◌, subst, ℕ, suc, ◌<◌, ◌≤◌, List, [], ◌∷◌, length, map, replicate, Option}
use Rattle.std.proofs.Common.{Some, None, cond, true, false, lt-ltb, le-ltb, arith}
use Rattle.std.proofs.lemmas.List.{length-replicate}
use Rattle.std.specs.List.{AllZip}
use Rattle.pa_meaning.specs.Rows.{Row}
use Rattle.pa_meaning.specs.Contracts.{Contract}
use Rattle.pa_shift.specs.Shifting.{Premises}
use Rattle.pa_trial.specs.declared.trial.Trial.TheVariants.{Through}
use Rattle.pa_discharge.specs.Rounds.{AfterRound, Brought}
use Rattle.pa_discharge.specs.Discharging.{Asked, are_discharged, discharged_count, premises_of, terms_of}
use Rattle.pa_trial.specs.Meant.{AreServed, IsTrial}
use Rattle.pa_discharge.proofs.States.{AreStuck, IsHeld, IsLastRound, IsState, IsUnserved, before_round, premises_before}
use Rattle.pa_discharge.proofs.Turns.{AreTurned, IsRound, IsTurned}

-- ---- at the start
none_unserved : (asked : Asked) (bs : List (Option Brought)) (rows : List Row) → IsUnserved asked 0 bs rows
none_unserved asked bs rows r less = absurd (omega (arith, less))

none_held : (asked : Asked) (bs : List (Option Brought)) (f : Contract → List Row) (parts : List Contract)
    → AllZip (IsHeld asked 0 bs) (replicate (length parts) None) (map f parts)
none_held asked bs f [] = tt
none_held asked bs f (p ∷ parts) = (none_unserved asked bs (f p), none_held asked bs f parts)

pub start_is : (asked : Asked) → IsState asked 0 (replicate (length asked.parts) None)
start_is asked = record {
  parts = length-replicate (length asked.parts) None;
  held = none_held asked (replicate (length asked.parts) None) _ asked.parts;
  progress = omega (arith);
}

-- ---- premises of earlier rounds
one_before : (premises : Premises) (round r : ℕ) → r ≤ round → (rows : List Row) (b c : Option Brought) → IsTurned premises round rows b c
    → before_round r c ≡ before_round r b
one_before premises round r le rows (Some b) None h = absurd h
one_before premises round r le rows (Some b) (Some c) h = ap (λ (b : Brought). before_round r (Some b)) h
one_before premises round r le rows None None h = refl
one_before premises round r le rows None (Some c) h =
    let late : r ≤ c.round = omega (arith, le, h.0) in
    ap (λ t. cond t (Some c) None) (le-ltb c.round r late)

-- what a round discharges is in no premises of a round before it, or of its own
before_same : (premises : Premises) (round r : ℕ) → r ≤ round → (terms : List (List Row)) (bs cs : List (Option Brought))
    → AreTurned premises round terms bs cs → map (before_round r) cs ≡ map (before_round r) bs
before_same premises round r le [] [] [] h = refl
before_same premises round r le [] [] (c ∷ cs) h = absurd h
before_same premises round r le [] (b ∷ bs) cs h = absurd h
before_same premises round r le (rows ∷ terms) [] cs h = absurd h
before_same premises round r le (rows ∷ terms) (b ∷ bs) [] h = absurd h
before_same premises round r le (rows ∷ terms) (b ∷ bs) (c ∷ cs) h =
    ap₂ ◌∷◌ (one_before premises round r le rows b c h.0) (before_same premises round r le terms bs cs h.1)

-- before a round all parts that are discharged were so before it
held_before : (asked : Asked) (round : ℕ) (all bs : List (Option Brought)) (terms : List (List Row)) → AllZip (IsHeld asked round all) bs terms
    → map (before_round round) bs ≡ bs
held_before asked round all [] terms h = refl
held_before asked round all (b ∷ bs) [] h = absurd h
held_before asked round all (None ∷ bs) (rows ∷ terms) h = ap (λ bs. None ∷ bs) (held_before asked round all bs terms h.1)
held_before asked round all (Some b ∷ bs) (rows ∷ terms) h =
    ap₂ ◌∷◌ (ap (λ t. cond t (Some b) None) (lt-ltb b.round round h.0.0)) (held_before asked round all bs terms h.1)

pub state_before : (asked : Asked) (round : ℕ) (bs : List (Option Brought)) → IsState asked round bs → premises_before asked round bs ≡ premises_of asked bs
state_before asked round bs state = ap (premises_of asked) (held_before asked round bs bs (terms_of asked.parts) state.held)

-- ---- counts
count_le : (bs : List (Option Brought)) → discharged_count bs ≤ length bs
count_le [] = omega (arith)
count_le (None ∷ bs) = let rest = count_le bs in omega (arith, rest)
count_le (Some b ∷ bs) = let rest = count_le bs in omega (arith, rest)

pub count_less : (bs : List (Option Brought)) → are_discharged bs ≡ false → discharged_count bs < length bs
count_less [] h = absurd (cc)
count_less (None ∷ bs) h = let rest = count_le bs in omega (arith, rest)
count_less (Some b ∷ bs) h = let rest = count_less bs h in omega (arith, rest)

pub count_full : (bs : List (Option Brought)) → length bs ≤ discharged_count bs → are_discharged bs ≡ true
count_full [] h = refl
count_full (None ∷ bs) h = let rest = count_le bs in absurd (omega (arith, rest, h))
count_full (Some b ∷ bs) h = count_full bs (omega (arith, h))

turned_length : (premises : Premises) (round : ℕ) (terms : List (List Row)) (bs cs : List (Option Brought)) → AreTurned premises round terms bs cs
    → length cs ≡ length bs
turned_length premises round [] [] [] h = refl
turned_length premises round [] [] (c ∷ cs) h = absurd h
turned_length premises round [] (b ∷ bs) cs h = absurd h
turned_length premises round (rows ∷ terms) [] cs h = absurd h
turned_length premises round (rows ∷ terms) (b ∷ bs) [] h = absurd h
turned_length premises round (rows ∷ terms) (b ∷ bs) (c ∷ cs) h = ap suc (turned_length premises round terms bs cs h.1)

-- a round discharges more parts, or none
record IsMore (bs cs : List (Option Brought)) : Type 0 where
  more : discharged_count bs ≤ discharged_count cs
  same : discharged_count cs ≡ discharged_count bs → cs ≡ bs

turned_more : (premises : Premises) (round : ℕ) (terms : List (List Row)) (bs cs : List (Option Brought)) → AreTurned premises round terms bs cs
    → IsMore bs cs
turned_more premises round [] [] [] h = record { more = omega (arith); same = λ e. refl }
turned_more premises round [] [] (c ∷ cs) h = absurd h
turned_more premises round [] (b ∷ bs) cs h = absurd h
turned_more premises round (rows ∷ terms) [] cs h = absurd h
turned_more premises round (rows ∷ terms) (b ∷ bs) [] h = absurd h
turned_more premises round (rows ∷ terms) (Some b ∷ bs) (None ∷ cs) h = absurd h.0
turned_more premises round (rows ∷ terms) (Some b ∷ bs) (Some c ∷ cs) h =
    let rest = turned_more premises round terms bs cs h.1 in
    let more = rest.more in record {
      more = omega (arith, more);
      same = λ e. ap₂ (λ (c : Brought) (cs : List (Option Brought)). Some c ∷ cs) h.0 (rest.same (omega (arith, e)));
    }
turned_more premises round (rows ∷ terms) (None ∷ bs) (None ∷ cs) h =
    let rest = turned_more premises round terms bs cs h.1 in record { more = rest.more; same = λ e. ap (λ cs. None ∷ cs) (rest.same e) }
turned_more premises round (rows ∷ terms) (None ∷ bs) (Some c ∷ cs) h =
    let more = (turned_more premises round terms bs cs h.1).more in record { more = omega (arith, more); same = λ e. absurd (omega (arith, more, e)) }

-- ---- after a round
split : (r round : ℕ) → r < suc round → (r < round) ⊎ (r ≡ round)
split r round less = grind (arith)

strictly : (m n : ℕ) → m ≤ n → ¬ (n ≡ m) → suc m ≤ n
strictly m n le not = grind (arith)

module _ (asked : Asked) (round : ℕ) (bs cs : List (Option Brought)) (same : (r : ℕ) → r ≤ round → premises_before asked r cs ≡ premises_before asked r bs)
    (now : premises_before asked round bs ≡ premises_of asked bs) where
  unserved_kept : (k : ℕ) (rows : List Row) → k ≤ round → IsUnserved asked k bs rows → IsUnserved asked k cs rows
  unserved_kept k rows le h r less =
      let earlier : r ≤ round = omega (arith, le, less) in
      subst (λ premises. ¬ AreServed premises rows) (sym (same r earlier)) (h r less)

  unserved_more : (rows : List Row) → IsUnserved asked round bs rows → ¬ AreServed (premises_of asked bs) rows → IsUnserved asked (suc round) cs rows
  unserved_more rows h not r less = by (split r round less)
    where
      by : (r < round) ⊎ (r ≡ round) → ¬ AreServed (premises_before asked r cs) rows
      by (inl before) = unserved_kept round rows (omega (arith)) h r before
      by (inr is) = subst (λ k. ¬ AreServed (premises_before asked k cs) rows) (sym is)
          (subst (λ premises. ¬ AreServed premises rows) (sym (same round (omega (arith)) ∙ now)) not)

  held_one : (rows : List Row) (b c : Option Brought) → IsHeld asked round bs b rows → IsTurned (premises_of asked bs) round rows b c
      → IsHeld asked (suc round) cs c rows
  held_one rows (Some b) None h turn = absurd turn
  held_one rows (Some b) (Some c) h turn =
      let early : b.round < round = h.0 in
      let le : b.round ≤ round = omega (arith, early) in
      subst (λ (c : Brought). IsHeld asked (suc round) cs (Some c) rows) (sym turn) (
        omega (arith, early),
        subst (λ premises. IsTrial premises rows (Through b.lefts)) (sym (same b.round le)) h.1,
        unserved_kept b.round rows le h.2,
      )
  held_one rows None None h turn = unserved_more rows h turn
  held_one rows None (Some c) h turn =
      let is : c.round ≡ round = turn.0 in (
        omega (arith, is),
        subst (λ k. IsTrial (premises_before asked k cs) rows (Through c.lefts)) (sym is)
            (subst (λ premises. IsTrial premises rows (Through c.lefts)) (sym (same round (omega (arith)) ∙ now)) turn.1),
        subst (λ k. IsUnserved asked k cs rows) (sym is) (unserved_kept round rows (omega (arith)) h),
      )

  held_each : (terms : List (List Row)) (us vs : List (Option Brought)) → AllZip (IsHeld asked round bs) us terms
      → AreTurned (premises_of asked bs) round terms us vs → AllZip (IsHeld asked (suc round) cs) vs terms
  held_each [] [] [] h turned = tt
  held_each [] [] (v ∷ vs) h turned = absurd turned
  held_each [] (u ∷ us) vs h turned = absurd turned
  held_each (rows ∷ terms) [] vs h turned = absurd turned
  held_each (rows ∷ terms) (u ∷ us) [] h turned = absurd turned
  held_each (rows ∷ terms) (u ∷ us) (v ∷ vs) h turned = (held_one rows u v h.0 turned.0, held_each terms us vs h.1 turned.1)

module _ (asked : Asked) (round : ℕ) (bs : List (Option Brought)) (r : AfterRound) (state : IsState asked round bs)
    (is : IsRound (premises_of asked bs) round (terms_of asked.parts) bs r) where
  more_is : IsMore bs r.brought
  more_is = turned_more (premises_of asked bs) round (terms_of asked.parts) bs r.brought is.turned

  -- a round that discharges some part leads to the state before the next round
  pub next_is : ¬ (discharged_count r.brought ≡ discharged_count bs) → IsState asked (suc round) r.brought
  next_is some = record {
    parts = turned_length (premises_of asked bs) round (terms_of asked.parts) bs r.brought is.turned ∙ state.parts;
    held = held_each asked round bs r.brought
        (λ k le. ap (premises_of asked) (before_same (premises_of asked bs) round k le (terms_of asked.parts) bs r.brought is.turned))
        (state_before asked round bs state) (terms_of asked.parts) bs r.brought state.held is.turned;
    progress =
        let before : round ≤ discharged_count bs = state.progress in
        let strict = strictly (discharged_count bs) (discharged_count r.brought) more_is.more some in
        omega (arith, before, strict);
  }

  -- and one that discharges none leaves all as they were, and is the last
  pub none_same : discharged_count r.brought ≡ discharged_count bs → r.brought ≡ bs
  none_same none = more_is.same none

  pub last_is : discharged_count r.brought ≡ discharged_count bs → are_discharged bs ≡ false → IsLastRound asked round bs r.stuck
  last_is none not_all = record {
    state = state;
    ends = subst (λ cs. AreStuck (premises_of asked bs) 0 (terms_of asked.parts) cs r.stuck) (none_same none) is.stopped;
    some = let less = count_less bs not_all in let long : length bs ≡ length asked.parts = state.parts in omega (arith, less, long);
  }
