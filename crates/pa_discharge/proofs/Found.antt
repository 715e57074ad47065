-- Whose trials ended where: the first row that is found, and the rows of a round that discharges none, by the places of their parts; and which parts
-- these rows leave out.
use Rattle.std.proofs.Common.{◌≡◌, ◌⊎◌, inl, inr, refl, sym, ap, ap₂, subst, ◌∙◌, ℕ, zero, suc, ◌+◌, ◌<◌, ◌≤◌, List, [], ◌∷◌, ◌++◌, length, map}
use Rattle.std.proofs.Common.{All, AllPairs, Contains, Option, None, Some, Bool, true, false, not, ◌||◌, cond, eqb, arith, rules}
use Rattle.std.specs.Prelude.{slice_get}
use Rattle.std.proofs.lemmas.Bool.Decides.{Decides-eqb, nat_tests}
use Rattle.std.proofs.lemmas.List.Elements.{All-nil, All-cons, All-head, All-tail, All-weaker, Contains-append_right}
use Rattle.std.proofs.lemmas.List.Kept.{AllPairs-cons}
use Rattle.pa_meaning.specs.Rows.{Row}
use Rattle.pa_meaning.specs.Contracts.{Name, Contract}
use Rattle.pa_meaning.specs.Directions.{Stuck}
use Rattle.pa_meaning.specs.Composition.{guarantees_over, part_at, is_listed, guarantees_where}
use Rattle.pa_shift.specs.Shifting.{Premises}
use Rattle.pa_trial.specs.declared.trial.Trial.TheVariants.{Stopped}
use Rattle.pa_discharge.specs.Rounds.{Brought}
use Rattle.pa_discharge.specs.Discharging.{discharged_rows, discharged_count}
use Rattle.pa_trial.specs.Meant.{AreServed, IsTrial}
use Rattle.pa_discharge.proofs.States.{AreStuck, IsFirstFound}

module _ (premises : Premises) (f : Contract → List Row) where
  -- the trial of the part at this place, of which the first has the place `part`, ended at the row
  abbrev pub Stops : List Contract → ℕ → Stuck → ℕ → Type 0
  Stops ps part s j = (j < length ps) × (s.part ≡ part + j) × IsTrial premises (f (part_at ps j)) (Stopped s.row s.direction)

  -- the part is discharged, or its terms have weights
  abbrev pub IsKnown : List Contract → List (Option Brought) → ℕ → Type 0
  IsKnown ps bs j = ((b : Brought) × (slice_get bs j ≡ Some (Some b))) ⊎ AreServed premises (f (part_at ps j))

  -- the first row that is found, and what is known of the parts before it
  pub found_at : (ps : List Contract) (bs : List (Option Brought)) (part : ℕ) (s : Stuck) → IsFirstFound premises part (map f ps) bs (Some s)
      → (j : ℕ) × Stops ps part s j × ((k : ℕ) → k < j → IsKnown ps bs k)
  found_at [] bs part s h = absurd (cc)
  found_at (p ∷ ps) [] part s h = absurd (cc)
  found_at (p ∷ ps) (Some b ∷ bs) part s h =
      let (j, (less, is, trial), known) = found_at ps bs (suc part) s h in
      (suc j, (omega arith, omega (arith, is), trial), later known)
    where
      later : {j : ℕ} → ((k : ℕ) → k < j → IsKnown ps bs k) → (k : ℕ) → k < suc j → IsKnown (p ∷ ps) (Some b ∷ bs) k
      later known zero less = inl (b, refl)
      later known (suc k) less = known k (omega arith)
  found_at (p ∷ ps) (None ∷ bs) part s (inl h) = (0, (omega arith, omega (arith, h.0), h.1), λ k less. absurd (omega arith))
  found_at (p ∷ ps) (None ∷ bs) part s (inr h) =
      let (j, (less, is, trial), known) = found_at ps bs (suc part) s h.1 in
      (suc j, (omega arith, omega (arith, is), trial), later known)
    where
      later : {j : ℕ} → ((k : ℕ) → k < j → IsKnown ps bs k) → (k : ℕ) → k < suc j → IsKnown (p ∷ ps) (None ∷ bs) k
      later known zero less = inr h.0
      later known (suc k) less = known k (omega arith)

  -- where none is found, all parts are known
  pub none_found : (ps : List Contract) (bs : List (Option Brought)) (part : ℕ) → length bs ≡ length ps → IsFirstFound premises part (map f ps) bs None
      → (k : ℕ) → k < length ps → IsKnown ps bs k
  none_found [] bs part one h k less = absurd (omega arith)
  none_found (p ∷ ps) [] part one h k less = absurd (omega arith)
  none_found (p ∷ ps) (Some b ∷ bs) part one h zero less = inl (b, refl)
  none_found (p ∷ ps) (Some b ∷ bs) part one h (suc k) less = none_found ps bs (suc part) (omega arith) h k (omega arith)
  none_found (p ∷ ps) (None ∷ bs) part one h zero less = inr h.0
  none_found (p ∷ ps) (None ∷ bs) part one h (suc k) less = none_found ps bs (suc part) (omega arith) h.1 k (omega arith)

  -- ---- the rows of a round
  abbrev pub StopsSomewhere : List Contract → ℕ → Stuck → Type 0
  StopsSomewhere ps part s = (j : ℕ) × Stops ps part s j

  further : (p : Contract) (ps : List Contract) (part : ℕ) (ss : List Stuck) → All (StopsSomewhere ps (suc part)) ss → All (StopsSomewhere (p ∷ ps) part) ss
  further p ps part ss h = All-weaker (StopsSomewhere ps (suc part)) (StopsSomewhere (p ∷ ps) part)
      (λ s (j, (less, is, trial)). (suc j, (omega arith, omega (arith, is), trial))) ss h

  pub stuck_each : (ps : List Contract) (bs : List (Option Brought)) (part : ℕ) (ss : List Stuck) → AreStuck premises part (map f ps) bs ss
      → All (StopsSomewhere ps part) ss
  stuck_each [] bs part ss h = subst (All (StopsSomewhere [] part)) (sym h) (All-nil (StopsSomewhere [] part))
  stuck_each (p ∷ ps) [] part ss h = subst (All (StopsSomewhere (p ∷ ps) part)) (sym h) (All-nil (StopsSomewhere (p ∷ ps) part))
  stuck_each (p ∷ ps) (Some b ∷ bs) part ss h = further p ps part ss (stuck_each ps bs (suc part) ss h)
  stuck_each (p ∷ ps) (None ∷ bs) part [] h = absurd h
  stuck_each (p ∷ ps) (None ∷ bs) part (s ∷ ss) h =
      All-cons (StopsSomewhere (p ∷ ps) part) s ss (0, (omega arith, omega (arith, h.0.0), h.0.1)) (further p ps part ss (stuck_each ps bs (suc part) ss h.1))

  -- they are of later parts
  stuck_later : (ps : List Contract) (bs : List (Option Brought)) (part : ℕ) (ss : List Stuck) → AreStuck premises part (map f ps) bs ss
      → All (λ (s : Stuck). part ≤ s.part) ss
  stuck_later ps bs part ss h = All-weaker (StopsSomewhere ps part) (λ (s : Stuck). part ≤ s.part) (λ s (j, (less, is, trial)). omega (arith, is)) ss
      (stuck_each ps bs part ss h)

  -- part by part, in order
  none_ascend : AllPairs (λ (s t : Stuck). s.part < t.part) []
  none_ascend = search rules

  pub stuck_ascend : (ps : List Contract) (bs : List (Option Brought)) (part : ℕ) (ss : List Stuck) → AreStuck premises part (map f ps) bs ss
      → AllPairs (λ (s t : Stuck). s.part < t.part) ss
  stuck_ascend [] bs part ss h = subst (AllPairs (λ (s t : Stuck). s.part < t.part)) (sym h) none_ascend
  stuck_ascend (p ∷ ps) [] part ss h = subst (AllPairs (λ (s t : Stuck). s.part < t.part)) (sym h) none_ascend
  stuck_ascend (p ∷ ps) (Some b ∷ bs) part ss h = stuck_ascend ps bs (suc part) ss h
  stuck_ascend (p ∷ ps) (None ∷ bs) part [] h = absurd h
  stuck_ascend (p ∷ ps) (None ∷ bs) part (s ∷ ss) h =
      AllPairs-cons (λ (s t : Stuck). s.part < t.part) s ss
      (All-weaker (λ (t : Stuck). suc part ≤ t.part) (λ (t : Stuck). s.part < t.part) (λ t le. let is = h.0.0 in omega (arith, is, le)) ss
      (stuck_later ps bs (suc part) ss h.1))
      (stuck_ascend ps bs (suc part) ss h.1)

  -- each part is discharged, or has its row
  pub brought_or_stuck : (ps : List Contract) (bs : List (Option Brought)) (part : ℕ) (ss : List Stuck) → length bs ≡ length ps
      → AreStuck premises part (map f ps) bs ss
      → (k : ℕ) → k < length ps → ((b : Brought) × (slice_get bs k ≡ Some (Some b))) ⊎ ((s : Stuck) × Contains ss s × (s.part ≡ part + k))
  brought_or_stuck [] bs part ss one h k less = absurd (omega arith)
  brought_or_stuck (p ∷ ps) [] part ss one h k less = absurd (omega arith)
  brought_or_stuck (p ∷ ps) (Some b ∷ bs) part ss one h zero less = inl (b, refl)
  brought_or_stuck (p ∷ ps) (Some b ∷ bs) part ss one h (suc k) less = by (brought_or_stuck ps bs (suc part) ss (omega arith) h k (omega arith))
    where
      by : ((b : Brought) × (slice_get bs k ≡ Some (Some b))) ⊎ ((s : Stuck) × Contains ss s × (s.part ≡ suc part + k))
          → ((b : Brought) × (slice_get bs k ≡ Some (Some b))) ⊎ ((s : Stuck) × Contains ss s × (s.part ≡ part + suc k))
      by (inl at) = inl at
      by (inr (s, c, is)) = inr (s, c, omega (arith, is))
  brought_or_stuck (p ∷ ps) (None ∷ bs) part [] one h k less = absurd h
  brought_or_stuck (p ∷ ps) (None ∷ bs) part (s ∷ ss) one h zero less = inr (s, (0, omega arith, refl), omega (arith, h.0.0))
  brought_or_stuck (p ∷ ps) (None ∷ bs) part (s ∷ ss) one h (suc k) less = by (brought_or_stuck ps bs (suc part) ss (omega arith) h.1 k (omega arith))
    where
      by : ((b : Brought) × (slice_get bs k ≡ Some (Some b))) ⊎ ((s : Stuck) × Contains ss s × (s.part ≡ suc part + k))
          → ((b : Brought) × (slice_get bs k ≡ Some (Some b))) ⊎ ((t : Stuck) × Contains (s ∷ ss) t × (t.part ≡ part + suc k))
      by (inl at) = inl at
      by (inr (t, c, is)) = inr (t, Contains-append_right (s ∷ []) ss t c, omega (arith, is))

  -- where there are no rows, all parts are discharged
  pub none_stuck : (ps : List Contract) (bs : List (Option Brought)) (part : ℕ) → length bs ≡ length ps → AreStuck premises part (map f ps) bs []
      → discharged_count bs ≡ length ps
  none_stuck [] [] part one h = refl
  none_stuck [] (b ∷ bs) part one h = absurd (omega arith)
  none_stuck (p ∷ ps) [] part one h = absurd (omega arith)
  none_stuck (p ∷ ps) (Some b ∷ bs) part one h = ap suc (none_stuck ps bs (suc part) (omega arith) h)
  none_stuck (p ∷ ps) (None ∷ bs) part one h = absurd h

-- ---- which parts are left out
apart : (i k : ℕ) → i < k → eqb i k ≡ false
apart i k less = grind (arith, nat_tests)

not_listed : (ss : List Stuck) (i : ℕ) → All (λ (s : Stuck). i < s.part) ss → is_listed ss i ≡ false
not_listed [] i h = refl
not_listed (s ∷ ss) i h =
    ap₂ (λ a b. a || b) (apart i s.part (All-head (λ (s : Stuck). i < s.part) s ss h)) (not_listed ss i (All-tail (λ (s : Stuck). i < s.part) s ss h))

-- the guarantees of the parts that have no row are those of the discharged ones
module _ (premises : Premises) (f : Contract → List Row) (names : List Name) (all : List Stuck) where
  pub others_are : (ps : List Contract) (bs : List (Option Brought)) (part : ℕ) (ss : List Stuck) → length bs ≡ length ps
      → AreStuck premises part (map f ps) bs ss → ((i : ℕ) → part ≤ i → is_listed all i ≡ is_listed ss i)
      → guarantees_where names (λ i. not (is_listed all i)) part ps ≡ discharged_rows names ps bs
  others_are [] bs part ss one h same = refl
  others_are (p ∷ ps) [] part ss one h same = absurd (omega arith)
  others_are (p ∷ ps) (Some b ∷ bs) part ss one h same =
      let none : is_listed all part ≡ false = same part (omega arith) ∙ not_listed ss part (stuck_later premises f ps bs (suc part) ss h) in
      ap₂ (λ (t : Bool) (rows : List Row). cond (not t) (guarantees_over names p) [] ++ rows) none
      (others_are ps bs (suc part) ss (omega arith) h (λ i le. same i (omega arith)))
  others_are (p ∷ ps) (None ∷ bs) part [] one h same = absurd h
  others_are (p ∷ ps) (None ∷ bs) part (s ∷ ss) one h same =
      let is : s.part ≡ part = h.0.0 in
      let here : is_listed all part ≡ true = same part (omega arith) ∙ ap (λ t. t || is_listed ss part) ((Decides-eqb part s.part).1 (sym is)) in
      ap₂ (λ (t : Bool) (rows : List Row). cond (not t) (guarantees_over names p) [] ++ rows) here
      (others_are ps bs (suc part) ss (omega arith) h.1 (λ i le. same i (omega arith) ∙ ap (λ t. t || is_listed ss i) (after i s.part (omega (arith, is, le)))))
    where
      after : (i k : ℕ) → k < i → eqb i k ≡ false
      after i k less = grind (arith, nat_tests)
