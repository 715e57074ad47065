-- Parts are discharged in time: by the meaning of a composition, a part that the rounds discharge is so exactly before the rounds behind its own. One way, its
-- weights are over guarantees of parts that were discharged before it; the other way, weights over any such guarantees are weights over the premises of
-- a round, over which the part was served by none before its own.
use Rattle.std.proofs.Common.{◌≡◌, ◌⊎◌, inl, inr, refl, sym, ap, ap₂, ◌∙◌, subst, ℕ, zero, suc, ◌+◌, ◌<◌, ◌≤◌, List, [], ◌∷◌, length, map, Option, Some, None}
use Rattle.std.proofs.Common.{All, Contains, Bool, cond, true, false, nat_lt, ltb-true, lt-ltb, slice_get, arith}
use Rattle.std.proofs.lemmas.List.{length-map}
use Rattle.std.proofs.lemmas.List.Elements.{All-contains, All-contains_itself, All-map, All-weaker}
use Rattle.std.proofs.lemmas.Option.{same_Some}
use Rattle.std.specs.List.{AllZip}
use lib.IntN.{ℤ, negsuc, ◌+ℤ◌, ◌*ℤ◌}
use Rattle.pa_ring.specs.Sums.{number_at, times}
use Rattle.pa_ring.proofs.Integers.{null, ◌⋆◌}
use Rattle.pa_ring.proofs.IntegerTactics.{by_equations, reads}
use Rattle.pa_ring.proofs.Lists.{All-from_map}
use Rattle.pa_ring.proofs.Sums.{number_at-sum_of, number_at-times}
use Rattle.pa_meaning.specs.Rows.{Row}
use Rattle.pa_meaning.specs.Weights.{Weights, combined}
use Rattle.pa_meaning.specs.Directions.{Makes}
use Rattle.pa_meaning.specs.Shifting.{Leaves, less_weighted}
use Rattle.pa_meaning.specs.Contracts.{Contract}
use Rattle.pa_meaning.specs.Composition.{AreGuaranteesOf, IsDischargedBefore, all_outputs, assumptions_over, external_inputs, guarantees_over, names_of}
use Rattle.pa_meaning.specs.Composition.{part_at}
use Rattle.pa_meaning.proofs.Shifting.{drop_number}
use Rattle.pa_shift.specs.Meant.{back_row}
use Rattle.pa_discharge.specs.Rounds.{Brought}
use Rattle.pa_discharge.specs.Discharging.{Asked, are_discharged, discharged_rows}
use Rattle.pa_trial.specs.Meant.{AreServed}
use Rattle.pa_discharge.proofs.States.{AreInTime, AreTimely, CanAsk, IsHeld, IsState, before_round, premises_before}
use Rattle.pa_trial.proofs.Trials.{trial_served}
use Rattle.pa_discharge.proofs.Outputs.{assumptions_back, combined_back, discharged_are, discharged_back, from_discharged, leaves_makes, makes_over_more}

-- ---- weights that make a term behind the first columns leave nothing of it there
makes_leaves : (n : ℕ) (rows : List Row) (t : Row) (w : Weights) → Makes w (map (back_row n) rows) (back_row n t) → Leaves n rows t w
makes_leaves n rows t w m = record {
  positive = m.positive;
  weights = m.weights;
  places = subst (λ k. All (λ (part : ℕ × ℤ). part.0 < k) w.parts) (length-map rows (back_row n)) m.places;
  gone = λ i.
      let sum : Row = combined w.parts rows in
      let same : number_at sum.c (i + n) ≡ w.den *ℤ number_at t.c (i + n) =
      sym (drop_number n i sum.c) ∙ sym (ap (λ cs. number_at cs i) (combined_back n w.parts rows)) ∙ m.coefficients i
      ∙ number_at-times w.den (back_row n t).c i ∙ ap (λ z. w.den *ℤ z) (drop_number n i t.c) in
      drop_number n i (less_weighted t rows w).c
      ∙ number_at-sum_of (times w.den t.c) (times (negsuc 0) sum.c) (i + n)
      ∙ ap₂ (λ a b. a +ℤ b) (number_at-times w.den t.c (i + n)) (number_at-times (negsuc 0) sum.c (i + n))
      ∙ by_equations (number_at sum.c (i + n) ∷ w.den ∷ number_at t.c (i + n) ∷ []) (negsuc 0 ⋆ null same) (search reads depth 40) tt;
}

-- ---- the part at a place
zip_at : (R : Option Brought → List Row → Type 0) (f : Contract → List Row) (ps : List Contract) (us : List (Option Brought)) (i : ℕ) (u : Option Brought)
    → AllZip R us (map f ps) → slice_get us i ≡ Some u → (i < length ps) × R u (f (part_at ps i))
zip_at R f [] [] i u h at = absurd (cc)
zip_at R f [] (v ∷ us) i u h at = absurd h
zip_at R f (p ∷ ps) [] i u h at = absurd h
zip_at R f (p ∷ ps) (v ∷ us) zero u h at = (omega (arith), subst (λ v. R v (f p)) (same_Some v u at) h.0)
zip_at R f (p ∷ ps) (v ∷ us) (suc i) u h at =
    let (less, is) = zip_at R f ps us i u h.1 at in
    (omega (arith, less), is)

-- a part that was discharged before a round was so at all, in an earlier round
before_at : (k : ℕ) (bs : List (Option Brought)) (j : ℕ) (c : Brought) → slice_get (map (before_round k) bs) j ≡ Some (Some c)
    → (slice_get bs j ≡ Some (Some c)) × (c.round < k)
before_at k [] j c at = absurd (cc)
before_at k (None ∷ bs) zero c at = absurd (cc)
before_at k (Some b ∷ bs) zero c at = by (nat_lt b.round k) refl at
  where
    by : (t : Bool) → nat_lt b.round k ≡ t → Some (cond t (Some b) None) ≡ Some (Some c) → (Some (Some b) ≡ Some (Some c)) × (c.round < k)
    by true less same = (same, subst (λ (b : Brought). b.round < k) (same_Some b c (same_Some (Some b) (Some c) same)) (ltb-true b.round k less))
    by false late same = absurd (cc)
before_at k (b ∷ bs) (suc j) c at = before_at k bs j c at

at_before : (k : ℕ) (bs : List (Option Brought)) (j : ℕ) (c : Brought) → c.round < k → slice_get bs j ≡ Some (Some c)
    → slice_get (map (before_round k) bs) j ≡ Some (Some c)
at_before k [] j c less at = absurd (cc)
at_before k (b ∷ bs) zero c less at =
    ap (λ b. Some (before_round k b)) (same_Some b (Some c) at) ∙ ap (λ t. Some (cond t (Some c) None)) (lt-ltb c.round k less)
at_before k (b ∷ bs) (suc j) c less at = at_before k bs j c less at

all_at : (bs : List (Option Brought)) → are_discharged bs ≡ true → (j : ℕ) → j < length bs → (c : Brought) × (slice_get bs j ≡ Some (Some c))
all_at [] h j less = absurd (omega (arith, less))
all_at (None ∷ bs) h j less = absurd (cc)
all_at (Some b ∷ bs) h zero less = (b, refl)
all_at (Some b ∷ bs) h (suc j) less = all_at bs h j (omega (arith, less))

either : (a r : ℕ) → (a < suc r) ⊎ (r < a)
either a r = grind (arith)

module _ (asked : Asked) (can : CanAsk asked) (round : ℕ) (bs : List (Option Brought)) (state : IsState asked round bs) where
  abbrev terms_at : ℕ → List Row
  terms_at i = assumptions_over (names_of asked.parts) (part_at asked.parts i)

  -- the premises of a round, over the outputs
  abbrev earlier : ℕ → List Row
  earlier k = discharged_rows (all_outputs asked.parts) asked.parts (map (before_round k) bs)

  earlier_is : (k : ℕ) → map (back_row (length (external_inputs asked.parts))) (premises_before asked k bs).rows ≡ earlier k
  earlier_is k = discharged_back asked.parts asked.parts (map (before_round k) bs)

  pub held_at : (i : ℕ) (b : Brought) → slice_get bs i ≡ Some (Some b) → (i < length asked.parts) × IsHeld asked round bs (Some b) (terms_at i)
  held_at i b at = zip_at (IsHeld asked round bs) (assumptions_over (names_of asked.parts)) asked.parts bs i (Some b) state.held at

  -- ---- not too late
  abbrev Before : ℕ → Type 0
  Before r = (i : ℕ) (b : Brought) → slice_get bs i ≡ Some (Some b) → b.round < r → IsDischargedBefore asked.parts r i

  abbrev IsMade : ℕ → Row → Type 0
  IsMade r t = (rows : List Row) × (w : Weights) × AreGuaranteesOf asked.parts (IsDischargedBefore asked.parts r) rows × Makes w rows t

  earlier_are : (r k : ℕ) → k ≤ r → Before r → AreGuaranteesOf asked.parts (IsDischargedBefore asked.parts r) (earlier k)
  earlier_are r k le before = discharged_are asked.parts (map (before_round k) bs) (IsDischargedBefore asked.parts r) (λ j c at.
      let (there, less) = before_at k bs j c at in before j c there (omega (arith, le, less)))

  made_each : (r k i : ℕ) → k ≤ r → Before r → AreServed (premises_before asked k bs) (terms_at i)
      → All (IsMade r) (assumptions_over (all_outputs asked.parts) (part_at asked.parts i))
  made_each r k i le before served =
      let n : ℕ = length (external_inputs asked.parts) in
      subst (All (IsMade r)) (assumptions_back asked.parts (part_at asked.parts i))
      (All-map (IsMade r) (back_row n) (terms_at i)
      (All-weaker (λ t. (w : Weights) × Leaves (length asked.nominal.p) (premises_before asked k bs).rows t w) (λ t. IsMade r (back_row n t))
      (λ t (w, leaves). (
        earlier k,
        w,
        earlier_are r k le before,
        subst (λ rows. Makes w rows (back_row n t)) (earlier_is k)
            (leaves_makes n (premises_before asked k bs).rows t w (subst (λ m. Leaves m (premises_before asked k bs).rows t w) can.fits leaves)),
      )) (terms_at i) served))

  before_round_is : (r : ℕ) → Before r
  before_round_is zero i b at less = absurd (omega (arith, less))
  before_round_is (suc r) i b at less =
      let (there, held) = held_at i b at in
      inr (there, made_each r b.round i (omega (arith, less)) (before_round_is r) (trial_served (premises_before asked b.round bs) (terms_at i) b.lefts held.1))

  -- each part is discharged in its round or before
  pub are_in_time : AreInTime asked bs
  are_in_time i b at = before_round_is (suc b.round) i b at (omega (arith))

  -- ---- not too early
  module _ (all : are_discharged bs ≡ true) where
    abbrev Behind : ℕ → Type 0
    Behind r = (i : ℕ) (b : Brought) → slice_get bs i ≡ Some (Some b) → IsDischargedBefore asked.parts r i → b.round < r

    among_earlier : (r : ℕ) → Behind r → (rows : List Row) → AreGuaranteesOf asked.parts (IsDischargedBefore asked.parts r) rows
        → All (Contains (earlier r)) rows
    among_earlier r behind rows from =
        All-weaker (λ g. (j : ℕ) × IsDischargedBefore asked.parts r j × (j < length asked.parts)
        × Contains (guarantees_over (all_outputs asked.parts) (part_at asked.parts j)) g) (Contains (earlier r))
        (λ g (j, before, there, within).
        let long : length bs ≡ length asked.parts = state.parts in
        let (c, at) = all_at bs all j (omega (arith, long, there)) in
        All-contains (Contains (earlier r)) (guarantees_over (all_outputs asked.parts) (part_at asked.parts j)) g
        (from_discharged (Contains (earlier r)) (all_outputs asked.parts) asked.parts (map (before_round r) bs) (All-contains_itself (earlier r)) j c there
        (at_before r bs j c (behind j c at before) at)) within) rows from

    -- weights over any guarantees of parts that are discharged before a round are weights over its premises
    served_each : (r i : ℕ) → Behind r → All (IsMade r) (assumptions_over (all_outputs asked.parts) (part_at asked.parts i))
        → AreServed (premises_before asked r bs) (terms_at i)
    served_each r i behind made =
        let n : ℕ = length (external_inputs asked.parts) in
        All-weaker (λ t. IsMade r (back_row n t)) (λ t. (w : Weights) × Leaves (length asked.nominal.p) (premises_before asked r bs).rows t w)
        (λ t (rows, w, from, makes).
        let (v, more) = makes_over_more rows (earlier r) (back_row n t) w (among_earlier r behind rows from) makes in (
          v,
          subst (λ m. Leaves m (premises_before asked r bs).rows t v) (sym can.fits)
              (makes_leaves n (premises_before asked r bs).rows t v (subst (λ rows. Makes v rows (back_row n t)) (sym (earlier_is r)) more)),
        )) (terms_at i)
        (All-from_map (IsMade r) (back_row n) (terms_at i) (subst (All (IsMade r)) (sym (assumptions_back asked.parts (part_at asked.parts i))) made))

    behind_round_is : (r : ℕ) → Behind r
    behind_round_is zero i b at h = absurd h
    behind_round_is (suc r) i b at (inl h) = let less = behind_round_is r i b at h in omega (arith, less)
    behind_round_is (suc r) i b at (inr (there, made)) = by (either b.round r) (served_each r i (behind_round_is r) made)
      where
        by : (b.round < suc r) ⊎ (r < b.round) → AreServed (premises_before asked r bs) (terms_at i) → b.round < suc r
        by (inl less) served = less
        by (inr late) served = absurd ((held_at i b at).1.2 r late served)

    -- and in no round before its own
    pub are_timely : AreTimely asked bs
    are_timely i b at r = (behind_round_is r i b at, before_round_is r i b at)
