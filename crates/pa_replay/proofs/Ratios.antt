-- The ratio test finds a least ratio, and so values that are not negative stay so.
use Rattle.std.proofs.Common.{◌≡◌, ℕ, zero, suc, ◌<◌, ◌+◌, ◌⊎◌, inl, inr, Bool, true, false, if◌then◌else◌}
use Rattle.std.proofs.Common.{Option, Some, None, Ok, refl, sym, ap, subst, ◌∙◌, arith, pos, [], ◌∷◌, nat_lt}
use Rattle.std.specs.declared.cmp.Ordering.{Ordering}
use Rattle.std.specs.declared.cmp.Ordering.TheVariants.{Less, Equal, Greater}
use Rattle.std.specs.Ordering.{MatchOrdering}
use Rattle.pa_math.specs.Answers.{and_then}
use Rattle.pa_math.specs.Rational.{ℚ, whole, ◌-ℚ◌, ◌*ℚ◌, ◌/ℚ◌}
use Rattle.pa_math.specs.RationalOrder.{◌≤ℚ◌, ◌<ℚ◌, compare_ℚ}
use Rattle.pa_math.proofs.RationalOrders.{≤ℚ_refl, ≤ℚ_trans, <ℚ-≤ℚ, compare_ranks, lt_or_le_ℚ}
use Rattle.pa_math.proofs.Reciprocals.{≤ℚ-/ℚ, reciprocal_positive}
use Rattle.pa_math.proofs.RationalTactics.{by_le, gap, weak, ◌·◌, ◌∔◌, reads}
use Rattle.pa_row.proofs.Dots.{and_then_ok, ok_same}
use Rattle.pa_tableau.specs.Arithmetic.{Arithmetic}
use Rattle.pa_tableau.specs.Tableau.{Tableau, cell, told_at}
use Rattle.pa_replay.specs.Replay.{Candidate, is_positive, comes_first, basic, better, tested, leaving_from}
use Rattle.pa_replay.proofs.Steps.{Cells, IsPivot}
use Rattle.pa_replay.proofs.Bridges.{IsSound, told_ok}

-- the ratio of a line
abbrev pub ratio : Tableau → ℕ → ℕ → ℕ → ℚ
ratio t value c i = cell t i value /ℚ cell t i c

-- the best line among those below i: it may leave, and no other one that may has a lesser ratio
pub record IsBest (t : Tableau) (value c i : ℕ) (best : Candidate) : Type 0 where
  pub inside : best.0 < i
  pub positive : is_positive (cell t best.0 c) ≡ true
  pub is : best.1 ≡ ratio t value c best.0
  pub least : (k : ℕ) → k < i → is_positive (cell t k c) ≡ true → best.1 ≤ℚ ratio t value c k

abbrev pub IsBestSoFar : Tableau → ℕ → ℕ → ℕ → Option Candidate → Type 0
IsBestSoFar t value c i None = (k : ℕ) → k < i → is_positive (cell t k c) ≡ false
IsBestSoFar t value c i (Some best) = IsBest t value c i best

below_suc : (k i : ℕ) → k < suc i → (k < i) ⊎ (k ≡ i)
below_suc k i h = search arith

-- a line that takes no part
none_more : (t : Tableau) (value c i : ℕ) (best : Option Candidate) → is_positive (cell t i c) ≡ false → IsBestSoFar t value c i best →
    IsBestSoFar t value c (suc i) best
none_more t value c i None out h = λ k low. by_place k (below_suc k i low)
  where
    by_place : (k : ℕ) → (k < i) ⊎ (k ≡ i) → is_positive (cell t k c) ≡ false
    by_place k (inl before) = h k before
    by_place k (inr e) = ap (λ k. is_positive (cell t k c)) e ∙ out
none_more t value c i (Some best) out h = record {
  inside = omega (arith, h.inside);
  positive = h.positive;
  is = h.is;
  least = λ k low may. by_place k may
      (below_suc k i low);
}
  where
    by_place : (k : ℕ) → is_positive (cell t k c) ≡ true → (k < i) ⊎ (k ≡ i) → best.1 ≤ℚ ratio t value c k
    by_place k may (inl before) = h.least k before may
    by_place k may (inr e) = absurd (cc (sym may ∙ ap (λ k. is_positive (cell t k c)) e ∙ out))

-- a line that takes part, and is the best one so far
takes_over : (t : Tableau) (value c i : ℕ) (r : ℚ) → is_positive (cell t i c) ≡ true → r ≡ ratio t value c i →
    ((k : ℕ) → k < i → is_positive (cell t k c) ≡ true → r ≤ℚ ratio t value c k) → IsBest t value c (suc i) (i, r)
takes_over t value c i r may e h = record { inside = omega arith; positive = may; is = e; least = λ k low also. by_place k also (below_suc k i low) }
  where
    by_place : (k : ℕ) → is_positive (cell t k c) ≡ true → (k < i) ⊎ (k ≡ i) → r ≤ℚ ratio t value c k
    by_place k also (inl before) = h k before also
    by_place k also (inr same) = subst (λ q. r ≤ℚ q) (e ∙ sym (ap (ratio t value c) same)) (≤ℚ_refl r)

-- a line that takes part, and the best one stays
stays : (t : Tableau) (value c i : ℕ) (r : ℚ) (best : Candidate) → r ≡ ratio t value c i → best.1 ≤ℚ r → IsBest t value c i best → IsBest t value c (suc i) best
stays t value c i r best e up h = record {
  inside = omega (arith, h.inside);
  positive = h.positive;
  is = h.is;
  least = λ k low also. by_place k also
      (below_suc k i low);
}
  where
    by_place : (k : ℕ) → is_positive (cell t k c) ≡ true → (k < i) ⊎ (k ≡ i) → best.1 ≤ℚ ratio t value c k
    by_place k also (inl before) = h.least k before also
    by_place k also (inr same) = subst (λ q. best.1 ≤ℚ q) (e ∙ sym (ap (ratio t value c) same)) up

chosen : (t : Tableau) (value c i : ℕ) (r : ℚ) (best : Candidate) (o : Ordering) → is_positive (cell t i c) ≡ true → r ≡ ratio t value c i →
    o ≡ compare_ℚ r best.1 → IsBest t value c i best →
    IsBest t value c (suc i) (if comes_first o (basic t i) (basic t best.0) then (i, r) else best)
chosen t value c i r best o may e is h = by_order o (subst (λ o. MatchOrdering o (r <ℚ best.1) (r ≡ best.1) (best.1 <ℚ r)) (sym is) (compare_ranks r best.1))
  where
    by_order : (o : Ordering) → MatchOrdering o (r <ℚ best.1) (r ≡ best.1) (best.1 <ℚ r) →
        IsBest t value c (suc i) (if comes_first o (basic t i) (basic t best.0) then (i, r) else best)
    by_order Less m = takes_over t value c i r may e (λ k low also. ≤ℚ_trans (<ℚ-≤ℚ m) (h.least k low also))
    by_order Equal m =
        elim (nat_lt (basic t i) (basic t best.0)) as (λ b. IsBest t value c (suc i) (if b then (i, r) else best)) [
          | true ↦ takes_over t value c i r may e (λ k low also. subst (λ q. q ≤ℚ ratio t value c k) (sym m) (h.least k low also))
          | false ↦ stays t value c i r best e (subst (λ q. best.1 ≤ℚ q) (sym m) (≤ℚ_refl best.1)) h
        ]
    by_order Greater m = stays t value c i r best e (<ℚ-≤ℚ m) h

-- the test on one line
pub tested_best : (A : Arithmetic) (pivot value c : ℕ) (t : Tableau) (i : ℕ) (best next : Option Candidate) → IsSound A →
    Ok next ≡ tested A pivot value c t i best →
    IsBestSoFar t value c i best → IsBestSoFar t value c (suc i) next
tested_best A pivot value c t i best next s h so_far = by_sign (is_positive (cell t i c)) refl h
  where
    with_ratio : (best : Option Candidate) (r : ℚ) → is_positive (cell t i c) ≡ true → r ≡ ratio t value c i → Ok next ≡ better A t best i r →
        IsBestSoFar t value c i best → IsBestSoFar t value c (suc i) next
    with_ratio None r may e k so_far =
        subst (IsBestSoFar t value c (suc i)) (sym (ok_same next (Some (i, r)) k))
        (takes_over t value c i r may e (λ k low also. absurd (cc (sym also ∙ so_far k low))))
    with_ratio (Some best) r may e k so_far =
        let (order, first, made) = and_then_ok (A.comparison r best.1)
        (λ order. Ok (Some (if comes_first order (basic t i) (basic t best.0) then (i, r) else best))) next k in
        subst (IsBestSoFar t value c (suc i)) (sym (ok_same next (Some (if comes_first order (basic t i) (basic t best.0) then (i, r) else best)) made))
        (chosen t value c i r best order may e (s.comparison r best.1 order first) so_far)

    by_sign : (b : Bool) → is_positive (cell t i c) ≡ b →
        Ok next ≡ (if b then told_at pivot i (suc value) (and_then (A.quotient (cell t i value) (cell t i c)) (better A t best i)) else Ok best) →
        IsBestSoFar t value c (suc i) next
    by_sign false out k = subst (IsBestSoFar t value c (suc i)) (sym (ok_same next best k)) (none_more t value c i best out so_far)
    by_sign true may k =
        let (r, first, made) = and_then_ok (A.quotient (cell t i value) (cell t i c)) (better A t best i) next
        (told_ok pivot i (suc value) (and_then (A.quotient (cell t i value) (cell t i c)) (better A t best i)) next k) in
        with_ratio best r may (s.quotient (cell t i value) (cell t i c) r first) made so_far

-- the test on k lines
pub leaving_best : (A : Arithmetic) (pivot value c : ℕ) (t : Tableau) (i k : ℕ) (best last : Option Candidate) → IsSound A →
    Ok last ≡ leaving_from A pivot value c t i k best →
    IsBestSoFar t value c i best → IsBestSoFar t value c (i + k) last
leaving_best A pivot value c t i zero best last s h so_far =
    subst (λ n. IsBestSoFar t value c n last) (omega arith) (subst (IsBestSoFar t value c i) (sym (ok_same last best h)) so_far)
leaving_best A pivot value c t i (suc k) best last s h so_far =
    let (next, first, more) = and_then_ok (tested A pivot value c t i best) (leaving_from A pivot value c t (suc i) k) last h in
    subst (λ n. IsBestSoFar t value c n last) (omega arith)
    (leaving_best A pivot value c t (suc i) k next last s more (tested_best A pivot value c t i best next s first so_far))

-- ---- values stay at least 0
pub values_stay : (n value c l : ℕ) (t u : Cells) → IsPivot t u l c → l < n → whole (pos 0) <ℚ t l c →
    ((i : ℕ) → i < n → whole (pos 0) ≤ℚ t i value) → ((i : ℕ) → i < n → whole (pos 0) <ℚ t i c → (t l value /ℚ t l c) ≤ℚ (t i value /ℚ t i c)) →
    (i : ℕ) → i < n → whole (pos 0) ≤ℚ u i value
values_stay n value c l t u p low up h least i below = by_line (same_or_not i l)
  where
    same_or_not : (i l : ℕ) → (i ≡ l) ⊎ (i ≡ l → ⊥)
    same_or_not i l = search arith

    leaves : whole (pos 0) ≤ℚ u l value
    leaves = subst (λ q. whole (pos 0) ≤ℚ q) (sym (p.divided value)) (h l low · weak (reciprocal_positive up))

    by_sign : (whole (pos 0) <ℚ t i c) ⊎ (t i c ≤ℚ whole (pos 0)) → whole (pos 0) ≤ℚ (t i value -ℚ t i c *ℚ u l value)
    by_sign (inl more) =
        let bound : (u l value *ℚ t i c) ≤ℚ t i value =
        (≤ℚ-/ℚ (u l value) (t i value) (t i c) more).0 (subst (λ q. q ≤ℚ (t i value /ℚ t i c)) (sym (p.divided value)) (least i below more)) in
        by_le (t i value ∷ t i c ∷ u l value ∷ []) (gap bound) (search reads depth 40) tt
    by_sign (inr less) = by_le (t i value ∷ t i c ∷ u l value ∷ []) (h i below ∔ gap less · leaves) (search reads depth 40) tt

    by_line : (i ≡ l) ⊎ (i ≡ l → ⊥) → whole (pos 0) ≤ℚ u i value
    by_line (inl e) = subst (λ i. whole (pos 0) ≤ℚ u i value) (sym e) leaves
    by_line (inr d) = subst (λ q. whole (pos 0) ≤ℚ q) (sym (p.reduced i value d)) (by_sign (lt_or_le_ℚ (whole (pos 0)) (t i c)))
