-- Among the lines of the least ratio the ratio test finds the one whose basic column is least.
use Rattle.std.proofs.Common.{◌≡◌, ℕ, zero, suc, ◌<◌, ◌≤◌, ◌+◌, ◌⊎◌, inl, inr, Bool, true, false}
use Rattle.std.proofs.Common.{if◌then◌else◌, Option, Some, None, Ok, refl, sym, subst, ◌∙◌, arith, nat_lt}
use Rattle.std.specs.declared.cmp.Ordering.{Ordering}
use Rattle.std.specs.declared.cmp.Ordering.TheVariants.{Less, Equal, Greater}
use Rattle.std.specs.Ordering.{MatchOrdering}
use Rattle.pa_math.specs.Answers.{and_then}
use Rattle.pa_math.specs.Rational.{ℚ}
use Rattle.pa_math.specs.RationalOrder.{◌≤ℚ◌, ◌<ℚ◌, compare_ℚ}
use Rattle.pa_math.proofs.RationalOrders.{<ℚ_irrefl, lt_not_le_ℚ, compare_ranks}
use Rattle.pa_row.proofs.Dots.{and_then_ok, ok_same}
use Rattle.pa_tableau.specs.Arithmetic.{Arithmetic}
use Rattle.pa_tableau.specs.Tableau.{Tableau, cell, told_at}
use Rattle.pa_replay.specs.Replay.{Candidate, is_positive, comes_first, basic, better, tested, leaving_from}
use Rattle.pa_replay.proofs.Bridges.{IsSound, told_ok}
use Rattle.pa_replay.proofs.Ratios.{ratio, IsBest, IsBestSoFar, tested_best}

-- no line below i that may leave has the ratio of the best one and a lesser basic column
abbrev pub IsFirst : Tableau → ℕ → ℕ → ℕ → Option Candidate → Type 0
IsFirst t value c i None = Unit {0}
IsFirst t value c i (Some best) = (k : ℕ) → k < i → is_positive (cell t k c) ≡ true → ratio t value c k ≡ best.1 → basic t best.0 ≤ basic t k

below_suc : (k i : ℕ) → k < suc i → (k < i) ⊎ (k ≡ i)
below_suc k i h = search arith

-- the line itself as the best one
itself : (t : Tableau) (value c i : ℕ) (r : ℚ) → ((k : ℕ) → k < i → is_positive (cell t k c) ≡ true → ratio t value c k ≡ r → basic t i ≤ basic t k)
    → IsFirst t value c (suc i) (Some (i, r))
itself t value c i r h k low may e = by_place (below_suc k i low)
  where
    by_place : (k < i) ⊎ (k ≡ i) → basic t i ≤ basic t k
    by_place (inl before) = h k before may e
    by_place (inr same) = subst (λ k. basic t i ≤ basic t k) (sym same) (omega arith)

-- the best one so far stays
as_before : (t : Tableau) (value c i : ℕ) (best : Candidate) → (is_positive (cell t i c) ≡ true → ratio t value c i ≡ best.1 → basic t best.0 ≤ basic t i)
    → IsFirst t value c i (Some best) → IsFirst t value c (suc i) (Some best)
as_before t value c i best last h k low may e = by_place (below_suc k i low)
  where
    by_place : (k < i) ⊎ (k ≡ i) → basic t best.0 ≤ basic t k
    by_place (inl before) = h k before may e
    by_place (inr same) =
        subst (λ k. basic t best.0 ≤ basic t k) (sym same)
        (last (subst (λ k. is_positive (cell t k c) ≡ true) same may) (subst (λ k. ratio t value c k ≡ best.1) same e))

chosen_first : (t : Tableau) (value c i : ℕ) (r : ℚ) (best : Candidate) (o : Ordering) → r ≡ ratio t value c i → o ≡ compare_ℚ r best.1
    → IsBest t value c i best → IsFirst t value c i (Some best)
    → IsFirst t value c (suc i) (Some (if comes_first o (basic t i) (basic t best.0) then (i, r) else best))
chosen_first t value c i r best o e is b h =
    by_order o (subst (λ o. MatchOrdering o (r <ℚ best.1) (r ≡ best.1) (best.1 <ℚ r)) (sym is) (compare_ranks r best.1))
  where
    by_basic : (less : Bool) → nat_lt (basic t i) (basic t best.0) ≡ less → r ≡ best.1 → IsFirst t value c (suc i) (Some (if less then (i, r) else best))
    by_basic true lower m =
        itself t value c i r (λ k low may same. (let first : basic t best.0 ≤ basic t k = h k low may (same ∙ m) in grind (arith, first, lower)))
    by_basic false not_lower m = as_before t value c i best (λ may same. grind (arith, not_lower)) h

    by_order : (o : Ordering) → MatchOrdering o (r <ℚ best.1) (r ≡ best.1) (best.1 <ℚ r)
        → IsFirst t value c (suc i) (Some (if comes_first o (basic t i) (basic t best.0) then (i, r) else best))
    by_order Less m = itself t value c i r (λ k low may same. absurd (lt_not_le_ℚ m (subst (λ q. best.1 ≤ℚ q) same (b.least k low may))))
    by_order Equal m = by_basic (nat_lt (basic t i) (basic t best.0)) refl m
    by_order Greater m = as_before t value c i best (λ may same. absurd (<ℚ_irrefl (subst (λ q. best.1 <ℚ q) (e ∙ same) m))) h

tested_first : (A : Arithmetic) (pivot value c : ℕ) (t : Tableau) (i : ℕ) (best next : Option Candidate) → IsSound A → Ok next ≡ tested A pivot value c t i best
    → IsBestSoFar t value c i best → IsFirst t value c i best → IsFirst t value c (suc i) next
tested_first A pivot value c t i best next s h so_far first = by_sign (is_positive (cell t i c)) refl h
  where
    out : (best : Option Candidate) → is_positive (cell t i c) ≡ false → IsFirst t value c i best → IsFirst t value c (suc i) best
    out None not_there f = tt
    out (Some best) not_there f = as_before t value c i best (λ may same. absurd (cc (sym may ∙ not_there))) f

    with_ratio : (best : Option Candidate) (r : ℚ) → r ≡ ratio t value c i → Ok next ≡ better A t best i r → IsBestSoFar t value c i best
        → IsFirst t value c i best → IsFirst t value c (suc i) next
    with_ratio None r e k so_far f =
        subst (IsFirst t value c (suc i)) (sym (ok_same next (Some (i, r)) k)) (itself t value c i r (λ k low also same. absurd (cc (sym also ∙ so_far k low))))
    with_ratio (Some best) r e k so_far f =
        let (order, told, made) =
        and_then_ok (A.comparison r best.1) (λ order. Ok (Some (if comes_first order (basic t i) (basic t best.0) then (i, r) else best))) next k in
        subst (IsFirst t value c (suc i)) (sym (ok_same next (Some (if comes_first order (basic t i) (basic t best.0) then (i, r) else best)) made))
        (chosen_first t value c i r best order e (s.comparison r best.1 order told) so_far f)

    by_sign : (b : Bool) → is_positive (cell t i c) ≡ b
        → Ok next ≡ (if b then told_at pivot i (suc value) (and_then (A.quotient (cell t i value) (cell t i c)) (better A t best i)) else Ok best)
        → IsFirst t value c (suc i) next
    by_sign false not_there k = subst (IsFirst t value c (suc i)) (sym (ok_same next best k)) (out best not_there first)
    by_sign true may k =
        let (r, told, made) = and_then_ok (A.quotient (cell t i value) (cell t i c)) (better A t best i) next
        (told_ok pivot i (suc value) (and_then (A.quotient (cell t i value) (cell t i c)) (better A t best i)) next k) in
        with_ratio best r (s.quotient (cell t i value) (cell t i c) r told) made so_far first

-- the test on k lines
pub leaving_first : (A : Arithmetic) (pivot value c : ℕ) (t : Tableau) (i k : ℕ) (best last : Option Candidate) → IsSound A
    → Ok last ≡ leaving_from A pivot value c t i k best → IsBestSoFar t value c i best → IsFirst t value c i best → IsFirst t value c (i + k) last
leaving_first A pivot value c t i zero best last s h so_far first =
    subst (λ n. IsFirst t value c n last) (omega arith) (subst (IsFirst t value c i) (sym (ok_same last best h)) first)
leaving_first A pivot value c t i (suc k) best last s h so_far first =
    let (next, told, more) = and_then_ok (tested A pivot value c t i best) (leaving_from A pivot value c t (suc i) k) last h in
    subst (λ n. IsFirst t value c n last) (omega arith)
    (leaving_first A pivot value c t (suc i) k next last s more (tested_best A pivot value c t i best next s told so_far)
    (tested_first A pivot value c t i best next s told so_far first))
