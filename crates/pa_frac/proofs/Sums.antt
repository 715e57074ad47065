-- The sum and the difference by the numbers of their fractions.
use Rattle.std.proofs.Common.{◌≡◌, ℕ, false, [], ◌∷◌, Ok, Err, sym, ap, ap₂, subst, subst₂, ◌∙◌, arith}
use Rattle.std.specs.Prelude.{nat_le, ◌^◌, ◌||◌, if◌then◌else◌}
use Rattle.std.specs.Int.RustNames.{int_div}
use Rattle.std.proofs.lemmas.Int.{ints}
use lib.IntN.{ℤ, pos, ◌+ℤ◌, ◌*ℤ◌, neg_ℤ}
use lib.Signed.{◌<ℤ◌}
use Rattle.pa_ring.proofs.Integers.{neg_ℤ-*ℤ, abs-neg_ℤ}
use Rattle.pa_math.specs.Divisors.{gcd_ℤ, IsReduced}
use Rattle.pa_math.specs.Rational.{ℚ, den, over, ◌+ℚ◌, neg_ℚ}
use Rattle.pa_math.proofs.Divisors.{gcd_ℤ_comm, gcd_ℤ_right_quotient, gcd_ℤ_unique, Divides_refl, multiple_divided}
use Rattle.pa_math.proofs.ReducedForms.{reduces}
use Rattle.pa_math.proofs.Rationals.{over_reduced, over_neg, over_parts, reduced_form}
use Rattle.pa_math.proofs.ReducedOperations.{sum_num, sum_den, sum_value, sum_den_positive, sum_common_divisor, sum_numbers, reduced_neg}
use Rattle.pa_frac.specs.declared.wide.Wide.{Wide}
use Rattle.pa_frac.specs.Width.{passes, exact_or_wide, within}
use Rattle.pa_frac.specs.Narrow.{IsNarrow}
use Rattle.pa_frac.specs.Operations.{sum_in, difference_in, scaled_num, common_den}
use Rattle.pa_frac.proofs.Width.{fits_from_passes, within_ok, within_fits, four_exact, four_wide_first, four_wide_second, four_wide_third, four_wide_fourth}
use Rattle.pa_frac.proofs.Lowest.{lowest_num, lowest_den, over_lowest, factor_fits}

-- with g = gcd b d: a (d / g), c (b / g) and b (d / g)
abbrev pub left_of : ℤ → ℤ → ℤ → ℤ
left_of a b d = a *ℤ int_div d (gcd_ℤ b d)

abbrev pub right_of : ℤ → ℤ → ℤ → ℤ
right_of b c d = c *ℤ int_div b (gcd_ℤ b d)

-- what the sum's two numbers share: a divisor of g
abbrev pub sum_shared : ℤ → ℤ → ℤ → ℤ → ℤ
sum_shared a b c d = gcd_ℤ (sum_num a b c d) (gcd_ℤ b d)

-- the sum's numbers in lowest terms
abbrev pub low_num : ℤ → ℤ → ℤ → ℤ → ℤ
low_num a b c d = int_div (sum_num a b c d) (sum_shared a b c d)

abbrev pub low_den : ℤ → ℤ → ℤ → ℤ → ℤ
low_den a b c d = int_div (sum_den b d) (sum_shared a b c d)

same_sum : (w : ℕ) (q r v : ℚ) (a b c d n : ℤ) → q.num ≡ a → den q ≡ b → r.num ≡ c → den r ≡ d → gcd_ℤ d b ≡ gcd_ℤ b d → (q +ℚ r).num ≡ n → q +ℚ r ≡ v →
    exact_or_wide w (left_of a b d ∷ right_of b c d ∷ sum_den b d ∷ n ∷ []) v ≡ sum_in w q r
unfolding sum_in
same_sum w q r v a b c d n ea eb ec ed eg en ev = cc

-- the sum by the numbers of its terms
pub sum_due : (w : ℕ) (a b c d : ℤ) → IsReduced a b → IsReduced c d →
    exact_or_wide w (left_of a b d ∷ right_of b c d ∷ sum_den b d ∷ low_num a b c d ∷ []) (over (low_num a b c d) (low_den a b c d)) ≡ sum_in w (over a b)
    (over c d)
sum_due w a b c d s t =
    let l = over_reduced a b s in
    let r = over_reduced c d t in
    let up : pos 0 <ℤ sum_den b d = sum_den_positive b d s.positive t.positive in
    let shared = sum_common_divisor a b c d s t in
    same_sum w (over a b) (over c d) _ a b c d _ l.0 l.1 r.0 r.1 (gcd_ℤ_comm d b)
    ((sum_numbers a b c d s t).0 ∙ ap (int_div (sum_num a b c d)) shared)
    (sum_value a b c d s.positive t.positive ∙ over_lowest (sum_num a b c d) (sum_den b d) up
    ∙ ap (λ g. over (int_div (sum_num a b c d) g) (int_div (sum_den b d) g)) shared)

pub sum_wide_left : (w : ℕ) (a b c d : ℤ) (e : Wide) → IsNarrow w a b → IsNarrow w c d → Err e ≡ within w (left_of a b d) →
    Err (record {}) ≡ sum_in w (over a b) (over c d)
sum_wide_left w a b c d e s t h =
    four_wide_first w (left_of a b d) (right_of b c d) (sum_den b d) (low_num a b c d) e (over (low_num a b c d) (low_den a b c d)) h
    ∙ sum_due w a b c d s.reduced t.reduced

pub sum_wide_right : (w : ℕ) (a b c d : ℤ) (e : Wide) → IsNarrow w a b → IsNarrow w c d → Err e ≡ within w (right_of b c d) →
    Err (record {}) ≡ sum_in w (over a b) (over c d)
sum_wide_right w a b c d e s t h =
    four_wide_second w (left_of a b d) (right_of b c d) (sum_den b d) (low_num a b c d) e (over (low_num a b c d) (low_den a b c d)) h
    ∙ sum_due w a b c d s.reduced t.reduced

pub sum_wide_den : (w : ℕ) (a b c d : ℤ) (e : Wide) → IsNarrow w a b → IsNarrow w c d → Err e ≡ within w (sum_den b d) →
    Err (record {}) ≡ sum_in w (over a b) (over c d)
sum_wide_den w a b c d e s t h =
    four_wide_third w (left_of a b d) (right_of b c d) (sum_den b d) (low_num a b c d) e (over (low_num a b c d) (low_den a b c d)) h
    ∙ sum_due w a b c d s.reduced t.reduced

pub sum_wide_num : (w : ℕ) (a b c d : ℤ) (e : Wide) → IsNarrow w a b → IsNarrow w c d → Err e ≡ within w (low_num a b c d) →
    Err (record {}) ≡ sum_in w (over a b) (over c d)
sum_wide_num w a b c d e s t h =
    four_wide_fourth w (left_of a b d) (right_of b c d) (sum_den b d) (low_num a b c d) e (over (low_num a b c d) (low_den a b c d)) h
    ∙ sum_due w a b c d s.reduced t.reduced

pub sum_exact : (w : ℕ) (a b c d k l m n e : ℤ) → IsNarrow w a b → IsNarrow w c d →
    Ok k ≡ within w (left_of a b d) → Ok l ≡ within w (right_of b c d) → Ok m ≡ within w (sum_den b d) → Ok n ≡ within w (low_num a b c d) →
    e ≡ low_den a b c d →
    Ok (over n e) ≡ sum_in w (over a b) (over c d)
sum_exact w a b c d k l m n e s t hk hl hm hn he =
    ap₂ (λ x y. Ok (over x y)) (within_ok w n (low_num a b c d) hn).1 he
    ∙ four_exact w (left_of a b d) (right_of b c d) (sum_den b d) (low_num a b c d) k l m n (over (low_num a b c d) (low_den a b c d)) hk hl hm hn
    ∙ sum_due w a b c d s.reduced t.reduced

-- the sum's numbers are in lowest terms, and its denominator is a divisor of the least common one
pub sum_narrow : (w : ℕ) (a b c d m n e : ℤ) → IsNarrow w a b → IsNarrow w c d → Ok m ≡ within w (sum_den b d) → Ok n ≡ within w (low_num a b c d) →
    e ≡ low_den a b c d →
    IsNarrow w n e
sum_narrow w a b c d m n e s t hm hn he =
    let up : pos 0 <ℤ sum_den b d = sum_den_positive b d s.reduced.positive t.reduced.positive in
    let shared = sum_common_divisor a b c d s.reduced t.reduced in
    let low : IsReduced (low_num a b c d) (low_den a b c d) =
    subst₂ IsReduced (ap (int_div (sum_num a b c d)) shared) (ap (int_div (sum_den b d)) shared) (reduces (sum_num a b c d) (sum_den b d) up).reduced in
    let k = within_ok w n (low_num a b c d) hn in
    let back : low_den a b c d *ℤ sum_shared a b c d ≡ sum_den b d = sym (ap (λ g. int_div (sum_den b d) g *ℤ g) shared)
    ∙ gcd_ℤ_right_quotient (sum_num a b c d) (sum_den b d) in
    rw (k.1, he) (record {
      reduced = low;
      num_fits = fits_from_passes w (low_num a b c d) k.0;
      den_fits = factor_fits w (low_den a b c d) (sum_shared a b c d) (sum_den b d) low.positive up back
          (fits_from_passes w (sum_den b d) (within_ok w m (sum_den b d) hm).0);
    })

-- ---- the same by the numbers that were formed: the two numerators and the denominator, each of which fits, and the sum of the numerators
record Formed (w : ℕ) (a b c d k l m t : ℤ) : Type 0 where
  left : k ≡ left_of a b d
  right : l ≡ right_of b c d
  den : m ≡ sum_den b d
  num : t ≡ sum_num a b c d

formed : (w : ℕ) (a b c d k l m t : ℤ) → Ok k ≡ within w (left_of a b d) → Ok l ≡ within w (right_of b c d) → Ok m ≡ within w (sum_den b d) → t ≡ k +ℤ l →
    Formed w a b c d k l m t
formed w a b c d k l m t hk hl hm ht =
    let left = (within_ok w k (left_of a b d) hk).1 in
    let right = (within_ok w l (right_of b c d) hl).1 in
    record { left = left; right = right; den = (within_ok w m (sum_den b d) hm).1; num = ht ∙ ap₂ ◌+ℤ◌ left right }

pub formed_wide : (w : ℕ) (a b c d k l m t : ℤ) (e : Wide) → IsNarrow w a b → IsNarrow w c d →
    Ok k ≡ within w (left_of a b d) → Ok l ≡ within w (right_of b c d) → Ok m ≡ within w (sum_den b d) → t ≡ k +ℤ l →
    Err e ≡ within w (int_div t (gcd_ℤ t (gcd_ℤ b d))) →
    Err (record {}) ≡ sum_in w (over a b) (over c d)
formed_wide w a b c d k l m t e p q hk hl hm ht h =
    let f = formed w a b c d k l m t hk hl hm ht in
    sum_wide_num w a b c d e p q (h ∙ ap (λ z. within w (int_div z (gcd_ℤ z (gcd_ℤ b d)))) f.num)

pub formed_exact : (w : ℕ) (a b c d k l m t n e : ℤ) → IsNarrow w a b → IsNarrow w c d →
    Ok k ≡ within w (left_of a b d) → Ok l ≡ within w (right_of b c d) → Ok m ≡ within w (sum_den b d) → t ≡ k +ℤ l →
    Ok n ≡ within w (int_div t (gcd_ℤ t (gcd_ℤ b d))) → e ≡ int_div m (gcd_ℤ t (gcd_ℤ b d)) →
    Ok (over n e) ≡ sum_in w (over a b) (over c d)
formed_exact w a b c d k l m t n e p q hk hl hm ht hn he =
    let f = formed w a b c d k l m t hk hl hm ht in
    sum_exact w a b c d k l m n e p q hk hl hm (hn ∙ ap (λ z. within w (int_div z (gcd_ℤ z (gcd_ℤ b d)))) f.num)
    (he ∙ ap₂ (λ y z. int_div y (gcd_ℤ z (gcd_ℤ b d))) f.den f.num)

pub formed_narrow : (w : ℕ) (a b c d k l m t n e : ℤ) → IsNarrow w a b → IsNarrow w c d →
    Ok k ≡ within w (left_of a b d) → Ok l ≡ within w (right_of b c d) → Ok m ≡ within w (sum_den b d) → t ≡ k +ℤ l →
    Ok n ≡ within w (int_div t (gcd_ℤ t (gcd_ℤ b d))) → e ≡ int_div m (gcd_ℤ t (gcd_ℤ b d)) →
    IsNarrow w n e
formed_narrow w a b c d k l m t n e p q hk hl hm ht hn he =
    let f = formed w a b c d k l m t hk hl hm ht in
    sum_narrow w a b c d m n e p q hm (hn ∙ ap (λ z. within w (int_div z (gcd_ℤ z (gcd_ℤ b d)))) f.num)
    (he ∙ ap₂ (λ y z. int_div y (gcd_ℤ z (gcd_ℤ b d))) f.den f.num)

-- ---- the sum over one denominator
-- a positive number shares all of itself with itself
shared_with_itself : (b : ℤ) → pos 0 <ℤ b → gcd_ℤ b b ≡ b
shared_with_itself b h = sym (gcd_ℤ_unique (omega (arith, ints)) (Divides_refl b) (Divides_refl b) (λ d p q. p))

quotient_by_itself : (b : ℤ) → pos 0 <ℤ b → int_div b (gcd_ℤ b b) ≡ pos 1
quotient_by_itself b h = ap (int_div b) (shared_with_itself b h) ∙ ap (λ z. int_div z b) one ∙ multiple_divided (pos 1) b h
  where
    one : b ≡ pos 1 *ℤ b
    one = omega (arith, ints)

record Alike (a b c : ℤ) : Type 0 where
  left : left_of a b b ≡ a
  right : right_of b c b ≡ c
  den : sum_den b b ≡ b
  num : low_num a b c b ≡ lowest_num (a +ℤ c) b
  low : low_den a b c b ≡ lowest_den (a +ℤ c) b

alike : (a b c : ℤ) → pos 0 <ℤ b → Alike a b c
alike a b c h =
    let q : int_div b (gcd_ℤ b b) ≡ pos 1 = quotient_by_itself b h in
    let times : (z : ℤ) → z *ℤ int_div b (gcd_ℤ b b) ≡ z = λ z. ap (λ k. z *ℤ k) q ∙ times_one z in
    let num : sum_num a b c b ≡ a +ℤ c = ap₂ ◌+ℤ◌ (times a) (times c) in
    let shared : sum_shared a b c b ≡ gcd_ℤ (a +ℤ c) b = ap₂ gcd_ℤ num (shared_with_itself b h) in
    record { left = times a; right = times c; den = times b; num = ap₂ int_div num shared; low = ap₂ int_div (times b) shared }
  where
    times_one : (z : ℤ) → z *ℤ pos 1 ≡ z
    times_one z = omega (arith, ints)

pub alike_wide : (w : ℕ) (a b c d : ℤ) (e : Wide) → b ≡ d → IsNarrow w a b → IsNarrow w c d → Err e ≡ within w (lowest_num (a +ℤ c) b) →
    Err (record {}) ≡ sum_in w (over a b) (over c d)
alike_wide w a b c d e same s t h = subst (λ z. Err (record {}) ≡ sum_in w (over a b) (over c z)) same (one w a b c e s (subst (IsNarrow w c) (sym same) t) h)
  where
    one : (w : ℕ) (a b c : ℤ) (e : Wide) → IsNarrow w a b → IsNarrow w c b → Err e ≡ within w (lowest_num (a +ℤ c) b) →
        Err (record {}) ≡ sum_in w (over a b) (over c b)
    one w a b c e s t h = sum_wide_num w a b c b e s t (h ∙ ap (within w) (sym (alike a b c s.reduced.positive).num))

pub alike_exact : (w : ℕ) (a b c d n m : ℤ) → b ≡ d → IsNarrow w a b → IsNarrow w c d → Ok n ≡ within w (lowest_num (a +ℤ c) b) → m ≡ lowest_den (a +ℤ c) b →
    Ok (over n m) ≡ sum_in w (over a b) (over c d)
alike_exact w a b c d n m same s t h l =
    subst (λ z. Ok (over n m) ≡ sum_in w (over a b) (over c z)) same (one w a b c n m s (subst (IsNarrow w c) (sym same) t) h l)
  where
    one : (w : ℕ) (a b c n m : ℤ) → IsNarrow w a b → IsNarrow w c b → Ok n ≡ within w (lowest_num (a +ℤ c) b) → m ≡ lowest_den (a +ℤ c) b →
        Ok (over n m) ≡ sum_in w (over a b) (over c b)
    one w a b c n m s t h l =
        let k = alike a b c s.reduced.positive in
        sum_exact w a b c b a c b n m s t (within_fits w a s.num_fits ∙ ap (within w) (sym k.left)) (within_fits w c t.num_fits ∙ ap (within w) (sym k.right))
        (within_fits w b s.den_fits ∙ ap (within w) (sym k.den)) (h ∙ ap (within w) (sym k.num)) (l ∙ sym k.low)

pub alike_narrow : (w : ℕ) (a b c d n m : ℤ) → b ≡ d → IsNarrow w a b → IsNarrow w c d → Ok n ≡ within w (lowest_num (a +ℤ c) b) →
    m ≡ lowest_den (a +ℤ c) b → IsNarrow w n m
alike_narrow w a b c d n m same s t h l =
    let k = alike a b c s.reduced.positive in
    sum_narrow w a b c b b n m s (subst (IsNarrow w c) (sym same) t) (within_fits w b s.den_fits ∙ ap (within w) (sym k.den))
    (h ∙ ap (within w) (sym k.num)) (l ∙ sym k.low)

-- the numerators over one denominator fit, and the lesser of them is the numerator of the lesser fraction
pub alike_numerators : (w : ℕ) (a b c : ℤ) → IsNarrow w a b → IsNarrow w c b → (Ok a ≡ within w (left_of a b b)) × (Ok c ≡ within w (right_of b c b))
alike_numerators w a b c s t =
    let k = alike a b c s.reduced.positive in
    (within_fits w a s.num_fits ∙ ap (within w) (sym k.left), within_fits w c t.num_fits ∙ ap (within w) (sym k.right))

-- ---- a difference is a sum with the negation
passes_neg : (w : ℕ) (z : ℤ) → passes w (neg_ℤ z) ≡ passes w z
passes_neg w z = ap (λ n. nat_le (2 ^ w) n) (abs-neg_ℤ z)

-- the negation of a reduced value
neg_numbers : (q : ℚ) → ((neg_ℚ q).num ≡ neg_ℤ q.num) × (den (neg_ℚ q) ≡ den q)
neg_numbers q =
    let s = reduced_form q in
    let is : neg_ℚ q ≡ over (neg_ℤ q.num) (den q) = ap neg_ℚ (sym (over_parts q)) ∙ over_neg q.num (den q) s.positive in
    let n = over_reduced (neg_ℤ q.num) (den q) (reduced_neg s) in
    (ap (λ r. r.num) is ∙ n.0, ap den is ∙ n.1)

-- the named numbers of a difference are those of the sum with the negation, but for a sign
four_wide : {A : Type 0} (w : ℕ) (x y z t y' : ℤ) (v : A) → passes w y' ≡ passes w y →
    exact_or_wide w (x ∷ y' ∷ z ∷ t ∷ []) v ≡ exact_or_wide w (x ∷ y ∷ z ∷ t ∷ []) v
four_wide w x y z t y' v h = ap (λ b. if passes w x || (b || (passes w z || (passes w t || false))) then Err (record {}) else Ok v) h

same_difference : (w : ℕ) (q r s : ℚ) → s.num ≡ neg_ℤ r.num → den s ≡ den r →
    exact_or_wide w (scaled_num q r ∷ scaled_num r q ∷ common_den q r ∷ (q +ℚ s).num ∷ []) (q +ℚ s) ≡ sum_in w q s
unfolding sum_in
same_difference w q r s en ed =
    let left : scaled_num q r ≡ scaled_num q s = ap (λ k. q.num *ℤ int_div k (gcd_ℤ (den q) k)) (sym ed) in
    let low : common_den q r ≡ common_den q s = ap (λ k. den q *ℤ int_div k (gcd_ℤ (den q) k)) (sym ed) in
    let turned : scaled_num s q ≡ neg_ℤ (scaled_num r q) =
    ap₂ (λ n k. n *ℤ int_div (den q) (gcd_ℤ k (den q))) en ed ∙ neg_ℤ-*ℤ r.num (int_div (den q) (gcd_ℤ (den r) (den q))) in
    let same : passes w (scaled_num r q) ≡ passes w (scaled_num s q) = sym (ap (passes w) turned ∙ passes_neg w (scaled_num r q)) in
    ap₂ (λ x z. exact_or_wide w (x ∷ scaled_num r q ∷ z ∷ (q +ℚ s).num ∷ []) (q +ℚ s)) left low
    ∙ four_wide w (scaled_num q s) (scaled_num s q) (common_den q s) (q +ℚ s).num (scaled_num r q) (q +ℚ s) same

pub difference_is : (w : ℕ) (q r : ℚ) → sum_in w q (neg_ℚ r) ≡ difference_in w q r
unfolding difference_in
difference_is w q r = sym (same_difference w q r (neg_ℚ r) (neg_numbers r).0 (neg_numbers r).1)
