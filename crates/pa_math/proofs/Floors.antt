-- Floors and absolute values of fractions.
use Rattle.std.proofs.Common.{◌≡◌, ◌/◌, [], ◌∷◌, sym, ap, ◌∙◌, subst, arith}
use Rattle.std.specs.Int.{int_div_euclid}
use Rattle.std.proofs.lemmas.Int.{ints, unsigned_abs-mul}
use native.Mathlib.Nat.{div-mul-le_self, lt-div-mul-add}
use lib.IntN.{ℤ, pos, negsuc, ◌+ℤ◌, ◌*ℤ◌, neg_ℤ, nat_abs}
use lib.Signed.{◌≤ℤ◌, ◌<ℤ◌}
use Rattle.pa_ring.proofs.Integers.{+ℤ-*ℤ, <ℤ-≤ℤ, ≤ℤ-*ℤ, abs_nonneg, abs_nonpos, within_abs}
use Rattle.pa_ring.proofs.OrderLaws.{le-lt_trans, le_total}
use Rattle.pa_math.specs.Rational.{ℚ, den, over, whole, ◌+ℚ◌, neg_ℚ, ◌*ℚ◌, floor, abs_ℚ}
use Rattle.pa_math.specs.RationalOrder.{◌≤ℚ◌, ◌<ℚ◌}
use Rattle.pa_math.proofs.Rationals.{den_positive, IsRatio, ratio_self, ratio_over, ratio_whole, ratio_cross, ratio_product, ratio_neg, same_from_ratios}
use Rattle.pa_math.proofs.RationalOrders.{ℚ_order, le_from_ratios, le_to_ratios, lt_from_ratios, ≤ℚ_refl, ≤ℚ_trans, whole-<ℤ, nonneg_num, <ℤ-whole}
use Rattle.pa_math.proofs.RationalTactics.{by_le, gap, ◌∔◌, reads}

-- ---- division of whole numbers, rounded down
quotient_below : (n d : ℤ) → pos 0 <ℤ d → (int_div_euclid n d *ℤ d) ≤ℤ n
quotient_below (pos a) (pos d) h = omega (arith, ints, div-mul-le_self a d)
quotient_below (negsuc a) (pos d) h = omega (arith, ints, lt-div-mul-add {a = a} {b = d} (omega (arith, ints)))
quotient_below n (negsuc d) h = absurd (omega (arith, ints))

quotient_above : (n d : ℤ) → pos 0 <ℤ d → n <ℤ ((int_div_euclid n d +ℤ pos 1) *ℤ d)
quotient_above (pos a) (pos d) h = omega (arith, ints, lt-div-mul-add {a = a} {b = d} (omega (arith, ints)))
quotient_above (negsuc a) (pos d) h = omega (arith, ints, div-mul-le_self a d, +ℤ-*ℤ (negsuc (a / d)) (pos 1) (pos d))
quotient_above n (negsuc d) h = absurd (omega (arith, ints))

-- ---- floors
-- the floor is not above the fraction
pub floor_below : (q : ℚ) → whole (floor q) ≤ℚ q
floor_below q = le_from_ratios (ratio_whole (floor q)) (ratio_self q) (omega (arith, ints, quotient_below q.num (den q) (den_positive q)))

-- the next whole number is above the fraction
pub floor_above : (q : ℚ) → q <ℚ whole (floor q +ℤ pos 1)
floor_above q = lt_from_ratios (ratio_self q) (ratio_whole (floor q +ℤ pos 1)) (omega (arith, ints, quotient_above q.num (den q) (den_positive q)))

-- it is the greatest whole number that is not above the fraction
pub floor_greatest : (q : ℚ) (k : ℤ) → whole k ≤ℚ q → k ≤ℤ floor q
floor_greatest q k h = omega (arith, ints, <ℤ-whole (le-lt_trans ℚ_order (whole k) q (whole (floor q +ℤ pos 1)) h (floor_above q)))

-- no other whole number lies below the fraction with its next one above
pub floor_unique : (q : ℚ) (k : ℤ) → whole k ≤ℚ q → q <ℚ whole (k +ℤ pos 1) → k ≡ floor q
floor_unique q k h l =
    omega (
      arith,
      ints,
      floor_greatest q k h,
      <ℤ-whole (le-lt_trans ℚ_order (whole (floor q)) q (whole (k +ℤ pos 1)) (floor_below q) l),
    )

-- a whole number is its own floor
pub floor_whole : (n : ℤ) → floor (whole n) ≡ n
floor_whole n = sym (floor_unique (whole n) n (≤ℚ_refl (whole n)) (whole-<ℤ (omega (arith, ints))))

-- the floor of a written fraction
pub floor_over : (n d : ℤ) → pos 0 <ℤ d → floor (over n d) ≡ int_div_euclid n d
floor_over n d h =
    sym (floor_unique (over n d) (int_div_euclid n d)
    (le_from_ratios (ratio_whole (int_div_euclid n d)) (ratio_over n d h) (omega (arith, ints, quotient_below n d h)))
    (lt_from_ratios (ratio_over n d h) (ratio_whole (int_div_euclid n d +ℤ pos 1)) (omega (arith, ints, quotient_above n d h))))

-- the lesser of two fractions has no greater floor
pub floor_monotone : {q r : ℚ} → q ≤ℚ r → floor q ≤ℤ floor r
floor_monotone {q} {r} h = floor_greatest r (floor q) (≤ℚ_trans (floor_below q) h)

-- ---- absolute values
pub ratio_abs : {q : ℚ} {n d : ℤ} → IsRatio q n d → IsRatio (abs_ℚ q) (pos (nat_abs n)) d
unfolding abs_ℚ
ratio_abs {q} {n} {d} s =
    ratio_cross (pos (nat_abs n)) d (ratio_over (pos (nat_abs q.num)) (den q) (den_positive q)) s.positive
    (ap (λ t. pos (nat_abs q.num) *ℤ t) (sym (abs_nonneg d (<ℤ-≤ℤ s.positive)))
    ∙ ap pos (sym (unsigned_abs-mul q.num d)) ∙ ap (λ t. pos (nat_abs t)) s.cross ∙ ap pos (unsigned_abs-mul n (den q)))

-- a fraction that is not negative is its absolute value
pub abs_ℚ_nonneg : {q : ℚ} → whole (pos 0) ≤ℚ q → abs_ℚ q ≡ q
abs_ℚ_nonneg {q} h = same_from_ratios (ratio_abs (ratio_self q)) (ratio_self q) (ap (λ t. t *ℤ den q) (abs_nonneg q.num (nonneg_num h)))

-- a fraction that is not positive is the negation of its absolute value
pub abs_ℚ_nonpos : {q : ℚ} → q ≤ℚ whole (pos 0) → abs_ℚ q ≡ neg_ℚ q
abs_ℚ_nonpos {q} h =
    same_from_ratios (ratio_abs (ratio_self q)) (ratio_neg (ratio_self q))
    (ap (λ t. t *ℤ den q) (abs_nonpos q.num (omega (arith, ints, le_to_ratios (ratio_self q) (ratio_whole (pos 0)) h))))

-- an absolute value is not negative
pub nonneg-abs_ℚ : (q : ℚ) → whole (pos 0) ≤ℚ abs_ℚ q
nonneg-abs_ℚ q = le_from_ratios (ratio_whole (pos 0)) (ratio_abs (ratio_self q)) (omega (arith, ints))

-- a fraction is at most its absolute value
pub ≤ℚ-abs_ℚ : (q : ℚ) → q ≤ℚ abs_ℚ q
≤ℚ-abs_ℚ q =
    le_from_ratios (ratio_self q) (ratio_abs (ratio_self q))
    (≤ℤ-*ℤ q.num (pos (nat_abs q.num)) (den q) (within_abs q.num).1 (<ℤ-≤ℤ (den_positive q)))

-- so is its negation
pub neg_ℚ-≤ℚ-abs_ℚ : (q : ℚ) → neg_ℚ q ≤ℚ abs_ℚ q
neg_ℚ-≤ℚ-abs_ℚ q =
    le_from_ratios (ratio_neg (ratio_self q)) (ratio_abs (ratio_self q))
    (≤ℤ-*ℤ (neg_ℤ q.num) (pos (nat_abs q.num)) (den q) (omega (arith, ints)) (<ℤ-≤ℤ (den_positive q)))

-- the absolute value of a product is the product of the absolute values
pub abs_ℚ-*ℚ : (q r : ℚ) → abs_ℚ (q *ℚ r) ≡ abs_ℚ q *ℚ abs_ℚ r
abs_ℚ-*ℚ q r =
    same_from_ratios (ratio_abs (ratio_product (ratio_self q) (ratio_self r))) (ratio_product (ratio_abs (ratio_self q)) (ratio_abs (ratio_self r)))
    (ap (λ t. pos t *ℤ (den q *ℤ den r)) (unsigned_abs-mul q.num r.num))

-- the absolute value of a sum is at most the sum of the absolute values
pub abs_ℚ-+ℚ : (q r : ℚ) → abs_ℚ (q +ℚ r) ≤ℚ (abs_ℚ q +ℚ abs_ℚ r)
abs_ℚ-+ℚ q r =
    le_total ℚ_order (whole (pos 0)) (q +ℚ r)
    (λ above. subst (λ t. t ≤ℚ (abs_ℚ q +ℚ abs_ℚ r)) (sym (abs_ℚ_nonneg above))
    (by_le (q ∷ r ∷ abs_ℚ q ∷ abs_ℚ r ∷ []) (gap (≤ℚ-abs_ℚ q) ∔ gap (≤ℚ-abs_ℚ r)) (search reads depth 40) tt))
    (λ below. subst (λ t. t ≤ℚ (abs_ℚ q +ℚ abs_ℚ r)) (sym (abs_ℚ_nonpos below))
    (by_le (q ∷ r ∷ abs_ℚ q ∷ abs_ℚ r ∷ []) (gap (neg_ℚ-≤ℚ-abs_ℚ q) ∔ gap (neg_ℚ-≤ℚ-abs_ℚ r)) (search reads depth 40) tt))
