-- Reciprocals and quotients of fractions: with these the fractions are an ordered field.
use Rattle.std.proofs.Common.{◌≡◌, ◌≢◌, ◌⊎◌, ◌↔◌, inl, inr, ⊎_elim, [], ◌∷◌, refl, sym, ap, ◌∙◌, subst, arith}
use Rattle.std.proofs.lemmas.Int.{ints}
use lib.IntN.{ℤ, pos, negsuc, ◌*ℤ◌, neg_ℤ}
use lib.Signed.{◌<ℤ◌}
use Rattle.pa_ring.proofs.Integers.{by_sign, <ℤ-≤ℤ, <ℤ-*ℤ, <ℤ-*ℤ_cancel, positive_factor, positive-*ℤ, null as integer_null, ◌⋆◌ as integer_times}
use Rattle.pa_ring.proofs.IntegerTactics as integers
use Rattle.pa_ring.proofs.IntegerTactics.{reads}
use Rattle.pa_ring.proofs.OrderLaws.{lt-le_trans, mul_le, mul_lt, mul_le_cancel, mul_lt_cancel}
use Rattle.pa_math.specs.Rational.{ℚ, den, over, whole, neg_ℚ, ◌-ℚ◌, ◌*ℚ◌, reciprocal, ◌/ℚ◌}
use Rattle.pa_math.specs.RationalOrder.{◌≤ℚ◌, ◌<ℚ◌}
use Rattle.pa_math.proofs.Rationals.{den_positive, *ℚ_comm, over_zero, ratio_over_negative, IsRatio, ratio_self, ratio_over}
use Rattle.pa_math.proofs.Rationals.{ratio_whole, ratio_cross, ratio_product, same_from_ratios, whole_numbers, whole_injective}
use Rattle.pa_math.proofs.RationalOrders.{ℚ_order, <ℚ_irrefl, <ℚ-≤ℚ, le_from_ratios, lt_from_ratios, positive_num}
use Rattle.pa_math.proofs.RationalTactics.{by_equations, null, ◌⋆◌, ◌⊞◌}

-- ---- the reciprocal at any numbers of the value
-- of a positive fraction
pub ratio_reciprocal : {q : ℚ} {n d : ℤ} → IsRatio q n d → pos 0 <ℤ n → IsRatio (reciprocal q) d n
unfolding reciprocal
ratio_reciprocal {q} {n} {d} s h =
    let up : pos 0 <ℤ q.num = positive_factor q.num d s.positive (subst (λ t. pos 0 <ℤ t) (sym s.cross) (positive-*ℤ n (den q) h (den_positive q))) in
    ratio_cross d n (ratio_over (den q) q.num up) h
    (integers.by_equations (q.num ∷ den q ∷ n ∷ d ∷ []) (integer_times (negsuc 0) (integer_null s.cross)) (search reads depth 40) tt)

-- of a negative fraction
pub ratio_reciprocal_negative : {q : ℚ} {n d : ℤ} → IsRatio q n d → n <ℤ pos 0 → IsRatio (reciprocal q) (neg_ℤ d) (neg_ℤ n)
unfolding reciprocal
ratio_reciprocal_negative {q} {n} {d} s h =
    let product : (q.num *ℤ d) <ℤ (pos 0 *ℤ d) = omega (arith, ints, s.cross, <ℤ-*ℤ n (pos 0) (den q) h (den_positive q)) in
    let below : q.num <ℤ pos 0 = <ℤ-*ℤ_cancel q.num (pos 0) d (<ℤ-≤ℤ s.positive) product in
    ratio_cross (neg_ℤ d) (neg_ℤ n) (ratio_over_negative (den q) q.num below) (omega (arith, ints))
    (integers.by_equations (q.num ∷ den q ∷ n ∷ d ∷ []) (integer_times (negsuc 0) (integer_null s.cross)) (search reads depth 40) tt)

-- the reciprocal of 0 is taken as 0
pub reciprocal_zero : reciprocal (whole (pos 0)) ≡ whole (pos 0)
unfolding reciprocal
reciprocal_zero = ap (over (den (whole (pos 0)))) (whole_numbers (pos 0)).0 ∙ over_zero (den (whole (pos 0)))

-- a fraction is 0 where its numerator is
pub zero_num : (q : ℚ) → q.num ≡ pos 0 → q ≡ whole (pos 0)
zero_num q e = same_from_ratios (ratio_self q) (ratio_whole (pos 0)) (omega (arith, ints))

-- and there alone
num_of_zero : (q : ℚ) → q ≡ whole (pos 0) → q.num ≡ pos 0
num_of_zero q e = ap (λ t. t.num) e ∙ (whole_numbers (pos 0)).0

-- 0 and 1 are two fractions
pub zero_is_not_one : whole (pos 0) ≡ whole (pos 1) → ⊥
zero_is_not_one e = omega (arith, ints, whole_injective e)

-- ---- the law of the reciprocal
-- a fraction that is not 0 times its reciprocal is 1
pub *ℚ-reciprocal : (q : ℚ) → q ≢ whole (pos 0) → q *ℚ reciprocal q ≡ whole (pos 1)
*ℚ-reciprocal q h =
    by_sign q.num
    (λ below. same_from_ratios (ratio_product (ratio_self q) (ratio_reciprocal_negative (ratio_self q) below)) (ratio_whole (pos 1))
    (integers.by_ring (q.num ∷ den q ∷ []) (search reads depth 40) tt))
    (λ null. absurd (h (zero_num q null)))
    (λ above. same_from_ratios (ratio_product (ratio_self q) (ratio_reciprocal (ratio_self q) above)) (ratio_whole (pos 1))
    (integers.by_ring (q.num ∷ den q ∷ []) (search reads depth 40) tt))

-- a factor that is not 0 can be taken away
pub *ℚ_cancel : (q r s : ℚ) → s ≢ whole (pos 0) → q *ℚ s ≡ r *ℚ s → q ≡ r
*ℚ_cancel q r s h e =
    by_equations (q ∷ r ∷ s ∷ reciprocal s ∷ []) (reciprocal s ⋆ null e ⊞ (r -ℚ q) ⋆ null (*ℚ-reciprocal s h)) (search reads depth 40) tt

-- the reciprocal is the one number with this law
pub reciprocal_unique : (q r : ℚ) → q *ℚ r ≡ whole (pos 1) → r ≡ reciprocal q
reciprocal_unique q r e =
    let h : q ≢ whole (pos 0) = λ z. zero_is_not_one (sym (by_equations (q ∷ r ∷ []) (r ⋆ null z) (search reads depth 40) tt) ∙ e) in
    by_equations (q ∷ r ∷ reciprocal q ∷ []) (reciprocal q ⋆ null e ⊞ neg_ℚ r ⋆ null (*ℚ-reciprocal q h)) (search reads depth 40) tt

-- ---- quotients
-- divided and multiplied again
pub /ℚ-*ℚ : (q r : ℚ) → r ≢ whole (pos 0) → q /ℚ r *ℚ r ≡ q
/ℚ-*ℚ q r h = by_equations (q ∷ r ∷ reciprocal r ∷ []) (q ⋆ null (*ℚ-reciprocal r h)) (search reads depth 40) tt

-- multiplied and divided again
pub *ℚ-/ℚ : (q r : ℚ) → r ≢ whole (pos 0) → q *ℚ r /ℚ r ≡ q
*ℚ-/ℚ q r h = by_equations (q ∷ r ∷ reciprocal r ∷ []) (q ⋆ null (*ℚ-reciprocal r h)) (search reads depth 40) tt

-- a fraction is 0 or not
pub zero_or_not : (q : ℚ) → (q ≡ whole (pos 0)) ⊎ (q ≢ whole (pos 0))
zero_or_not q =
    by_sign q.num
    (λ below. inr (λ e. absurd (omega (arith, ints, num_of_zero q e))))
    (λ null. inl (zero_num q null))
    (λ above. inr (λ e. absurd (omega (arith, ints, num_of_zero q e))))

-- a product is 0 only if a factor is
pub zero_product_ℚ : (q r : ℚ) → q *ℚ r ≡ whole (pos 0) → (q ≡ whole (pos 0)) ⊎ (r ≡ whole (pos 0))
zero_product_ℚ q r e =
    ⊎_elim inr
    (λ h. inl (*ℚ_cancel q (whole (pos 0)) r h (by_equations (q ∷ r ∷ []) (null e) (search reads depth 40) tt)))
    (zero_or_not r)

-- ---- reciprocals of reciprocals, negations and products
-- the reciprocal of a fraction that is not 0 is not 0
pub reciprocal_nonzero : (q : ℚ) → q ≢ whole (pos 0) → reciprocal q ≢ whole (pos 0)
reciprocal_nonzero q h e = zero_is_not_one (sym (by_equations (q ∷ reciprocal q ∷ []) (q ⋆ null e) (search reads depth 40) tt) ∙ *ℚ-reciprocal q h)

-- a reciprocal taken twice
pub reciprocal-reciprocal : (q : ℚ) → q ≢ whole (pos 0) → reciprocal (reciprocal q) ≡ q
reciprocal-reciprocal q h = sym (reciprocal_unique (reciprocal q) q (*ℚ_comm (reciprocal q) q ∙ *ℚ-reciprocal q h))

-- of a negation
pub reciprocal-neg_ℚ : (q : ℚ) → q ≢ whole (pos 0) → reciprocal (neg_ℚ q) ≡ neg_ℚ (reciprocal q)
reciprocal-neg_ℚ q h =
    sym (reciprocal_unique (neg_ℚ q) (neg_ℚ (reciprocal q)) (by_equations (q ∷ reciprocal q ∷ []) (null (*ℚ-reciprocal q h)) (search reads depth 40) tt))

-- of a product
pub reciprocal-*ℚ : (q r : ℚ) → q ≢ whole (pos 0) → r ≢ whole (pos 0) → reciprocal (q *ℚ r) ≡ reciprocal q *ℚ reciprocal r
reciprocal-*ℚ q r h k =
    sym (reciprocal_unique (q *ℚ r) (reciprocal q *ℚ reciprocal r)
    (by_equations (q ∷ r ∷ reciprocal q ∷ reciprocal r ∷ []) ((r *ℚ reciprocal r) ⋆ null (*ℚ-reciprocal q h) ⊞ null (*ℚ-reciprocal r k))
    (search reads depth 40) tt))

-- `n / d` is the quotient of whole numbers
pub over_quotient : (n d : ℤ) → d ≢ pos 0 → over n d ≡ whole n /ℚ whole d
over_quotient n d h =
    by_sign d
    (λ below. same_from_ratios (ratio_over_negative n d below) (ratio_product (ratio_whole n) (ratio_reciprocal_negative (ratio_whole d) below))
    (integers.by_ring (n ∷ d ∷ []) (search reads depth 40) tt))
    (λ null. absurd (h null))
    (λ above. same_from_ratios (ratio_over n d above) (ratio_product (ratio_whole n) (ratio_reciprocal (ratio_whole d) above))
    (integers.by_ring (n ∷ d ∷ []) (search reads depth 40) tt))

-- ---- signs and order
-- a positive fraction is not 0
pub nonzero_from_positive : {q : ℚ} → whole (pos 0) <ℚ q → q ≢ whole (pos 0)
nonzero_from_positive {q} h e = <ℚ_irrefl (subst (λ t. whole (pos 0) <ℚ t) e h)

-- the reciprocal of a positive fraction is positive
pub reciprocal_positive : {q : ℚ} → whole (pos 0) <ℚ q → whole (pos 0) <ℚ reciprocal q
reciprocal_positive {q} h =
    lt_from_ratios (ratio_whole (pos 0)) (ratio_reciprocal (ratio_self q) (positive_num h)) (omega (arith, ints, den_positive q))

-- ---- a positive divisor goes to the other side of an inequality
pub ≤ℚ-/ℚ : (q r s : ℚ) → whole (pos 0) <ℚ s → (q ≤ℚ (r /ℚ s)) ↔ ((q *ℚ s) ≤ℚ r)
≤ℚ-/ℚ q r s up =
    let e : r /ℚ s *ℚ s ≡ r = /ℚ-*ℚ r s (nonzero_from_positive up) in (
      λ h. subst (λ t. (q *ℚ s) ≤ℚ t) e (mul_le ℚ_order q (r /ℚ s) s h (<ℚ-≤ℚ up)),
      λ h. mul_le_cancel ℚ_order q (r /ℚ s) s up (subst (λ t. (q *ℚ s) ≤ℚ t) (sym e) h),
    )

pub /ℚ-≤ℚ : (q r s : ℚ) → whole (pos 0) <ℚ s → ((r /ℚ s) ≤ℚ q) ↔ (r ≤ℚ (q *ℚ s))
/ℚ-≤ℚ q r s up =
    let e : r /ℚ s *ℚ s ≡ r = /ℚ-*ℚ r s (nonzero_from_positive up) in (
      λ h. subst (λ t. t ≤ℚ (q *ℚ s)) e (mul_le ℚ_order (r /ℚ s) q s h (<ℚ-≤ℚ up)),
      λ h. mul_le_cancel ℚ_order (r /ℚ s) q s up (subst (λ t. t ≤ℚ (q *ℚ s)) (sym e) h),
    )

pub <ℚ-/ℚ : (q r s : ℚ) → whole (pos 0) <ℚ s → (q <ℚ (r /ℚ s)) ↔ ((q *ℚ s) <ℚ r)
<ℚ-/ℚ q r s up =
    let e : r /ℚ s *ℚ s ≡ r = /ℚ-*ℚ r s (nonzero_from_positive up) in (
      λ h. subst (λ t. (q *ℚ s) <ℚ t) e (mul_lt ℚ_order q (r /ℚ s) s h up),
      λ h. mul_lt_cancel ℚ_order q (r /ℚ s) s (<ℚ-≤ℚ up) (subst (λ t. (q *ℚ s) <ℚ t) (sym e) h),
    )

pub /ℚ-<ℚ : (q r s : ℚ) → whole (pos 0) <ℚ s → ((r /ℚ s) <ℚ q) ↔ (r <ℚ (q *ℚ s))
/ℚ-<ℚ q r s up =
    let e : r /ℚ s *ℚ s ≡ r = /ℚ-*ℚ r s (nonzero_from_positive up) in (
      λ h. subst (λ t. t <ℚ (q *ℚ s)) e (mul_lt ℚ_order (r /ℚ s) q s h up),
      λ h. mul_lt_cancel ℚ_order (r /ℚ s) q s (<ℚ-≤ℚ up) (subst (λ t. t <ℚ (q *ℚ s)) (sym e) h),
    )

-- the lesser of two positive numbers has the greater reciprocal
pub reciprocal-≤ℚ : {q r : ℚ} → whole (pos 0) <ℚ q → q ≤ℚ r → reciprocal r ≤ℚ reciprocal q
reciprocal-≤ℚ {q} {r} up h =
    let above : whole (pos 0) <ℚ r = lt-le_trans ℚ_order (whole (pos 0)) q r up h in
    le_from_ratios (ratio_reciprocal (ratio_self r) (positive_num above)) (ratio_reciprocal (ratio_self q) (positive_num up)) (omega (arith, ints, h.le))

-- the quotient of written fractions with a positive divisor
pub over_division : (n d m e : ℤ) → pos 0 <ℤ d → pos 0 <ℤ m → pos 0 <ℤ e → over n d /ℚ over m e ≡ over (n *ℤ e) (d *ℤ m)
over_division n d m e h k l =
    same_from_ratios (ratio_product (ratio_over n d h) (ratio_reciprocal (ratio_over m e l) k)) (ratio_over _ _ (positive-*ℤ d m h k)) refl
