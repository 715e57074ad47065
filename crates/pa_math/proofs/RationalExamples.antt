-- What one line closes over the fractions.
use Rattle.std.proofs.Common.{◌≡◌, ◌≢◌, [], ◌∷◌, refl, ◌∙◌, arith}
use Rattle.std.proofs.lemmas.Int.{ints}
use lib.IntN.{ℤ, pos, negsuc, ◌+ℤ◌, ◌*ℤ◌}
use lib.Signed.{◌<ℤ◌}
use Rattle.pa_ring.proofs.IntegerTactics as integers
use Rattle.pa_math.specs.Divisors.{gcd_of, lcm_of, gcd_ℤ, lcm_ℤ}
use Rattle.pa_math.specs.Rational.{ℚ, den, lowest, whole, over, floor, ◌+ℚ◌, neg_ℚ, ◌-ℚ◌, ◌*ℚ◌, reciprocal, ◌/ℚ◌}
use Rattle.pa_math.specs.RationalOrder.{◌≤ℚ◌, ◌<ℚ◌}
use Rattle.pa_math.proofs.Rationals.{ratio_over, ratio_sum, same_from_ratios, over_sum, same_over}
use Rattle.pa_math.proofs.RationalOrders.{lt_from_ratios}
use Rattle.pa_math.proofs.Reciprocals.{*ℚ-reciprocal}
use Rattle.pa_math.proofs.RationalTactics.{by_ring, by_equations, by_le, by_lt, null, ◌⋆◌, ◌⊞◌, gap, ◌·◌, ◌∔◌, rise, ◌⊙◌, ◌⊕◌, reads}

-- the sum of two written fractions
sum_of_fractions : (a b c d : ℤ) → pos 0 <ℤ b → pos 0 <ℤ d → over a b +ℚ over c d ≡ over (a *ℤ d +ℤ c *ℤ b) (b *ℤ d)
sum_of_fractions a b c d h k = over_sum a b c d h k

-- the same number, written with other numbers
half : over (pos 3) (pos 6) ≡ over (pos 1) (pos 2)
half = same_over (pos 3) (pos 6) (pos 1) (pos 2) (omega (arith, ints)) (omega (arith, ints)) (omega (arith, ints))

-- fractions over one denominator: both sides are one value, by a cross product of whole numbers
over_two : (a b : ℤ) → over a (pos 2) +ℚ over b (pos 2) ≡ over (a +ℤ b) (pos 2)
over_two a b =
    let two : pos 0 <ℤ pos 2 = omega (arith, ints) in
    same_from_ratios (ratio_sum (ratio_over a (pos 2) two) (ratio_over b (pos 2) two)) (ratio_over (a +ℤ b) (pos 2) two)
    (integers.by_ring (a ∷ b ∷ []) (search reads depth 40) tt)

-- a third is less than a half
third_and_half : over (pos 1) (pos 3) <ℚ over (pos 1) (pos 2)
third_and_half = lt_from_ratios (ratio_over (pos 1) (pos 3) (omega (arith, ints))) (ratio_over (pos 1) (pos 2) (omega (arith, ints))) (omega (arith, ints))

-- the determinant of a product of two matrices is the product of their determinants
determinant_of_product : (a b c d e f g h : ℚ) →
    (a *ℚ e +ℚ b *ℚ g) *ℚ (c *ℚ f +ℚ d *ℚ h) -ℚ (a *ℚ f +ℚ b *ℚ h) *ℚ (c *ℚ e +ℚ d *ℚ g) ≡ (a *ℚ d -ℚ b *ℚ c) *ℚ (e *ℚ h -ℚ f *ℚ g)
determinant_of_product a b c d e f g h = by_ring (a ∷ b ∷ c ∷ d ∷ e ∷ f ∷ g ∷ h ∷ []) (search reads depth 40) tt

-- the square of a sum
square_of_sum : (a b : ℚ) → (a +ℚ b) *ℚ (a +ℚ b) ≡ a *ℚ a +ℚ whole (pos 2) *ℚ a *ℚ b +ℚ b *ℚ b
square_of_sum a b = by_ring (a ∷ b ∷ []) (search reads depth 40) tt

-- the step of a pivot: the row `a x + f y = s`, less f times the pivot row `b x + p y = t` divided by p, has the same solutions
pivot_step : (x y a f b p s t : ℚ) → a *ℚ x +ℚ f *ℚ y ≡ s → b *ℚ x +ℚ p *ℚ y ≡ t → (a -ℚ f *ℚ (b /ℚ p)) *ℚ x +ℚ (f -ℚ f *ℚ (p /ℚ p)) *ℚ y ≡ s -ℚ f *ℚ (t /ℚ p)
pivot_step x y a f b p s t h k =
    by_equations (x ∷ y ∷ a ∷ f ∷ b ∷ p ∷ s ∷ t ∷ reciprocal p ∷ []) (null h ⊞ neg_ℚ (f *ℚ reciprocal p) ⋆ null k) (search reads depth 40) tt

-- and the pivot's column becomes 0
pivot_column : (f p : ℚ) → p ≢ whole (pos 0) → f -ℚ f *ℚ (p /ℚ p) ≡ whole (pos 0)
pivot_column f p h = by_equations (f ∷ p ∷ reciprocal p ∷ []) (neg_ℚ f ⋆ null (*ℚ-reciprocal p h)) (search reads depth 40) tt

-- a sum of two inequalities with weights that are not negative
weighted_sum : (u v a b c d : ℚ) → whole (pos 0) ≤ℚ u → whole (pos 0) ≤ℚ v → a ≤ℚ c → b ≤ℚ d → (u *ℚ a +ℚ v *ℚ b) ≤ℚ (u *ℚ c +ℚ v *ℚ d)
weighted_sum u v a b c d hu hv h k = by_le (u ∷ v ∷ a ∷ b ∷ c ∷ d ∷ []) (hu · gap h ∔ hv · gap k) (search reads depth 40) tt

-- a strict inequality with a positive factor, and a weak one
strict_sum : (k a b c d : ℚ) → whole (pos 0) <ℚ k → a <ℚ b → c ≤ℚ d → (k *ℚ a +ℚ c) <ℚ (k *ℚ b +ℚ d)
strict_sum k a b c d up h l = by_lt (k ∷ a ∷ b ∷ c ∷ d ∷ []) (up ⊙ rise h ⊕ gap l) (search reads depth 40) tt

-- ---- values, computed by the definitions
-- 6 / -4 is -3 / 2
value_of_over : ((over (pos 6) (negsuc 3)).num ≡ negsuc 2) × (den (over (pos 6) (negsuc 3)) ≡ pos 2)
unfolding over lowest gcd_of
value_of_over = (refl, refl)

-- the floor of -7 / 2 is -4
value_of_floor : floor (over (negsuc 6) (pos 2)) ≡ negsuc 3
unfolding over lowest gcd_of
value_of_floor = refl

-- 1 / 6 + 1 / 10 is 4 / 15
value_of_sum : over (pos 1) (pos 6) +ℚ over (pos 1) (pos 10) ≡ over (pos 4) (pos 15)
value_of_sum =
    over_sum (pos 1) (pos 6) (pos 1) (pos 10) (omega (arith, ints)) (omega (arith, ints))
    ∙ same_over (pos 16) (pos 60) (pos 4) (pos 15) (omega (arith, ints)) (omega (arith, ints)) refl

-- the common divisors of -12 and 18 divide 6, and their common multiples are those of 36
value_of_divisors : (gcd_ℤ (negsuc 11) (pos 18) ≡ pos 6) × (lcm_ℤ (negsuc 11) (pos 18) ≡ pos 36) × (gcd_ℤ (pos 0) (pos 0) ≡ pos 0)
unfolding gcd_of lcm_of
value_of_divisors = (refl, refl, refl)
