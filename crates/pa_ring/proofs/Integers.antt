-- The whole numbers are an ordered commutative ring.
use Rattle.std.proofs.Common.{◌≡◌, ◌≢◌, ℕ, zero, suc, refl, ◌+◌, ◌*◌, ◌≤◌, sym, ap, ◌∙◌, arith, ◌⊎◌, inl, inr}
use Rattle.std.proofs.lemmas.Int.{ints, by_lt_z, clamps}
use Rattle.std.proofs.Math.Nat.{mul-le-mul_right}
use Rattle.std.specs.Int.{int_max, int_min}
use Rattle.std.specs.Int.RustNames.{unsigned_abs}
use borrow.Author.Differences.{up, down, product_is, sum_is_lem, neg_is}
use lib.IntN.{ℤ, pos, negsuc, ◌+ℤ◌, ◌-ℤ◌, ◌*ℤ◌, neg_ℤ, *ℤ_comm, *ℤ-zero}
use lib.Signed.{◌≤ℤ◌, ◌<ℤ◌}

-- ---- products and sums
-- products regroup
pub *ℤ_assoc : (a b c : ℤ) → (a *ℤ b) *ℤ c ≡ a *ℤ (b *ℤ c)
*ℤ_assoc a b c =
    omega (
      arith,
      ints,
      ap (λ t. t * up c) (product_is a b).0,
      ap (λ t. t * down c) (product_is a b).0,
      ap (λ t. t * up c) (product_is a b).1,
      ap (λ t. t * down c) (product_is a b).1,
      ap (λ t. up a * t) (product_is b c).0,
      ap (λ t. down a * t) (product_is b c).0,
      ap (λ t. up a * t) (product_is b c).1,
      ap (λ t. down a * t) (product_is b c).1,
    )

-- a factor on the left goes over a sum
pub *ℤ-+ℤ : (a b c : ℤ) → a *ℤ (b +ℤ c) ≡ a *ℤ b +ℤ a *ℤ c
*ℤ-+ℤ a b c = omega (arith, ints, ap (λ t. up a * t) (sum_is_lem b c), ap (λ t. down a * t) (sum_is_lem b c))

-- a factor on the right goes over a sum
pub +ℤ-*ℤ : (a b c : ℤ) → (a +ℤ b) *ℤ c ≡ a *ℤ c +ℤ b *ℤ c
+ℤ-*ℤ a b c = omega (arith, ints, ap (λ t. t * up c) (sum_is_lem a b), ap (λ t. t * down c) (sum_is_lem a b))

-- the first factor changes places with the second
pub *ℤ_left_comm : (a b c : ℤ) → a *ℤ (b *ℤ c) ≡ b *ℤ (a *ℤ c)
*ℤ_left_comm a b c = sym (*ℤ_assoc a b c) ∙ ap (λ t. t *ℤ c) (*ℤ_comm a b) ∙ *ℤ_assoc b a c

-- the first summand changes places with the second
pub +ℤ_left_comm : (a b c : ℤ) → a +ℤ (b +ℤ c) ≡ b +ℤ (a +ℤ c)
+ℤ_left_comm a b c = omega (arith, ints)

-- 1 is neutral for products
pub one-*ℤ : (a : ℤ) → pos 1 *ℤ a ≡ a
one-*ℤ a = omega (arith, ints)

-- ---- signs
-- the sign of the first factor is the sign of the product
pub neg_ℤ-*ℤ : (a b : ℤ) → neg_ℤ a *ℤ b ≡ neg_ℤ (a *ℤ b)
neg_ℤ-*ℤ a b =
    omega (arith, ints, ap (λ t. t * up b) (neg_is a).0, ap (λ t. t * down b) (neg_is a).0, ap (λ t. t * up b) (neg_is a).1, ap (λ t. t * down b) (neg_is a).1)

-- the sign of the second factor is the sign of the product
pub *ℤ-neg_ℤ : (a b : ℤ) → a *ℤ neg_ℤ b ≡ neg_ℤ (a *ℤ b)
*ℤ-neg_ℤ a b = *ℤ_comm a (neg_ℤ b) ∙ neg_ℤ-*ℤ b a ∙ ap neg_ℤ (*ℤ_comm b a)

-- a factor on the right goes over a difference
pub difference-*ℤ : (a b c : ℤ) → (a -ℤ b) *ℤ c ≡ a *ℤ c -ℤ b *ℤ c
difference-*ℤ a b c = +ℤ-*ℤ a (neg_ℤ b) c ∙ ap (λ t. a *ℤ c +ℤ t) (neg_ℤ-*ℤ b c)

-- a factor on the left goes over a difference
pub *ℤ-difference : (a b c : ℤ) → a *ℤ (b -ℤ c) ≡ a *ℤ b -ℤ a *ℤ c
*ℤ-difference a b c = *ℤ-+ℤ a b (neg_ℤ c) ∙ ap (λ t. a *ℤ b +ℤ t) (*ℤ-neg_ℤ a c)

-- a number is negative, 0 or positive
pub by_sign {ℓ} : {X : Type ℓ} (a : ℤ) → (a <ℤ pos 0 → X) → (a ≡ pos 0 → X) → (pos 0 <ℤ a → X) → X
by_sign (pos zero) f g h = g refl
by_sign (pos (suc n)) f g h = h (omega (arith, ints))
by_sign (negsuc n) f g h = f (omega (arith, ints))

-- ---- the order and sums
-- two weak steps make one
pub ≤ℤ_trans : {a b c : ℤ} → a ≤ℤ b → b ≤ℤ c → a ≤ℤ c
≤ℤ_trans {a} {b} {c} h k = omega (arith, ints)

-- a weak step and a strict one make a strict one
pub ≤ℤ-<ℤ_trans : {a b c : ℤ} → a ≤ℤ b → b <ℤ c → a <ℤ c
≤ℤ-<ℤ_trans {a} {b} {c} h k = omega (arith, ints)

-- a strict step and a weak one make a strict one
pub <ℤ-≤ℤ_trans : {a b c : ℤ} → a <ℤ b → b ≤ℤ c → a <ℤ c
<ℤ-≤ℤ_trans {a} {b} {c} h k = omega (arith, ints)

-- two strict steps make one
pub <ℤ_trans : {a b c : ℤ} → a <ℤ b → b <ℤ c → a <ℤ c
<ℤ_trans {a} {b} {c} h k = omega (arith, ints)

-- numbers that are at most one another are equal
pub ≤ℤ_antisym : {a b : ℤ} → a ≤ℤ b → b ≤ℤ a → a ≡ b
≤ℤ_antisym {a} {b} h k = omega (arith, ints)

-- a strict inequality is a weak one
pub <ℤ-≤ℤ : {a b : ℤ} → a <ℤ b → a ≤ℤ b
<ℤ-≤ℤ {a} {b} h = omega (arith, ints)

-- sums keep the order
pub +ℤ-≤ℤ : {a b c d : ℤ} → a ≤ℤ b → c ≤ℤ d → (a +ℤ c) ≤ℤ (b +ℤ d)
+ℤ-≤ℤ {a} {b} {c} {d} h k = omega (arith, ints)

-- sums keep the strict order, if one side is strict
pub +ℤ-<ℤ : {a b c d : ℤ} → a <ℤ b → c ≤ℤ d → (a +ℤ c) <ℤ (b +ℤ d)
+ℤ-<ℤ {a} {b} {c} {d} h k = omega (arith, ints)

-- a negation turns the order
pub neg_ℤ-≤ℤ : {a b : ℤ} → a ≤ℤ b → neg_ℤ b ≤ℤ neg_ℤ a
neg_ℤ-≤ℤ {a} {b} h = omega (arith, ints)

-- ---- the order and products
-- a factor on the right that is not negative keeps the order
pub ≤ℤ-*ℤ : (a b c : ℤ) → a ≤ℤ b → pos 0 ≤ℤ c → (a *ℤ c) ≤ℤ (b *ℤ c)
≤ℤ-*ℤ a b (pos n) h k =
    let e : up a + down b ≤ up b + down a = omega (arith, ints) in
    omega (arith, ints, mul-le-mul_right n e)
≤ℤ-*ℤ a b (negsuc n) h k = absurd (omega (arith, ints))

-- a factor on the left that is not negative keeps the order
pub *ℤ-≤ℤ : (a b c : ℤ) → a ≤ℤ b → pos 0 ≤ℤ c → (c *ℤ a) ≤ℤ (c *ℤ b)
*ℤ-≤ℤ a b c h k = omega (arith, ints, ≤ℤ-*ℤ a b c h k)

-- a product of numbers that are not negative is not negative
pub nonneg-*ℤ : (a b : ℤ) → pos 0 ≤ℤ a → pos 0 ≤ℤ b → pos 0 ≤ℤ (a *ℤ b)
nonneg-*ℤ a b h k = omega (arith, ints, ≤ℤ-*ℤ (pos 0) a b h k)

-- a factor on the right that is not positive turns the order
pub ≤ℤ-*ℤ_neg : (a b c : ℤ) → a ≤ℤ b → c ≤ℤ pos 0 → (b *ℤ c) ≤ℤ (a *ℤ c)
≤ℤ-*ℤ_neg a b c h k =
    let up_c : pos 0 ≤ℤ neg_ℤ c = omega (arith, ints) in
    omega (arith, ints, ≤ℤ-*ℤ a b (neg_ℤ c) h up_c, *ℤ-neg_ℤ a c, *ℤ-neg_ℤ b c)

-- products keep the order, factor by factor
pub ≤ℤ-*ℤ-≤ℤ : (a b c d : ℤ) → pos 0 ≤ℤ a → a ≤ℤ b → pos 0 ≤ℤ c → c ≤ℤ d → (a *ℤ c) ≤ℤ (b *ℤ d)
≤ℤ-*ℤ-≤ℤ a b c d a0 h c0 k =
    let b0 : pos 0 ≤ℤ b = omega (arith, ints) in
    omega (arith, ints, ≤ℤ-*ℤ a b c h c0, *ℤ-≤ℤ c d b k b0)

-- a positive factor on the right keeps the strict order
pub <ℤ-*ℤ : (a b c : ℤ) → a <ℤ b → pos 0 <ℤ c → (a *ℤ c) <ℤ (b *ℤ c)
<ℤ-*ℤ a b c h k =
    let next : (a +ℤ pos 1) ≤ℤ b = omega (arith, ints) in
    let c0 : pos 0 ≤ℤ c = omega (arith, ints) in
    omega (arith, ints, ≤ℤ-*ℤ (a +ℤ pos 1) b c next c0, +ℤ-*ℤ a (pos 1) c)

-- a positive factor on the left keeps the strict order
pub *ℤ-<ℤ : (a b c : ℤ) → a <ℤ b → pos 0 <ℤ c → (c *ℤ a) <ℤ (c *ℤ b)
*ℤ-<ℤ a b c h k = omega (arith, ints, <ℤ-*ℤ a b c h k)

-- a product of positive numbers is positive
pub positive-*ℤ : (a b : ℤ) → pos 0 <ℤ a → pos 0 <ℤ b → pos 0 <ℤ (a *ℤ b)
positive-*ℤ a b h k = omega (arith, ints, <ℤ-*ℤ (pos 0) a b h k)

-- a product of a positive and a negative number is negative
pub positive-*ℤ-negative : (a b : ℤ) → pos 0 <ℤ a → b <ℤ pos 0 → (a *ℤ b) <ℤ pos 0
positive-*ℤ-negative a b h k = omega (arith, ints, *ℤ-<ℤ b (pos 0) a k h)

-- a product of negative numbers is positive
pub negative-*ℤ-negative : (a b : ℤ) → a <ℤ pos 0 → b <ℤ pos 0 → pos 0 <ℤ (a *ℤ b)
negative-*ℤ-negative a b h k =
    let up_b : pos 0 <ℤ neg_ℤ b = omega (arith, ints) in
    omega (arith, ints, <ℤ-*ℤ a (pos 0) (neg_ℤ b) h up_b, *ℤ-neg_ℤ a b)

-- ---- cancellation
-- a positive factor can be taken away from an inequality
pub ≤ℤ-*ℤ_cancel : (a b c : ℤ) → pos 0 <ℤ c → (a *ℤ c) ≤ℤ (b *ℤ c) → a ≤ℤ b
≤ℤ-*ℤ_cancel a b c k h = by_lt_z b a (λ less. absurd (omega (arith, ints, <ℤ-*ℤ b a c less k))) (λ le. le)

-- a factor that is not negative can be taken away from a strict inequality
pub <ℤ-*ℤ_cancel : (a b c : ℤ) → pos 0 ≤ℤ c → (a *ℤ c) <ℤ (b *ℤ c) → a <ℤ b
<ℤ-*ℤ_cancel a b c k h = by_lt_z a b (λ less. less) (λ le. absurd (omega (arith, ints, ≤ℤ-*ℤ b a c le k)))

-- a positive factor can be taken away from an equation
pub *ℤ_cancel : (a b c : ℤ) → pos 0 <ℤ c → a *ℤ c ≡ b *ℤ c → a ≡ b
*ℤ_cancel a b c k e =
    let p : (a *ℤ c) ≤ℤ (b *ℤ c) = omega (arith, ints) in
    let q : (b *ℤ c) ≤ℤ (a *ℤ c) = omega (arith, ints) in
    omega (arith, ints, ≤ℤ-*ℤ_cancel a b c k p, ≤ℤ-*ℤ_cancel b a c k q)

-- a factor that is not 0 can be taken away from an equation
pub *ℤ_cancel_nonzero : (a b c : ℤ) → c ≢ pos 0 → a *ℤ c ≡ b *ℤ c → a ≡ b
*ℤ_cancel_nonzero a b c k e =
    by_sign c
    (λ below. let up_c : pos 0 <ℤ neg_ℤ c = omega (arith, ints) in
    let turned : a *ℤ neg_ℤ c ≡ b *ℤ neg_ℤ c = *ℤ-neg_ℤ a c ∙ ap neg_ℤ e ∙ sym (*ℤ-neg_ℤ b c) in
    *ℤ_cancel a b (neg_ℤ c) up_c turned)
    (λ null. absurd (k null))
    (λ above. *ℤ_cancel a b c above e)

-- a product is 0 only if a factor is
pub zero_product : (a b : ℤ) → a *ℤ b ≡ pos 0 → (a ≡ pos 0) ⊎ (b ≡ pos 0)
zero_product a b e =
    by_sign b
    (λ below. inl (*ℤ_cancel_nonzero a (pos 0) b (omega (arith, ints)) (omega (arith, ints))))
    (λ null. inr null)
    (λ above. inl (*ℤ_cancel_nonzero a (pos 0) b (omega (arith, ints)) (omega (arith, ints))))

-- a positive product with a positive factor has another
pub positive_factor : (a b : ℤ) → pos 0 <ℤ b → pos 0 <ℤ (a *ℤ b) → pos 0 <ℤ a
positive_factor a b k h = <ℤ-*ℤ_cancel (pos 0) a b (omega (arith, ints)) (omega (arith, ints))

-- ---- squares
-- a square is not negative
pub square_nonneg : (a : ℤ) → pos 0 ≤ℤ (a *ℤ a)
square_nonneg a =
    by_sign a
    (λ below. omega (arith, ints, negative-*ℤ-negative a a below below))
    (λ null. nonneg-*ℤ a a (omega (arith, ints)) (omega (arith, ints)))
    (λ above. omega (arith, ints, positive-*ℤ a a above above))

-- a square is 0 only at 0
pub square_zero : (a : ℤ) → a *ℤ a ≡ pos 0 → a ≡ pos 0
square_zero a e =
    by_sign a
    (λ below. absurd (omega (arith, ints, negative-*ℤ-negative a a below below)))
    (λ null. null)
    (λ above. absurd (omega (arith, ints, positive-*ℤ a a above above)))

-- ---- absolute values
-- a number that is not negative is its absolute value
pub abs_nonneg : (a : ℤ) → pos 0 ≤ℤ a → pos (unsigned_abs a) ≡ a
abs_nonneg a h = omega (arith, ints)

-- a number that is not positive is the negation of its absolute value
pub abs_nonpos : (a : ℤ) → a ≤ℤ pos 0 → pos (unsigned_abs a) ≡ neg_ℤ a
abs_nonpos a h = omega (arith, ints)

-- a negation keeps the absolute value
pub abs-neg_ℤ : (a : ℤ) → unsigned_abs (neg_ℤ a) ≡ unsigned_abs a
abs-neg_ℤ a = omega (arith, ints)

-- only 0 has the absolute value 0
pub abs_zero : (a : ℤ) → unsigned_abs a ≡ 0 → a ≡ pos 0
abs_zero a e = omega (arith, ints)

-- the absolute value of a sum is at most the sum of the absolute values
pub abs-+ℤ : (a b : ℤ) → unsigned_abs (a +ℤ b) ≤ unsigned_abs a + unsigned_abs b
abs-+ℤ a b = omega (arith, ints)

-- a number lies between its absolute value and the negation of that
pub within_abs : (a : ℤ) → (neg_ℤ (pos (unsigned_abs a)) ≤ℤ a) × (a ≤ℤ pos (unsigned_abs a))
within_abs a = (omega (arith, ints), omega (arith, ints))

-- a bound on both sides is a bound of the absolute value
pub abs_bounded : (a : ℤ) (n : ℕ) → neg_ℤ (pos n) ≤ℤ a → a ≤ℤ pos n → unsigned_abs a ≤ n
abs_bounded a n h k = omega (arith, ints)

-- ---- maximum and minimum
-- the maximum is at least the first number
pub ≤ℤ-int_max_left : (a b : ℤ) → a ≤ℤ int_max a b
≤ℤ-int_max_left a b = omega (arith, ints, clamps)

-- the maximum is at least the second number
pub ≤ℤ-int_max_right : (a b : ℤ) → b ≤ℤ int_max a b
≤ℤ-int_max_right a b = omega (arith, ints, clamps)

-- the maximum is at most what both numbers are at most
pub int_max-≤ℤ : (a b c : ℤ) → a ≤ℤ c → b ≤ℤ c → int_max a b ≤ℤ c
int_max-≤ℤ a b c h k = omega (arith, ints, clamps)

-- the minimum is at most the first number
pub int_min-≤ℤ_left : (a b : ℤ) → int_min a b ≤ℤ a
int_min-≤ℤ_left a b = omega (arith, ints, clamps)

-- the minimum is at most the second number
pub int_min-≤ℤ_right : (a b : ℤ) → int_min a b ≤ℤ b
int_min-≤ℤ_right a b = omega (arith, ints, clamps)

-- the minimum is at least what both numbers are at least
pub ≤ℤ-int_min : (a b c : ℤ) → c ≤ℤ a → c ≤ℤ b → c ≤ℤ int_min a b
≤ℤ-int_min a b c h k = omega (arith, ints, clamps)

-- the maximum is one of the numbers
pub int_max_is_one : (a b : ℤ) → (int_max a b ≡ a) ⊎ (int_max a b ≡ b)
int_max_is_one a b = by_lt_z a b (λ less. inr (omega (arith, ints, clamps))) (λ le. inl (omega (arith, ints, clamps)))

-- the minimum is one of the numbers
pub int_min_is_one : (a b : ℤ) → (int_min a b ≡ a) ⊎ (int_min a b ≡ b)
int_min_is_one a b = by_lt_z a b (λ less. inl (omega (arith, ints, clamps))) (λ le. inr (omega (arith, ints, clamps)))

-- a factor that is not negative goes into a maximum
pub int_max-*ℤ : (a b c : ℤ) → pos 0 ≤ℤ c → int_max a b *ℤ c ≡ int_max (a *ℤ c) (b *ℤ c)
int_max-*ℤ a b c h =
    by_lt_z a b
    (λ less. let e : int_max a b ≡ b = omega (arith, ints, clamps) in
    omega (arith, ints, clamps, ap (λ t. t *ℤ c) e, ≤ℤ-*ℤ a b c (omega (arith, ints)) h))
    (λ le. let e : int_max a b ≡ a = omega (arith, ints, clamps) in
    omega (arith, ints, clamps, ap (λ t. t *ℤ c) e, ≤ℤ-*ℤ b a c le h))

-- a factor that is not negative goes into a minimum
pub int_min-*ℤ : (a b c : ℤ) → pos 0 ≤ℤ c → int_min a b *ℤ c ≡ int_min (a *ℤ c) (b *ℤ c)
int_min-*ℤ a b c h =
    by_lt_z a b
    (λ less. let e : int_min a b ≡ a = omega (arith, ints, clamps) in
    omega (arith, ints, clamps, ap (λ t. t *ℤ c) e, ≤ℤ-*ℤ a b c (omega (arith, ints)) h))
    (λ le. let e : int_min a b ≡ b = omega (arith, ints, clamps) in
    omega (arith, ints, clamps, ap (λ t. t *ℤ c) e, ≤ℤ-*ℤ b a c le h))

-- ---- facts `pos 0 ≤ℤ w`, which multiply and add
-- how far the right side is above the left
pub gap : {a b : ℤ} → a ≤ℤ b → pos 0 ≤ℤ (b -ℤ a)
gap {a} {b} h = omega (arith, ints)

-- the same for a strict inequality, whose sides differ by 1 at least
pub gap_lt : {a b : ℤ} → a <ℤ b → pos 0 ≤ℤ (b -ℤ a -ℤ pos 1)
gap_lt {a} {b} h = omega (arith, ints)

-- an equation as such a fact; `gap_same (sym e)` has the other direction
pub gap_same : {a b : ℤ} → a ≡ b → pos 0 ≤ℤ (b -ℤ a)
gap_same {a} {b} e = omega (arith, ints)

-- the product of two such facts
infixl 7 ◌·◌
pub ◌·◌ : {a b : ℤ} → pos 0 ≤ℤ a → pos 0 ≤ℤ b → pos 0 ≤ℤ (a *ℤ b)
◌·◌ {a} {b} h k = nonneg-*ℤ a b h k

-- the sum of two such facts
infixl 6 ◌∔◌
pub ◌∔◌ : {a b : ℤ} → pos 0 ≤ℤ a → pos 0 ≤ℤ b → pos 0 ≤ℤ (a +ℤ b)
◌∔◌ {a} {b} h k = omega (arith, ints)

-- a natural number is not negative, as the multiplier `nonneg_pos {n = 2}`
pub nonneg_pos : {n : ℕ} → pos 0 ≤ℤ pos n
nonneg_pos {n} = omega (arith, ints)

-- an inequality whose sides differ by what is not negative
pub le_from_gap : (x y w : ℤ) → pos 0 ≤ℤ w → y ≡ x +ℤ w → x ≤ℤ y
le_from_gap x y w h e = omega (arith, ints)

-- ---- facts `pos 0 <ℤ w`, which multiply and add
-- how far the right side of a strict inequality is above the left
pub rise : {a b : ℤ} → a <ℤ b → pos 0 <ℤ (b -ℤ a)
rise {a} {b} h = omega (arith, ints)

-- a natural number after 0 is positive, as the multiplier `positive_pos {n = 1}`, which is 2
pub positive_pos : {n : ℕ} → pos 0 <ℤ pos (suc n)
positive_pos {n} = omega (arith, ints)

-- the product of two such facts
infixl 7 ◌⊙◌
pub ◌⊙◌ : {a b : ℤ} → pos 0 <ℤ a → pos 0 <ℤ b → pos 0 <ℤ (a *ℤ b)
◌⊙◌ {a} {b} h k = positive-*ℤ a b h k

-- such a fact and one of `pos 0 ≤ℤ w`
infixl 6 ◌⊕◌
pub ◌⊕◌ : {a b : ℤ} → pos 0 <ℤ a → pos 0 ≤ℤ b → pos 0 <ℤ (a +ℤ b)
◌⊕◌ {a} {b} h k = omega (arith, ints)

-- a strict inequality whose sides differ by what is positive
pub lt_from_rise : (x y w : ℤ) → pos 0 <ℤ w → y ≡ x +ℤ w → x <ℤ y
lt_from_rise x y w h e = omega (arith, ints)

-- ---- facts `w ≡ pos 0`, which multiply and add
-- the difference of equal numbers
pub null : {a b : ℤ} → a ≡ b → a -ℤ b ≡ pos 0
null {a} {b} e = omega (arith, ints)

-- such a fact times any number
infixl 7 ◌⋆◌
pub ◌⋆◌ : (c : ℤ) {w : ℤ} → w ≡ pos 0 → c *ℤ w ≡ pos 0
◌⋆◌ c {w} e = ap (λ t. c *ℤ t) e ∙ *ℤ-zero c

-- the sum of two such facts
infixl 6 ◌⊞◌
pub ◌⊞◌ : {w v : ℤ} → w ≡ pos 0 → v ≡ pos 0 → w +ℤ v ≡ pos 0
◌⊞◌ {w} {v} e f = omega (arith, ints)

-- an equation whose sides differ by 0
pub same_from_null : (x y w : ℤ) → w ≡ pos 0 → x ≡ y +ℤ w → x ≡ y
same_from_null x y w e f = omega (arith, ints)
