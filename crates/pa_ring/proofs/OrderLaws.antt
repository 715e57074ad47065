-- What follows from the laws of an ordered commutative ring: signs of numerals and squares, products, cancellation.
use Rattle.std.proofs.Common.{◌≡◌, ℕ, zero, suc, [], ◌∷◌, sym, ap, ◌∙◌, arith}
use Rattle.std.proofs.lemmas.Int.{ints}
use mathlib.Core.Path.{subst}
use mathlib.Core.Logic.{⊎_elim}
use lib.IntN.{pos, ◌+ℤ◌}
use Rattle.pa_ring.specs.OrderedRing.{OrderedRing}
use Rattle.pa_ring.proofs.RingTactics.{reads}
use Rattle.pa_ring.proofs.OrderTactics.{gap, rise, weak, lt_unless, by_le, by_lt, ◌·◌ as nonneg_times}
use Rattle.pa_ring.proofs.OrderTactics.{◌∔◌ as nonneg_plus, ◌⊙◌ as positive_times, ◌⊕◌ as positive_plus}

module _ (R : OrderedRing) where
  open R use {ring as laws, ◌≤◌, ◌<◌, le_refl, le_trans, le_antisym, lt_or_le, lt_not_le, lt-le, zero_lt_one}
  open laws use {carrier, ◌+◌, ◌*◌, neg, of, add_comm, zero-add, of-add}

  -- ---- the order
  -- a weak step and a strict one make a strict one
  pub le-lt_trans : (x y z : carrier) → x ≤ y → y < z → x < z
  le-lt_trans x y z h k = lt_unless R x z (λ le. lt_not_le y z k (le_trans z x y le h))

  -- a strict step and a weak one make a strict one
  pub lt-le_trans : (x y z : carrier) → x < y → y ≤ z → x < z
  lt-le_trans x y z h k = lt_unless R x z (λ le. lt_not_le x y h (le_trans y z x k le))

  -- of two numbers one is at most the other
  pub le_total {ℓ} : {X : Type ℓ} (x y : carrier) → (x ≤ y → X) → (y ≤ x → X) → X
  le_total x y f g = ⊎_elim (λ less. f (lt-le x y less)) g (lt_or_le x y)

  -- sums keep the order
  pub add_le_both : (x y z w : carrier) → x ≤ y → z ≤ w → x + z ≤ y + w
  add_le_both x y z w h k = by_le R (x ∷ y ∷ z ∷ w ∷ []) (nonneg_plus R (gap R h) (gap R k)) (search reads depth 40) tt

  -- sums keep the strict order, if one side is strict
  pub add_lt-le : (x y z w : carrier) → x < y → z ≤ w → x + z < y + w
  add_lt-le x y z w h k = by_lt R (x ∷ y ∷ z ∷ w ∷ []) (positive_plus R (rise R h) (gap R k)) (search reads depth 40) tt

  -- a negation turns the order
  pub neg_le : (x y : carrier) → x ≤ y → neg y ≤ neg x
  neg_le x y h = by_le R (x ∷ y ∷ []) (gap R h) (search reads depth 40) tt

  -- ---- numerals
  -- the image of a natural number is not negative
  pub numeral_nonneg : (n : ℕ) → of (pos 0) ≤ of (pos n)
  numeral_nonneg zero = le_refl (of (pos 0))
  numeral_nonneg (suc n) =
      let next : pos (suc n) ≡ pos n +ℤ pos 1 = omega (arith, ints) in
      subst (λ t. of (pos 0) ≤ t) (sym (ap of next ∙ of-add (pos n) (pos 1))) (nonneg_plus R (numeral_nonneg n) (weak R zero_lt_one))

  -- the image of a positive natural number is positive
  pub numeral_positive : (n : ℕ) → of (pos 0) < of (pos (suc n))
  numeral_positive n =
      let next : pos (suc n) ≡ pos 1 +ℤ pos n = omega (arith, ints) in
      subst (λ t. of (pos 0) < t) (sym (ap of next ∙ of-add (pos 1) (pos n))) (positive_plus R zero_lt_one (numeral_nonneg n))

  -- ---- products
  -- a factor on the right that is not negative keeps the order
  pub mul_le : (x y c : carrier) → x ≤ y → of (pos 0) ≤ c → x * c ≤ y * c
  mul_le x y c h k = by_le R (x ∷ y ∷ c ∷ []) (nonneg_times R (gap R h) k) (search reads depth 40) tt

  -- a factor on the right that is not positive turns the order
  pub mul_le_neg : (x y c : carrier) → x ≤ y → c ≤ of (pos 0) → y * c ≤ x * c
  mul_le_neg x y c h k = by_le R (x ∷ y ∷ c ∷ []) (nonneg_times R (gap R h) (gap R k)) (search reads depth 40) tt

  -- a positive factor on the right keeps the strict order
  pub mul_lt : (x y c : carrier) → x < y → of (pos 0) < c → x * c < y * c
  mul_lt x y c h k = by_lt R (x ∷ y ∷ c ∷ []) (positive_times R (rise R h) k) (search reads depth 40) tt

  -- products keep the order, factor by factor
  pub mul_le_both : (x y z w : carrier) → of (pos 0) ≤ x → x ≤ y → of (pos 0) ≤ z → z ≤ w → x * z ≤ y * w
  mul_le_both x y z w x0 h z0 k =
      by_le R (x ∷ y ∷ z ∷ w ∷ []) (nonneg_plus R (nonneg_times R (gap R h) (le_trans (of (pos 0)) z w z0 k)) (nonneg_times R x0 (gap R k)))
      (search reads depth 40) tt

  -- a square is not negative
  pub square_nonneg : (x : carrier) → of (pos 0) ≤ x * x
  square_nonneg x =
      le_total (of (pos 0)) x
      (λ above. nonneg_times R above above)
      (λ below. by_le R (x ∷ []) (nonneg_times R (gap R below) (gap R below)) (search reads depth 40) tt)

  -- ---- cancellation
  -- a positive factor can be taken away from an inequality
  pub mul_le_cancel : (x y c : carrier) → of (pos 0) < c → x * c ≤ y * c → x ≤ y
  mul_le_cancel x y c k h = ⊎_elim (λ less. absurd (lt_not_le (y * c) (x * c) (mul_lt y x c less k) h)) (λ le. le) (lt_or_le y x)

  -- a factor that is not negative can be taken away from a strict inequality
  pub mul_lt_cancel : (x y c : carrier) → of (pos 0) ≤ c → x * c < y * c → x < y
  mul_lt_cancel x y c k h = lt_unless R x y (λ le. lt_not_le (x * c) (y * c) h (mul_le y x c le k))

  -- a positive factor can be taken away from an equation
  pub mul_cancel : (x y c : carrier) → of (pos 0) < c → x * c ≡ y * c → x ≡ y
  mul_cancel x y c k e =
      le_antisym x y
      (mul_le_cancel x y c k (subst (λ t. x * c ≤ t) e (le_refl (x * c))))
      (mul_le_cancel y x c k (subst (λ t. t ≤ x * c) e (le_refl (x * c))))
