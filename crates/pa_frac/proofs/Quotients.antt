-- The reciprocal by the numbers of its fraction.
use Rattle.std.proofs.Common.{◌≡◌, ℕ, zero, suc, false, sym, ap, ◌∙◌, arith}
use Rattle.std.specs.Ordering.{int_eq}
use Rattle.std.proofs.lemmas.Int.{ints}
use lib.IntN.{ℤ, pos, negsuc, neg_ℤ}
use lib.Signed.{◌<ℤ◌}
use Rattle.pa_ring.proofs.Integers.{abs-neg_ℤ}
use Rattle.pa_math.specs.Rational.{over, reciprocal}
use Rattle.pa_math.proofs.Rationals.{over_num}
use Rattle.pa_math.proofs.ReducedOperations.{reciprocal_reduced, reciprocal_reduced_negative, reciprocal_value, reciprocal_value_negative, reduced_neg}
use Rattle.pa_frac.specs.Width.{Fits}
use Rattle.pa_frac.specs.Narrow.{IsNarrow}
use Rattle.pa_frac.specs.Operations.{is_zero}

-- a negation keeps the absolute value
neg_fits : (w : ℕ) (z : ℤ) → Fits w z → Fits w (neg_ℤ z)
neg_fits w z h = omega (arith, abs-neg_ℤ z)

-- the negation
pub neg_narrow : (w : ℕ) (a b : ℤ) → IsNarrow w a b → IsNarrow w (neg_ℤ a) b
neg_narrow w a b s = record { reduced = reduced_neg s.reduced; num_fits = neg_fits w a s.num_fits; den_fits = s.den_fits }

-- the reciprocal of a positive fraction
pub reciprocal_narrow : (w : ℕ) (a b : ℤ) → IsNarrow w a b → pos 0 <ℤ a → IsNarrow w b a
reciprocal_narrow w a b s h = record { reduced = reciprocal_reduced a b s.reduced h; num_fits = s.den_fits; den_fits = s.num_fits }

-- the reciprocal of a negative fraction
pub reciprocal_narrow_negative : (w : ℕ) (a b : ℤ) → IsNarrow w a b → a <ℤ pos 0 → IsNarrow w (neg_ℤ b) (neg_ℤ a)
reciprocal_narrow_negative w a b s h =
    record { reduced = reciprocal_reduced_negative a b s.reduced h; num_fits = neg_fits w b s.den_fits; den_fits = neg_fits w a s.num_fits }

pub reciprocal_is : (w : ℕ) (a b : ℤ) → IsNarrow w a b → pos 0 <ℤ a → over b a ≡ reciprocal (over a b)
reciprocal_is w a b s h = sym (reciprocal_value a b s.reduced.positive h)

pub reciprocal_is_negative : (w : ℕ) (a b : ℤ) → IsNarrow w a b → a <ℤ pos 0 → over (neg_ℤ b) (neg_ℤ a) ≡ reciprocal (over a b)
reciprocal_is_negative w a b s h = sym (reciprocal_value_negative a b s.reduced.positive h)

-- a fraction that is not 0 and whose numerator is not below 0 has a positive numerator
pub positive_num : (w : ℕ) (a b : ℤ) → IsNarrow w a b → is_zero (over a b) ≡ false → (a <ℤ pos 0 → ⊥) → pos 0 <ℤ a
positive_num w a b s h not_below = above a (sym (ap (λ n. int_eq n (pos 0)) (over_num a b s.reduced)) ∙ h) not_below
  where
    above : (a : ℤ) → int_eq a (pos 0) ≡ false → (a <ℤ pos 0 → ⊥) → pos 0 <ℤ a
    above (pos zero) h k = cc
    above (pos (suc n)) h k = omega (arith, ints)
    above (negsuc n) h k = absurd (k (omega (arith, ints)))
