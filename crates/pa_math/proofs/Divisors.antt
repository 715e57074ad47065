-- Divisors, exact quotients and greatest common divisors.
use Rattle.std.proofs.Common.{◌≡◌, ◌≢◌, ℕ, zero, suc, ◌/◌, ◌%◌, ◌≤◌, ◌<◌, [], ◌∷◌, refl, sym, ap, ◌∙◌, subst, arith}
use Rattle.std.specs.Int.{IsGcd}
use Rattle.std.specs.Int.RustNames.{int_div}
use Rattle.std.proofs.lemmas.Int.{ints, unsigned_abs-mul}
use Rattle.std.proofs.lemmas.Nat.Gcd.{dvd_refl, dvd-zero, dvd_trans, le_of_dvd, IsGcd-from_zero, IsGcd-from_mod, IsGcd-swap, same_from_IsGcd}
use native.Mathlib.Nat.{one-dvd, dvd-mul_left, div-mul_cancel, eq-one_of_dvd-one}
use Prim.Native.Nat.{◌∣◌}
use lib.IntN.{ℤ, pos, negsuc, ◌+ℤ◌, ◌*ℤ◌, neg_ℤ, nat_abs, *ℤ_comm, *ℤ-zero}
use lib.Signed.{◌≤ℤ◌, ◌<ℤ◌}
use Rattle.pa_ring.proofs.Integers.{neg_ℤ-*ℤ, *ℤ-neg_ℤ, one-*ℤ, positive_factor, *ℤ_cancel, null, ◌⋆◌, ◌⊞◌}
use Rattle.pa_ring.proofs.IntegerTactics.{by_ring, by_equations, reads}
use Rattle.pa_math.specs.Divisors.{gcd_of, Divides, gcd_ℤ}
pub use Rattle.pa_math.specs.LowestTerms.{IsGcd-gcd_of, gcd_of_positive}

-- ---- the greatest common divisor, as Euclid's algorithm finds it
-- nothing else is the greatest common divisor
pub gcd_of_unique : (a b g : ℕ) → IsGcd a b g → g ≡ gcd_of a b
gcd_of_unique a b g h = same_from_IsGcd a b g (gcd_of a b) h (IsGcd-gcd_of a b)

-- one step of the algorithm
pub gcd_of_next : (a b : ℕ) → gcd_of a b ≡ gcd_of b (a % b)
gcd_of_next a b = sym (gcd_of_unique a b _ (IsGcd-from_mod a b _ (IsGcd-gcd_of b (a % b))))

-- the last step
pub gcd_of_zero : (a : ℕ) → gcd_of a 0 ≡ a
gcd_of_zero a = sym (gcd_of_unique a 0 a (IsGcd-from_zero a 0 refl))

-- the two numbers may change places
pub gcd_of_comm : (a b : ℕ) → gcd_of a b ≡ gcd_of b a
gcd_of_comm a b = sym (gcd_of_unique a b _ (IsGcd-swap b a _ (IsGcd-gcd_of b a)))

-- it is at most a positive number
pub gcd_of_at_most : (a b : ℕ) → 0 < b → gcd_of a b ≤ b
gcd_of_at_most a b h = le_of_dvd h (IsGcd-gcd_of a b).1

-- ---- d divides n exactly where n is a multiple of d
pub Divides_from_multiple : (d k n : ℤ) → k *ℤ d ≡ n → Divides d n
Divides_from_multiple d k n e = record {
  divides = subst (λ t. nat_abs d ∣ t) (sym (unsigned_abs-mul k d) ∙ ap nat_abs e) (dvd-mul_left (nat_abs d) (nat_abs k));
}

-- a product is a multiple of its other factor too
pub Divides_from_factor : (k d n : ℤ) → k *ℤ d ≡ n → Divides k n
Divides_from_factor k d n e = Divides_from_multiple k d n (*ℤ_comm d k ∙ e)

signs_cancel : (a b : ℤ) → neg_ℤ a *ℤ neg_ℤ b ≡ a *ℤ b
signs_cancel a b = by_ring (a ∷ b ∷ []) (search reads depth 40) tt

exact : (n d : ℤ) → nat_abs d ∣ nat_abs n → int_div n d *ℤ d ≡ n
exact (pos a) (pos d) h = ap pos (div-mul_cancel d h)
exact (pos a) (negsuc d) h = signs_cancel (pos (a / suc d)) (pos (suc d)) ∙ ap pos (div-mul_cancel (suc d) h)
exact (negsuc a) (pos d) h = neg_ℤ-*ℤ (pos (suc a / d)) (pos d) ∙ ap (λ t. neg_ℤ (pos t)) (div-mul_cancel d h)
exact (negsuc a) (negsuc d) h = *ℤ-neg_ℤ (pos (suc a / suc d)) (pos (suc d)) ∙ ap (λ t. neg_ℤ (pos t)) (div-mul_cancel (suc d) h)

-- exact division
pub quotient_exact : {d n : ℤ} → Divides d n → int_div n d *ℤ d ≡ n
quotient_exact {d} {n} h = exact n d h.divides

-- a number divides itself
pub Divides_refl : (d : ℤ) → Divides d d
Divides_refl d = record { divides = dvd_refl (nat_abs d) }

-- each number divides 0
pub Divides_zero : (d : ℤ) → Divides d (pos 0)
Divides_zero d = record { divides = dvd-zero (nat_abs d) }

-- a divisor of a divisor is a divisor
pub Divides_trans : {d n m : ℤ} → Divides d n → Divides n m → Divides d m
Divides_trans {d} h k = record { divides = dvd_trans (nat_abs d) h.divides k.divides }

-- a divisor divides each multiple
pub Divides_multiple : {d n : ℤ} (k : ℤ) → Divides d n → Divides d (k *ℤ n)
Divides_multiple {d} {n} k h =
    Divides_from_multiple d (k *ℤ int_div n d) (k *ℤ n)
    (by_equations (k ∷ int_div n d ∷ d ∷ n ∷ []) (k ⋆ null (quotient_exact h)) (search reads depth 40) tt)

-- both may be multiplied by one number
pub Divides_both : {d n : ℤ} (k : ℤ) → Divides d n → Divides (d *ℤ k) (n *ℤ k)
Divides_both {d} {n} k h =
    Divides_from_multiple (d *ℤ k) (int_div n d) (n *ℤ k)
    (by_equations (int_div n d ∷ d ∷ n ∷ k ∷ []) (k ⋆ null (quotient_exact h)) (search reads depth 40) tt)

-- a common divisor divides the sum
pub Divides_sum : {d n m : ℤ} → Divides d n → Divides d m → Divides d (n +ℤ m)
Divides_sum {d} {n} {m} h k =
    Divides_from_multiple d (int_div n d +ℤ int_div m d) (n +ℤ m)
    (by_equations (int_div n d ∷ int_div m d ∷ d ∷ n ∷ m ∷ []) (null (quotient_exact h) ⊞ null (quotient_exact k)) (search reads depth 40) tt)

-- 1 has no divisor but 1 and -1
pub Divides_one : {d : ℤ} → pos 0 ≤ℤ d → Divides d (pos 1) → d ≡ pos 1
Divides_one {d = pos d} h k = ap pos (eq-one_of_dvd-one k.divides)
Divides_one {d = negsuc d} h k = absurd (omega (arith, ints))

-- 0 divides 0 alone
pub zero_divides : {d n : ℤ} → d ≡ pos 0 → Divides d n → n ≡ pos 0
zero_divides {d} {n} e h = sym (quotient_exact h) ∙ ap (λ t. int_div n d *ℤ t) e ∙ *ℤ-zero (int_div n d)

-- a positive number is at least each of its divisors
pub Divides_at_most : {d n : ℤ} → pos 0 <ℤ n → Divides d n → d ≤ℤ n
Divides_at_most {d = pos d} {n = pos n} h k = omega (arith, ints, le_of_dvd (omega (arith, ints)) k.divides)
Divides_at_most {d = negsuc d} {n = pos n} h k = omega (arith, ints)
Divides_at_most {d} {n = negsuc n} h k = absurd (omega (arith, ints))

-- the quotient of a positive number by a positive divisor is positive
pub quotient_positive : {d n : ℤ} → pos 0 <ℤ d → pos 0 <ℤ n → Divides d n → pos 0 <ℤ int_div n d
quotient_positive {d} {n} up above h = positive_factor (int_div n d) d up (subst (λ t. pos 0 <ℤ t) (sym (quotient_exact h)) above)

-- what is multiplied and divided again is as it was
pub multiple_divided : (k d : ℤ) → pos 0 <ℤ d → int_div (k *ℤ d) d ≡ k
multiple_divided k d h = *ℤ_cancel (int_div (k *ℤ d) d) k d h (quotient_exact (Divides_from_multiple d k (k *ℤ d) refl))

-- a quotient by 1
pub quotient_by_one : (n : ℤ) → int_div n (pos 1) ≡ n
quotient_by_one n =
    sym (one-*ℤ (int_div n (pos 1))) ∙ *ℤ_comm (pos 1) (int_div n (pos 1)) ∙ quotient_exact {d = pos 1} {n = n} (record { divides = one-dvd (nat_abs n) })

-- ---- the greatest common divisor of numbers with signs
-- it divides both numbers
pub gcd_ℤ_left : (a b : ℤ) → Divides (gcd_ℤ a b) a
gcd_ℤ_left a b = record { divides = (IsGcd-gcd_of (nat_abs a) (nat_abs b)).0 }

pub gcd_ℤ_right : (a b : ℤ) → Divides (gcd_ℤ a b) b
gcd_ℤ_right a b = record { divides = (IsGcd-gcd_of (nat_abs a) (nat_abs b)).1 }

-- each common divisor divides it
pub gcd_ℤ_greatest : {a b d : ℤ} → Divides d a → Divides d b → Divides d (gcd_ℤ a b)
gcd_ℤ_greatest {a} {b} {d} h k = record { divides = (IsGcd-gcd_of (nat_abs a) (nat_abs b)).2 (nat_abs d) h.divides k.divides }

-- no other number that is not negative has these two properties
pub gcd_ℤ_unique : {a b g : ℤ} → pos 0 ≤ℤ g → Divides g a → Divides g b → ((d : ℤ) → Divides d a → Divides d b → Divides d g) → g ≡ gcd_ℤ a b
gcd_ℤ_unique {a} {b} {g = pos g} n h k f =
    ap pos (gcd_of_unique (nat_abs a) (nat_abs b) g
    (h.divides, k.divides, λ d p q. (f (pos d) (record { divides = p }) (record { divides = q })).divides))
gcd_ℤ_unique {a} {b} {g = negsuc g} n h k f = absurd (omega (arith, ints))

-- the two numbers may change places
pub gcd_ℤ_comm : (a b : ℤ) → gcd_ℤ a b ≡ gcd_ℤ b a
gcd_ℤ_comm a b = ap pos (gcd_of_comm (nat_abs a) (nat_abs b))

-- at 0 it is the absolute value of the other number
pub gcd_ℤ_zero : (a : ℤ) → gcd_ℤ a (pos 0) ≡ pos (nat_abs a)
gcd_ℤ_zero a = ap pos (gcd_of_zero (nat_abs a))

-- it is positive where one number is positive
pub gcd_ℤ_positive : (a b : ℤ) → pos 0 <ℤ b → pos 0 <ℤ gcd_ℤ a b
gcd_ℤ_positive a (pos zero) h = absurd (omega (arith, ints))
gcd_ℤ_positive a (pos (suc b)) h = omega (arith, ints, gcd_of_positive (nat_abs a) (suc b) (omega arith))
gcd_ℤ_positive a (negsuc b) h = absurd (omega (arith, ints))

-- it is positive where one number is not 0
pub gcd_ℤ_nonzero : (a b : ℤ) → b ≢ pos 0 → pos 0 <ℤ gcd_ℤ a b
gcd_ℤ_nonzero a (pos zero) h = absurd (h refl)
gcd_ℤ_nonzero a (pos (suc b)) h = gcd_ℤ_positive a (pos (suc b)) (omega (arith, ints))
gcd_ℤ_nonzero a (negsuc b) h = gcd_ℤ_positive a (pos (suc b)) (omega (arith, ints))

-- the exact quotients by the greatest common divisor
pub gcd_ℤ_left_quotient : (a b : ℤ) → int_div a (gcd_ℤ a b) *ℤ gcd_ℤ a b ≡ a
gcd_ℤ_left_quotient a b = quotient_exact (gcd_ℤ_left a b)

pub gcd_ℤ_right_quotient : (a b : ℤ) → int_div b (gcd_ℤ a b) *ℤ gcd_ℤ a b ≡ b
gcd_ℤ_right_quotient a b = quotient_exact (gcd_ℤ_right a b)
