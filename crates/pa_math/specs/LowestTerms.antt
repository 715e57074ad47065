-- Division of two numbers by their greatest common divisor leaves coprime numbers: what the type of the fractions asks of its values.
use Rattle.std.proofs.Common.{◌≡◌, ℕ, zero, suc, ◌*◌, ◌/◌, ◌%◌, ◌-◌, ◌≤◌, ◌<◌, refl, sym, ap, ◌∙◌, subst, ap₂, arith}
use Rattle.std.specs.Prelude.{ℤ, pos, negsuc, neg_ℤ, unsigned_abs}
use Rattle.std.specs.Int.{IsGcd}
use Rattle.std.specs.Int.RustNames.{int_div}
use Rattle.std.proofs.lemmas.Nat.{mod_below}
use Rattle.std.proofs.lemmas.Nat.Gcd.{IsGcd-from_zero, IsGcd-from_mod}
use native.Mathlib.Nat.{one-mul, div-mul_cancel, mul-dvd-mul_right, dvd_of_mul-dvd-mul_right, eq-one_of_dvd-one, pos_of_dvd_of_pos}
use Prim.Native.Nat.{◌∣◌}
use Rattle.pa_math.specs.Divisors.{gcd_in, gcd_of, gcd_ℤ, Coprime}

gcd_in_is : (k a b : ℕ) → b ≤ k → IsGcd a b (gcd_in k a b)
gcd_in_is zero a b h = IsGcd-from_zero a b (omega arith)
gcd_in_is (suc k) a zero h = IsGcd-from_zero a zero refl
gcd_in_is (suc k) a (suc b) h = IsGcd-from_mod a (suc b) _ (gcd_in_is k (suc b) (a % suc b) (omega (arith, mod_below a (suc b))))

-- `gcd_of` is the greatest common divisor
pub IsGcd-gcd_of : (a b : ℕ) → IsGcd a b (gcd_of a b)
unfolding gcd_of
IsGcd-gcd_of a b = gcd_in_is b a b (omega arith)

-- it is positive where one number is positive
pub gcd_of_positive : (a b : ℕ) → 0 < b → 0 < gcd_of a b
gcd_of_positive a b h = pos_of_dvd_of_pos (IsGcd-gcd_of a b).1 h

-- a common divisor h of the quotients makes `h * g` a common divisor of the numbers, so h is 1
coprime_over : (g a b n d : ℕ) → 0 < g → IsGcd n d g → a * g ≡ n → b * g ≡ d → gcd_of a b ≡ 1
coprime_over g a b n d up is p q =
    let h : ℕ = gcd_of a b in
    let both = IsGcd-gcd_of a b in
    let greatest : (h * g) ∣ g =
    is.2 (h * g) (subst (λ t. (h * g) ∣ t) p (mul-dvd-mul_right h both.0 g)) (subst (λ t. (h * g) ∣ t) q (mul-dvd-mul_right h both.1 g)) in
    eq-one_of_dvd-one (dvd_of_mul-dvd-mul_right h up (subst (λ t. (h * g) ∣ t) (sym (one-mul g)) greatest))

-- the quotients by the greatest common divisor are coprime
pub quotients_coprime_of : (n d : ℕ) → 0 < d → gcd_of (n / gcd_of n d) (d / gcd_of n d) ≡ 1
quotients_coprime_of n d h =
    let is = IsGcd-gcd_of n d in
    coprime_over (gcd_of n d) _ _ n d (gcd_of_positive n d h) is (div-mul_cancel _ is.0) (div-mul_cancel _ is.1)

abs_neg : (m : ℕ) → unsigned_abs (neg_ℤ (pos m)) ≡ m
abs_neg zero = refl
abs_neg (suc m) = refl

-- the absolute value of a quotient by a natural number
pub abs_quotient : (n : ℤ) (g : ℕ) → unsigned_abs (int_div n (pos g)) ≡ unsigned_abs n / g
abs_quotient (pos a) g = refl
abs_quotient (negsuc a) g = abs_neg (suc a / g)

factor_positive : (d g k : ℕ) → d * g ≡ suc k → suc (d - 1) ≡ d
factor_positive zero g k e = absurd (omega arith)
factor_positive (suc d) g k e = omega arith

-- the quotient of the denominator is positive
pub quotient_low : (n k : ℕ) → suc (suc k / gcd_of n (suc k) - 1) ≡ suc k / gcd_of n (suc k)
quotient_low n k = factor_positive _ _ k (div-mul_cancel _ (IsGcd-gcd_of n (suc k)).1)

-- so are the quotients that the type of the fractions holds
pub quotients_coprime : (n : ℤ) (k : ℕ) → Coprime (int_div n (gcd_ℤ n (pos (suc k)))) (pos (suc (suc k / gcd_of (unsigned_abs n) (suc k) - 1)))
quotients_coprime n k = record {
  gcd_is_one = ap pos
      (ap₂ gcd_of (abs_quotient n _) (quotient_low (unsigned_abs n) k)
      ∙ quotients_coprime_of (unsigned_abs n) (suc k) (omega arith));
}
