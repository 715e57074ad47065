-- Least common multiples.
use Rattle.std.proofs.Common.{◌≡◌, ℕ, zero, suc, ◌*◌, ◌/◌, ◌≤◌, ◌<◌, [], ◌∷◌, sym, ap, subst, arith}
use Rattle.std.proofs.lemmas.Int.{ints}
use Rattle.std.proofs.lemmas.Nat.Gcd.{le_of_dvd, dvd-zero}
use native.Mathlib.Nat.{dvd-mul_left, div-mul_cancel, eq-zero_of_zero-dvd, mul-pos}
use Prim.Native.Nat.{◌∣◌}
use lib.IntN.{ℤ, pos, negsuc, ◌+ℤ◌, ◌*ℤ◌, nat_abs}
use lib.Signed.{◌<ℤ◌}
use Rattle.pa_ring.proofs.Integers.{*ℤ_cancel, null, ◌⋆◌, ◌⊞◌}
use Rattle.pa_ring.proofs.IntegerTactics.{by_equations, reads}
use Rattle.pa_math.specs.Divisors.{gcd_of, lcm_of, IsLcm, Divides, gcd_ℤ, lcm_ℤ}
use Rattle.pa_math.proofs.Divisors.{IsGcd-gcd_of, gcd_of_positive, Divides_from_multiple}
use Rattle.pa_math.proofs.Coprime.{SumOfMultiples, bezout}

-- the two numbers have the product of their greatest common divisor and their least common multiple
pub gcd_of_lcm_of : (a b : ℕ) → gcd_of a b * lcm_of a b ≡ a * b
unfolding lcm_of
gcd_of_lcm_of a b = grouped (gcd_of a b) (a / gcd_of a b) b a (div-mul_cancel (gcd_of a b) (IsGcd-gcd_of a b).0)
  where
    grouped : (g q b a : ℕ) → q * g ≡ a → g * (q * b) ≡ a * b
    grouped g q b a e = omega (arith, ap (λ t. t * b) e)

first_divides : (a b : ℕ) → a ∣ lcm_of a b
unfolding lcm_of
first_divides a b =
    let g : ℕ = gcd_of a b in
    let is = IsGcd-gcd_of a b in
    subst (λ t. a ∣ t) (regrouped (b / g) (a / g) g a b (div-mul_cancel g is.0) (div-mul_cancel g is.1)) (dvd-mul_left a (b / g))
  where
    regrouped : (q p g a b : ℕ) → p * g ≡ a → q * g ≡ b → q * a ≡ p * b
    regrouped q p g a b e f = omega (arith, ap (λ t. q * t) e, ap (λ t. p * t) f)

-- with g a sum of multiples of a and b, `g n` is a multiple of `a b`, which is g times the least common multiple
least_divides : (a b n : ℕ) → 0 < gcd_of a b → a ∣ n → b ∣ n → lcm_of a b ∣ n
least_divides a b n up h k =
    let g : ℤ = pos (gcd_of a b) in
    let m : ℤ = pos (lcm_of a b) in
    let s : SumOfMultiples (pos a) (pos b) g = bezout (pos a) (pos b) in
    let p : ℤ = pos (n / a) in
    let q : ℤ = pos (n / b) in
    let is_a : p *ℤ pos a ≡ pos n = ap pos (div-mul_cancel a h) in
    let is_b : q *ℤ pos b ≡ pos n = ap pos (div-mul_cancel b k) in
    let both : g *ℤ m ≡ pos a *ℤ pos b = ap pos (gcd_of_lcm_of a b) in
    let d : Divides m (pos n) =
    Divides_from_multiple m (q *ℤ s.x +ℤ p *ℤ s.y) (pos n)
    (*ℤ_cancel _ _ g (omega (arith, ints))
    (by_equations (pos a ∷ pos b ∷ pos n ∷ g ∷ m ∷ p ∷ q ∷ s.x ∷ s.y ∷ [])
    ((q *ℤ s.x +ℤ p *ℤ s.y) ⋆ null both ⊞ (pos a *ℤ s.x) ⋆ null is_b ⊞ (pos b *ℤ s.y) ⋆ null is_a ⊞ pos n ⋆ null s.is)
    (search reads depth 40) tt)) in
    d.divides

least : (a b n : ℕ) → a ∣ n → b ∣ n → lcm_of a b ∣ n
least a zero n h k = subst (λ t. lcm_of a 0 ∣ t) (sym (eq-zero_of_zero-dvd k)) (dvd-zero (lcm_of a 0))
least a (suc b) n h k = least_divides a (suc b) n (gcd_of_positive a (suc b) (omega arith)) h k

-- `lcm_of` is the least common multiple
pub IsLcm-lcm_of : (a b : ℕ) → IsLcm a b (lcm_of a b)
unfolding lcm_of
IsLcm-lcm_of a b = (first_divides a b, dvd-mul_left b (a / gcd_of a b), least a b)

-- no positive common multiple is less
pub lcm_of_least : (a b n : ℕ) → 0 < n → a ∣ n → b ∣ n → lcm_of a b ≤ n
lcm_of_least a b n up h k = le_of_dvd up (least a b n h k)

-- it is positive at positive numbers
pub lcm_of_positive : (a b : ℕ) → 0 < a → 0 < b → 0 < lcm_of a b
lcm_of_positive a b h k = positive_factor (gcd_of a b) (lcm_of a b) (omega (arith, gcd_of_lcm_of a b, mul-pos h k))
  where
    positive_factor : (g m : ℕ) → 0 < g * m → 0 < m
    positive_factor g zero e = absurd (omega arith)
    positive_factor g (suc m) e = omega arith

-- ---- of numbers with signs
-- each of the two divides it
pub lcm_ℤ_left : (a b : ℤ) → Divides a (lcm_ℤ a b)
lcm_ℤ_left a b = record { divides = (IsLcm-lcm_of (nat_abs a) (nat_abs b)).0 }

pub lcm_ℤ_right : (a b : ℤ) → Divides b (lcm_ℤ a b)
lcm_ℤ_right a b = record { divides = (IsLcm-lcm_of (nat_abs a) (nat_abs b)).1 }

-- it divides each common multiple
pub lcm_ℤ_divides : {a b n : ℤ} → Divides a n → Divides b n → Divides (lcm_ℤ a b) n
lcm_ℤ_divides {a} {b} {n} h k = record { divides = (IsLcm-lcm_of (nat_abs a) (nat_abs b)).2 (nat_abs n) h.divides k.divides }

-- it is positive at positive numbers
pub lcm_ℤ_positive : (a b : ℤ) → pos 0 <ℤ a → pos 0 <ℤ b → pos 0 <ℤ lcm_ℤ a b
lcm_ℤ_positive a b h k = omega (arith, ints, lcm_of_positive (nat_abs a) (nat_abs b) (abs_positive a h) (abs_positive b k))
  where
    abs_positive : (z : ℤ) → pos 0 <ℤ z → 0 < nat_abs z
    abs_positive (pos n) h = omega (arith, ints)
    abs_positive (negsuc n) h = omega (arith, ints)

-- positive numbers have the product of their greatest common divisor and their least common multiple
pub lcm_ℤ_product : (a b : ℤ) → pos 0 <ℤ a → pos 0 <ℤ b → gcd_ℤ a b *ℤ lcm_ℤ a b ≡ a *ℤ b
lcm_ℤ_product (pos a) (pos b) h k = ap pos (gcd_of_lcm_of a b)
lcm_ℤ_product (pos a) (negsuc b) h k = absurd (omega (arith, ints))
lcm_ℤ_product (negsuc a) b h k = absurd (omega (arith, ints))
