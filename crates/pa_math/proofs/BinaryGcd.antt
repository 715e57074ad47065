-- The greatest common divisor by halving and differences (J. Stein, 1967): each step keeps it.
use Rattle.std.proofs.Common.{◌≡◌, ℕ, zero, suc, ◌-◌, ◌*◌, ◌/◌, ◌%◌, ◌^◌, ◌≤◌, [], ◌∷◌, sym, subst, pow-suc, arith}
use Rattle.std.proofs.lemmas.Int.{ints}
use Rattle.std.proofs.lemmas.Nat.{div-add-mod'}
use Rattle.std.proofs.lemmas.Nat.Gcd.{IsGcd-from_sub}
use lib.IntN.{pos, ◌+ℤ◌, ◌*ℤ◌, neg_ℤ}
use Rattle.pa_ring.proofs.Integers.{nonneg_pos, null}
use Rattle.pa_ring.proofs.IntegerTactics.{by_equations, reads}
use Rattle.pa_math.specs.Divisors.{gcd_of, Coprime}
use Rattle.pa_math.proofs.Divisors.{IsGcd-gcd_of, gcd_of_unique}
use Rattle.pa_math.proofs.Coprime.{coprime_from_sum, coprime_one, coprime_swap, coprime_product, gcd_ℤ_coprime_factor, gcd_ℤ_common_factor}

natural : {m n : ℕ} → pos m ≡ pos n → m ≡ n
natural e = cc

-- the lesser number may be taken from the greater
pub gcd_of_difference : (a b : ℕ) → b ≤ a → gcd_of a b ≡ gcd_of (a - b) b
gcd_of_difference a b h = sym (gcd_of_unique a b _ (IsGcd-from_sub a b _ h (IsGcd-gcd_of (a - b) b)))

-- a common factor of both numbers is one of their greatest common divisor
pub gcd_of_common_factor : (k a b : ℕ) → gcd_of (a * k) (b * k) ≡ gcd_of a b * k
gcd_of_common_factor k a b = natural (gcd_ℤ_common_factor (pos k) (pos a) (pos b) nonneg_pos)

-- an odd number is coprime to 2
odd_coprime : (b : ℕ) → b % 2 ≡ 1 → Coprime (pos 2) (pos b)
odd_coprime b h =
    let e : pos b ≡ pos (b / 2) *ℤ pos 2 +ℤ pos 1 = omega (arith, ints, div-add-mod' b 2) in
    coprime_from_sum (record { x = neg_ℤ (pos (b / 2)); y = pos 1; is = by_equations (pos b ∷ pos (b / 2) ∷ []) (null e) (search reads depth 40) tt })

two_power_coprime : (k b : ℕ) → b % 2 ≡ 1 → Coprime (pos (2 ^ k)) (pos b)
two_power_coprime zero b h = coprime_swap (coprime_one (pos b))
two_power_coprime (suc k) b h =
    subst (λ t. Coprime (pos t) (pos b)) (sym (pow-suc 2 k)) (coprime_product (two_power_coprime k b h) (odd_coprime b h))

-- a power of 2 in one number changes nothing where the other is odd
pub gcd_of_odd : (k a b : ℕ) → b % 2 ≡ 1 → gcd_of (a * 2 ^ k) b ≡ gcd_of a b
gcd_of_odd k a b h = natural (gcd_ℤ_coprime_factor (pos a) (two_power_coprime k b h))
