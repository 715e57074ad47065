-- Fractions in lowest terms: each value has one such form, and division by the greatest common divisor gives it.
use Rattle.std.proofs.Common.{◌≡◌, [], ◌∷◌, sym, ap, ◌∙◌, arith}
use Rattle.std.specs.Int.RustNames.{int_div}
use Rattle.std.proofs.lemmas.Int.{ints}
use lib.IntN.{ℤ, pos, negsuc, ◌*ℤ◌}
use lib.Signed.{◌≤ℤ◌, ◌<ℤ◌}
use Rattle.pa_ring.proofs.Integers.{*ℤ_cancel, null, ◌⋆◌, ◌⊞◌}
use Rattle.pa_ring.proofs.IntegerTactics.{by_equations, reads}
use Rattle.pa_math.specs.Divisors.{gcd_ℤ, Divides, IsReduced}
use Rattle.pa_math.proofs.Divisors.{Divides_from_multiple, Divides_at_most, gcd_ℤ_right, gcd_ℤ_positive}
use Rattle.pa_math.proofs.Divisors.{gcd_ℤ_left_quotient, gcd_ℤ_right_quotient, quotient_positive}
use Rattle.pa_math.proofs.Coprime.{Divides_coprime_factor, coprime_swap, coprime_one, coprime_quotients}

-- the denominator of a reduced form divides the denominator of any form of the value
pub reduced_divides : (n d m e : ℤ) → IsReduced n d → n *ℤ e ≡ m *ℤ d → Divides d e
reduced_divides n d m e s c = Divides_coprime_factor (coprime_swap s.coprime) (Divides_from_multiple d m (n *ℤ e) (sym c))

-- equal cross products of reduced forms: the forms are the same
pub reduced_unique : {n d m e : ℤ} → IsReduced n d → IsReduced m e → n *ℤ e ≡ m *ℤ d → (n ≡ m) × (d ≡ e)
reduced_unique {n} {d} {m} {e} s t c =
    let a : d ≤ℤ e = Divides_at_most t.positive (reduced_divides n d m e s c) in
    let b : e ≤ℤ d = Divides_at_most s.positive (reduced_divides m e n d t (sym c)) in
    let same : d ≡ e = omega (arith, ints) in
    (*ℤ_cancel n m e t.positive (c ∙ ap (λ k. m *ℤ k) same), same)

-- `a / b` is the reduced form of `n / d`, whose numbers are a g and b g
pub record Reduces (n d g a b : ℤ) : Type 0 where
  pub positive : pos 0 <ℤ g
  pub num_is : a *ℤ g ≡ n
  pub den_is : b *ℤ g ≡ d
  pub reduced : IsReduced a b

-- the reduced form, by the greatest common divisor
pub reduces : (n d : ℤ) → pos 0 <ℤ d → Reduces n d (gcd_ℤ n d) (int_div n (gcd_ℤ n d)) (int_div d (gcd_ℤ n d))
reduces n d h =
    let up : pos 0 <ℤ gcd_ℤ n d = gcd_ℤ_positive n d h in
    record {
      positive = up;
      num_is = gcd_ℤ_left_quotient n d;
      den_is = gcd_ℤ_right_quotient n d;
      reduced = record { positive = quotient_positive up h (gcd_ℤ_right n d); coprime = coprime_quotients n d up };
    }

-- the reduced form has the same value
pub reduces_cross : {n d g a b : ℤ} → Reduces n d g a b → a *ℤ d ≡ n *ℤ b
reduces_cross {n} {d} {g} {a} {b} r =
    by_equations (n ∷ d ∷ g ∷ a ∷ b ∷ []) (b ⋆ null r.num_is ⊞ negsuc 0 ⋆ (a ⋆ null r.den_is)) (search reads depth 40) tt

-- a whole number over 1 is in lowest terms
pub reduced_whole : (n : ℤ) → IsReduced n (pos 1)
reduced_whole n = record { positive = omega (arith, ints); coprime = coprime_one n }
