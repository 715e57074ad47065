-- Sums of multiples (Bézout's identity), coprime numbers, and Euclid's lemma.
use Rattle.std.proofs.Common.{◌≡◌, ℕ, zero, suc, ◌/◌, ◌%◌, ◌≤◌, [], ◌∷◌, sym, ◌∙◌, subst, arith}
use Rattle.std.specs.Int.RustNames.{int_div}
use Rattle.std.proofs.lemmas.Int.{ints}
use Rattle.std.proofs.lemmas.Nat.{mod_below, div-add-mod'}
use lib.IntN.{ℤ, pos, negsuc, ◌+ℤ◌, ◌-ℤ◌, ◌*ℤ◌, neg_ℤ, nat_abs, *ℤ_comm}
use lib.Signed.{◌≤ℤ◌, ◌<ℤ◌}
use Rattle.pa_ring.proofs.Integers.{*ℤ_cancel, nonneg-*ℤ, nonneg_pos, null, ◌⋆◌, ◌⊞◌}
use Rattle.pa_ring.proofs.IntegerTactics.{by_ring, by_equations, reads}
use Rattle.pa_math.specs.Divisors.{gcd_in, gcd_of, gcd_ℤ, Divides, Coprime}
use Rattle.pa_math.proofs.Divisors.{Divides_from_multiple, Divides_both, quotient_exact, Divides_multiple, Divides_one, gcd_ℤ_left}
use Rattle.pa_math.proofs.Divisors.{gcd_ℤ_right, gcd_ℤ_greatest, gcd_ℤ_unique, gcd_ℤ_comm, gcd_ℤ_left_quotient, gcd_ℤ_right_quotient}

-- g is a sum of multiples of a and b
pub record SumOfMultiples (a b g : ℤ) : Type 0 where
  pub x : ℤ
  pub y : ℤ
  pub is : a *ℤ x +ℤ b *ℤ y ≡ g

-- ---- Bézout's identity: the greatest common divisor is such a sum
sum_step : (a b : ℕ) (g : ℤ) → SumOfMultiples (pos b) (pos (a % b)) g → SumOfMultiples (pos a) (pos b) g
sum_step a b g s =
    let e : pos a ≡ pos (a / b) *ℤ pos b +ℤ pos (a % b) = omega (arith, ints, div-add-mod' a b) in
    record {
      x = s.y;
      y = s.x -ℤ pos (a / b) *ℤ s.y;
      is = by_equations (pos a ∷ pos b ∷ pos (a / b) ∷ pos (a % b) ∷ g ∷ s.x ∷ s.y ∷ []) (s.y ⋆ null e ⊞ null s.is)
          (search reads depth 40) tt;
    }

sum_in : (k a b : ℕ) → b ≤ k → SumOfMultiples (pos a) (pos b) (pos (gcd_in k a b))
sum_in zero a b h = record { x = pos 1; y = pos 0; is = omega (arith, ints) }
sum_in (suc k) a zero h = record { x = pos 1; y = pos 0; is = omega (arith, ints) }
sum_in (suc k) a (suc b) h = sum_step a (suc b) _ (sum_in k (suc b) (a % suc b) (omega (arith, mod_below a (suc b))))

sum_of_naturals : (a b : ℕ) → SumOfMultiples (pos a) (pos b) (pos (gcd_of a b))
unfolding gcd_of
sum_of_naturals a b = sum_in b a b (omega arith)

-- a number is its absolute value times a sign
record Sign (z : ℤ) : Type 0 where
  s : ℤ
  is : z *ℤ s ≡ pos (nat_abs z)

sign_of : (z : ℤ) → Sign z
sign_of (pos a) = record { s = pos 1; is = omega (arith, ints) }
sign_of (negsuc a) = record { s = negsuc 0; is = omega (arith, ints) }

-- of numbers with signs
pub bezout : (a b : ℤ) → SumOfMultiples a b (gcd_ℤ a b)
bezout a b =
    let s = sum_of_naturals (nat_abs a) (nat_abs b) in
    let i = sign_of a in
    let j = sign_of b in
    record {
      x = i.s *ℤ s.x;
      y = j.s *ℤ s.y;
      is = by_equations (a ∷ b ∷ i.s ∷ j.s ∷ s.x ∷ s.y ∷ pos (nat_abs a) ∷ pos (nat_abs b) ∷ gcd_ℤ a b ∷ []) (s.x ⋆ null i.is ⊞ s.y ⋆ null j.is ⊞ null s.is)
          (search reads depth 40) tt;
    }

-- a common divisor divides each sum of multiples
pub Divides_sum_of_multiples : {d a b g : ℤ} → Divides d a → Divides d b → SumOfMultiples a b g → Divides d g
Divides_sum_of_multiples {d} {a} {b} {g} h k s =
    Divides_from_multiple d (int_div a d *ℤ s.x +ℤ int_div b d *ℤ s.y) g
    (by_equations (int_div a d ∷ int_div b d ∷ d ∷ a ∷ b ∷ g ∷ s.x ∷ s.y ∷ []) (s.x ⋆ null (quotient_exact h) ⊞ s.y ⋆ null (quotient_exact k) ⊞ null s.is)
    (search reads depth 40) tt)

-- ---- numbers are coprime exactly where 1 is such a sum
-- coprime numbers have 1 as such a sum
pub coprime_sum : {a b : ℤ} → Coprime a b → SumOfMultiples a b (pos 1)
coprime_sum {a} {b} h = subst (SumOfMultiples a b) h.gcd_is_one (bezout a b)

-- numbers that have 1 as such a sum are coprime
pub coprime_from_sum : {a b : ℤ} → SumOfMultiples a b (pos 1) → Coprime a b
coprime_from_sum {a} {b} s = record {
  gcd_is_one = Divides_one (omega (arith, ints)) (Divides_sum_of_multiples (gcd_ℤ_left a b) (gcd_ℤ_right a b) s);
}

-- the two numbers may change places
pub coprime_swap : {a b : ℤ} → Coprime a b → Coprime b a
coprime_swap {a} {b} h = record { gcd_is_one = gcd_ℤ_comm b a ∙ h.gcd_is_one }

-- 1 is coprime to each number
pub coprime_one : (a : ℤ) → Coprime a (pos 1)
coprime_one a = coprime_from_sum (record { x = pos 0; y = pos 1; is = by_ring (a ∷ []) (search reads depth 40) tt })

-- a sign changes nothing
pub coprime_neg : {a b : ℤ} → Coprime a b → Coprime (neg_ℤ a) b
coprime_neg {a} {b} h =
    let s = coprime_sum h in
    coprime_from_sum (record {
      x = neg_ℤ s.x;
      y = s.y;
      is = by_equations (a ∷ b ∷ s.x ∷ s.y ∷ []) (null s.is) (search reads depth 40) tt;
    })

-- a product is coprime to what both its factors are coprime to
pub coprime_product : {a b c : ℤ} → Coprime a c → Coprime b c → Coprime (a *ℤ b) c
coprime_product {a} {b} {c} h k =
    let s = coprime_sum h in
    let t = coprime_sum k in
    coprime_from_sum (record {
      x = s.x *ℤ t.x;
      y = a *ℤ s.x *ℤ t.y +ℤ s.y *ℤ b *ℤ t.x +ℤ c *ℤ s.y *ℤ t.y;
      is = by_equations (a ∷ b ∷ c ∷ s.x ∷ s.y ∷ t.x ∷ t.y ∷ []) ((b *ℤ t.x +ℤ c *ℤ t.y) ⋆ null s.is ⊞ null t.is)
          (search reads depth 40) tt;
    })

-- a divisor of a number is coprime to what that number is coprime to
pub coprime_divisor : {d a b : ℤ} → Divides d a → Coprime a b → Coprime d b
coprime_divisor {d} {a} {b} h k =
    let s = coprime_sum k in
    coprime_from_sum (record {
      x = int_div a d *ℤ s.x;
      y = s.y;
      is = by_equations (d ∷ int_div a d ∷ a ∷ b ∷ s.x ∷ s.y ∷ []) (s.x ⋆ null (quotient_exact h) ⊞ null s.is) (search reads depth 40) tt;
    })

-- the same on the other side
pub coprime_divisor_right : {d a b : ℤ} → Divides d b → Coprime a b → Coprime a d
coprime_divisor_right h k = coprime_swap (coprime_divisor h (coprime_swap k))

-- a product is coprime on the other side too
pub coprime_product_right : {a b c : ℤ} → Coprime a b → Coprime a c → Coprime a (b *ℤ c)
coprime_product_right h k = coprime_swap (coprime_product (coprime_swap h) (coprime_swap k))

-- the quotients by the greatest common divisor are coprime
pub coprime_quotients : (a b : ℤ) → pos 0 <ℤ gcd_ℤ a b → Coprime (int_div a (gcd_ℤ a b)) (int_div b (gcd_ℤ a b))
coprime_quotients a b h =
    let g : ℤ = gcd_ℤ a b in
    let s = bezout a b in
    let m : ℤ = int_div a g in
    let n : ℤ = int_div b g in
    coprime_from_sum (record {
      x = s.x;
      y = s.y;
      is = *ℤ_cancel _ _ g h
          (by_equations (m ∷ n ∷ a ∷ b ∷ g ∷ s.x ∷ s.y ∷ []) (s.x ⋆ null (gcd_ℤ_left_quotient a b) ⊞ s.y ⋆ null (gcd_ℤ_right_quotient a b) ⊞ null s.is)
          (search reads depth 40) tt);
    })

-- Euclid's lemma
pub Divides_coprime_factor : {a b c : ℤ} → Coprime a b → Divides a (b *ℤ c) → Divides a c
Divides_coprime_factor {a} {b} {c} h k =
    let s = coprime_sum h in
    let q : ℤ = int_div (b *ℤ c) a in
    Divides_from_multiple a (s.x *ℤ c +ℤ q *ℤ s.y) c
    (by_equations (a ∷ b ∷ c ∷ q ∷ s.x ∷ s.y ∷ []) (s.y ⋆ null (quotient_exact k) ⊞ c ⋆ null s.is) (search reads depth 40) tt)

-- two coprime divisors divide by their product
pub Divides_coprime_product : {a b n : ℤ} → Coprime a b → Divides a n → Divides b n → Divides (a *ℤ b) n
Divides_coprime_product {a} {b} {n} h k l =
    let s = coprime_sum h in
    let p : ℤ = int_div n a in
    let q : ℤ = int_div n b in
    Divides_from_multiple (a *ℤ b) (q *ℤ s.x +ℤ p *ℤ s.y) n
    (by_equations (a ∷ b ∷ n ∷ p ∷ q ∷ s.x ∷ s.y ∷ []) ((a *ℤ s.x) ⋆ null (quotient_exact l) ⊞ (b *ℤ s.y) ⋆ null (quotient_exact k) ⊞ n ⋆ null s.is)
    (search reads depth 40) tt)

-- a factor that is coprime to the other number leaves the greatest common divisor as it is
pub gcd_ℤ_coprime_factor : {k b : ℤ} (a : ℤ) → Coprime k b → gcd_ℤ (a *ℤ k) b ≡ gcd_ℤ a b
gcd_ℤ_coprime_factor {k} {b} a h =
    let g : ℤ = gcd_ℤ (a *ℤ k) b in
    gcd_ℤ_unique nonneg_pos
    (Divides_coprime_factor (coprime_swap (coprime_divisor_right (gcd_ℤ_right (a *ℤ k) b) h)) (subst (Divides g) (*ℤ_comm a k) (gcd_ℤ_left (a *ℤ k) b)))
    (gcd_ℤ_right (a *ℤ k) b)
    (λ d p q. gcd_ℤ_greatest (subst (Divides d) (*ℤ_comm k a) (Divides_multiple k p)) q)

-- a common factor of both numbers is one of their greatest common divisor
pub gcd_ℤ_common_factor : (k a b : ℤ) → pos 0 ≤ℤ k → gcd_ℤ (a *ℤ k) (b *ℤ k) ≡ gcd_ℤ a b *ℤ k
gcd_ℤ_common_factor k a b h =
    let g : ℤ = gcd_ℤ a b in
    let s = bezout a b in
    sym (gcd_ℤ_unique (nonneg-*ℤ g k nonneg_pos h)
    (Divides_both k (gcd_ℤ_left a b))
    (Divides_both k (gcd_ℤ_right a b))
    (λ d p q. Divides_sum_of_multiples p q (record {
      x = s.x;
      y = s.y;
      is = by_equations (a ∷ b ∷ k ∷ g ∷ s.x ∷ s.y ∷ []) (k ⋆ null s.is) (search reads depth 40) tt;
    })))

-- a multiple of b added to a changes nothing
pub coprime_shift : {a b : ℤ} (k : ℤ) → Coprime a b → Coprime (a +ℤ k *ℤ b) b
coprime_shift {a} {b} k h =
    let s = coprime_sum h in
    coprime_from_sum (record {
      x = s.x;
      y = s.y -ℤ k *ℤ s.x;
      is = by_equations (a ∷ b ∷ k ∷ s.x ∷ s.y ∷ []) (null s.is) (search reads depth 40) tt;
    })
