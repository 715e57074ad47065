-- A row and its primitive row are met by the same points.
use Rattle.std.proofs.Common.{◌≡◌, ◌↔◌, ℕ, zero, suc, List, [], ◌∷◌, map, int_div, refl, sym, ap, ◌∙◌, arith}
use Rattle.std.proofs.lemmas.Int.{ints}
use native.Mathlib.Nat.{zero-div}
use lib.IntN.{ℤ, pos, negsuc, ◌*ℤ◌, neg_ℤ, *ℤ-zero, zero-*ℤ, *ℤ_comm}
use lib.Signed.{◌<ℤ◌}
use Rattle.pa_ring.specs.Sums.{number_at, SameNumbers, dot, times}
use Rattle.pa_ring.proofs.Integers.{gap, ◌·◌, by_sign, <ℤ-≤ℤ, ≤ℤ-*ℤ_cancel, one-*ℤ}
use Rattle.pa_ring.proofs.IntegerTactics.{by_le, reads}
use Rattle.pa_ring.proofs.Sums.{number_at-times, without-times, without_same, dot-times, dot_same}
use Rattle.pa_math.specs.Divisors.{gcd_all, quotients}
use Rattle.pa_math.proofs.ListDivisors.{gcd_all_divides, quotients_exact, primitive_quotients}
use Rattle.pa_meaning.specs.Rows.{Row, Point, Meets, primitive, without_column}

-- ---- multiples of a row
-- the first row is g times the second
record IsMultiple (g : ℤ) (r s : Row) : Type 0 where
  coefficients : SameNumbers r.c (times g s.c)
  bound : r.b ≡ g *ℤ s.b

multiple_sum : (g : ℤ) (r s : Row) (x : Point) → IsMultiple g r s → dot r.c x.p ≡ g *ℤ dot s.c x.p
multiple_sum g r s x m = dot_same r.c (times g s.c) x.p m.coefficients ∙ dot-times g s.c x.p

-- a point that meets a row meets each row of which it is a positive multiple
divided_met : (g : ℤ) (r s : Row) (x : Point) → pos 0 <ℤ g → IsMultiple g r s → Meets r x → Meets s x
divided_met g r s x up m h = record {
  meets = ≤ℤ-*ℤ_cancel (dot s.c x.p) (s.b *ℤ x.q) g up
      (by_le (g ∷ dot s.c x.p ∷ s.b ∷ x.q ∷ []) (gap (rw (multiple_sum g r s x m, m.bound) at h.meets)) (search reads depth 40) tt);
}

-- a point that meets a row meets its multiples
multiplied_met : (g : ℤ) (r s : Row) (x : Point) → pos 0 <ℤ g → IsMultiple g r s → Meets s x → Meets r x
multiplied_met g r s x up m h = record {
  meets = rw (multiple_sum g r s x m, m.bound) (by_le (g ∷ dot s.c x.p ∷ s.b ∷ x.q ∷ []) (<ℤ-≤ℤ up · gap h.meets) (search reads depth 40) tt);
}

without_multiple : (k : ℕ) (g : ℤ) (r s : Row) → IsMultiple g r s → IsMultiple g (without_column k r) (without_column k s)
without_multiple k g r s m = record {
  coefficients = λ i. without_same k r.c (times g s.c) m.coefficients i ∙ ap (λ t. number_at t i) (without-times k g s.c);
  bound = m.bound;
}

pub zero_quotient : (d : ℤ) → int_div (pos 0) d ≡ pos 0
zero_quotient (pos n) = ap pos (zero-div n)
zero_quotient (negsuc n) = ap (λ t. neg_ℤ (pos t)) (zero-div (suc n))

number_at-map : (d : ℤ) (xs : List ℤ) (i : ℕ) → number_at (map (λ x. x *ℤ d) xs) i ≡ d *ℤ number_at xs i
number_at-map d [] i = sym (*ℤ-zero d)
number_at-map d (x ∷ xs) zero = *ℤ_comm x d
number_at-map d (x ∷ xs) (suc i) = number_at-map d xs i

pub number_at-quotients : (d : ℤ) (xs : List ℤ) (i : ℕ) → number_at (quotients d xs) i ≡ int_div (number_at xs i) d
number_at-quotients d [] i = sym (zero_quotient d)
number_at-quotients d (x ∷ xs) zero = refl
number_at-quotients d (x ∷ xs) (suc i) = number_at-quotients d xs i

-- each number of a list is the greatest common divisor times its quotient
pub number_from_quotient : (xs : List ℤ) (i : ℕ) → number_at xs i ≡ gcd_all xs *ℤ number_at (quotients (gcd_all xs) xs) i
number_from_quotient xs i =
    sym (ap (λ t. number_at t i) (quotients_exact (gcd_all xs) xs (gcd_all_divides xs))) ∙ number_at-map (gcd_all xs) (quotients (gcd_all xs) xs) i

-- where the greatest common divisor is 0, each number and each quotient is 0
same_quotient : (xs : List ℤ) (i : ℕ) → gcd_all xs ≡ pos 0 → number_at xs i ≡ pos 1 *ℤ number_at (quotients (gcd_all xs) xs) i
same_quotient xs i null =
    let zero_number : number_at xs i ≡ pos 0 =
    number_from_quotient xs i ∙ ap (λ t. t *ℤ number_at (quotients (gcd_all xs) xs) i) null ∙ zero-*ℤ (number_at (quotients (gcd_all xs) xs) i) in
    let zero_divided : number_at (quotients (gcd_all xs) xs) i ≡ pos 0 =
    number_at-quotients (gcd_all xs) xs i ∙ ap (λ t. int_div t (gcd_all xs)) zero_number ∙ zero_quotient (gcd_all xs) in
    zero_number ∙ sym zero_divided ∙ sym (one-*ℤ (number_at (quotients (gcd_all xs) xs) i))

-- a row is a positive multiple of its primitive row
primitive_factor : (row : Row) → (g : ℤ) × (pos 0 <ℤ g) × IsMultiple g row (primitive row)
primitive_factor row = by_sign (gcd_all (row.b ∷ row.c)) (λ below. absurd (omega (arith, ints))) none some
  where
    none : gcd_all (row.b ∷ row.c) ≡ pos 0 → (g : ℤ) × (pos 0 <ℤ g) × IsMultiple g row (primitive row)
    none null = (
      pos 1,
      omega (arith, ints),
      record {
        coefficients = λ i. same_quotient (row.b ∷ row.c) (suc i) null ∙ sym (number_at-times (pos 1) (primitive row).c i);
        bound = same_quotient (row.b ∷ row.c) 0 null;
      },
    )

    some : pos 0 <ℤ gcd_all (row.b ∷ row.c) → (g : ℤ) × (pos 0 <ℤ g) × IsMultiple g row (primitive row)
    some above = (
      gcd_all (row.b ∷ row.c),
      above,
      record {
        coefficients = λ i. number_from_quotient (row.b ∷ row.c) (suc i) ∙ sym (number_at-times (gcd_all (row.b ∷ row.c)) (primitive row).c i);
        bound = number_from_quotient (row.b ∷ row.c) 0;
      },
    )

-- A row made primitive is met by the same points.
pub Meets-primitive : (row : Row) (x : Point) → Meets (primitive row) x ↔ Meets row x
Meets-primitive row x =
    let (g, up, m) = primitive_factor row in
    (multiplied_met g row (primitive row) x up m, divided_met g row (primitive row) x up m)

-- the same without a column
pub without_primitive_met : (k : ℕ) (row : Row) (x : Point) → Meets (without_column k (primitive row)) x ↔ Meets (without_column k row) x
without_primitive_met k row x =
    let (g, up, m) = primitive_factor row in
    let n = without_multiple k g row (primitive row) m in (
      multiplied_met g (without_column k row) (without_column k (primitive row)) x up n,
      divided_met g (without_column k row) (without_column k (primitive row)) x up n,
    )

-- the numbers of a primitive row have no common divisor but 1, unless all are 0
pub primitive_coprime : (row : Row) → pos 0 <ℤ gcd_all (row.b ∷ row.c) → gcd_all ((primitive row).b ∷ (primitive row).c) ≡ pos 1
primitive_coprime row up = primitive_quotients (row.b ∷ row.c) up
