-- The fractions of whole numbers of any size. Each is in lowest terms, so `≡` is their equality.
use Rattle.std.specs.Prelude.{ℕ, zero, suc, ◌-◌, ◌/◌, ℤ, pos, negsuc, ◌+ℤ◌, ◌*ℤ◌, neg_ℤ, unsigned_abs}
use Rattle.std.specs.Int.{int_div_euclid}
use Rattle.std.specs.Int.RustNames.{int_div}
use Rattle.pa_math.specs.Divisors.{gcd_of, gcd_ℤ, Coprime}
use Rattle.pa_math.specs.LowestTerms.{quotients_coprime}

-- the fraction `num / (low + 1)`
pub record ℚ : Type 0 where
  pub num : ℤ
  pub low : ℕ
  pub reduced : Coprime num (pos (suc low))

-- the denominator
abbrev pub den : ℚ → ℤ
den q = pos (suc q.low)

-- the value of `n / (k + 1)`
unfoldable pub lowest : ℤ → ℕ → ℚ
lowest n k = record {
  num = int_div n (gcd_ℤ n (pos (suc k)));
  low = suc k / gcd_of (unsigned_abs n) (suc k) - 1;
  reduced = quotients_coprime n k;
}

-- the value of `n / d`, which is 0 where d is 0
unfoldable pub over : ℤ → ℤ → ℚ
over n (pos zero) = lowest (pos 0) 0
over n (pos (suc k)) = lowest n k
over n (negsuc k) = lowest (neg_ℤ n) k

-- a whole number as a fraction
abbrev pub whole : ℤ → ℚ
whole n = over n (pos 1)

infixl 6 ◌+ℚ◌ ◌-ℚ◌
infixl 7 ◌*ℚ◌ ◌/ℚ◌
-- the sum
unfoldable pub ◌+ℚ◌ : ℚ → ℚ → ℚ
q +ℚ r = over (q.num *ℤ den r +ℤ r.num *ℤ den q) (den q *ℤ den r)

-- the negation
unfoldable pub neg_ℚ : ℚ → ℚ
neg_ℚ q = over (neg_ℤ q.num) (den q)

-- the difference
abbrev pub ◌-ℚ◌ : ℚ → ℚ → ℚ
q -ℚ r = q +ℚ neg_ℚ r

-- the product
unfoldable pub ◌*ℚ◌ : ℚ → ℚ → ℚ
q *ℚ r = over (q.num *ℤ r.num) (den q *ℤ den r)

-- the reciprocal, which is 0 at 0
unfoldable pub reciprocal : ℚ → ℚ
reciprocal q = over (den q) q.num

-- the quotient, which is 0 where the divisor is
abbrev pub ◌/ℚ◌ : ℚ → ℚ → ℚ
q /ℚ r = q *ℚ reciprocal r

-- the greatest whole number that is not above the fraction
abbrev pub floor : ℚ → ℤ
floor q = int_div_euclid q.num (den q)

-- the absolute value
unfoldable pub abs_ℚ : ℚ → ℚ
abs_ℚ q = over (pos (unsigned_abs q.num)) (den q)
