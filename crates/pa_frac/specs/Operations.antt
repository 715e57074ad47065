-- What each operation on fractions gives at a width. For `a / b` and `c / d` in lowest terms, the numbers that are named are those that are
-- formed once common divisors are taken out (D. E. Knuth, The Art of Computer Programming, volume 2, section 4.5.1; P. Henrici, 1956).
use Rattle.std.specs.Prelude.{ℕ, ℤ, pos, ◌*ℤ◌, Bool, [], ◌∷◌, Result}
use Rattle.std.specs.declared.cmp.Ordering.{Ordering}
use Rattle.std.specs.Ordering.{int_eq}
use Rattle.std.specs.Int.RustNames.{int_div}
use Rattle.pa_math.specs.Divisors.{gcd_ℤ}
use Rattle.pa_math.specs.Rational.{ℚ, den, whole, ◌+ℚ◌, ◌-ℚ◌, ◌*ℚ◌, reciprocal}
use Rattle.pa_math.specs.RationalOrder.{compare_ℚ}
use Rattle.pa_frac.specs.declared.wide.Wide.{Wide}
use Rattle.pa_frac.specs.Width.{exact_or_wide}

-- the fraction, where its two numbers are below the width
unfoldable pub fraction_in : ℕ → ℚ → Result ℚ Wide
fraction_in w q = exact_or_wide w (q.num ∷ den q ∷ []) q

-- a (d / g) of `a / b` beside `c / d`, with g = gcd b d: the numerator over the least common denominator
abbrev pub scaled_num : ℚ → ℚ → ℤ
scaled_num q r = q.num *ℤ int_div (den r) (gcd_ℤ (den q) (den r))

-- b (d / g), with g = gcd b d: the least common denominator
abbrev pub common_den : ℚ → ℚ → ℤ
common_den q r = den q *ℤ int_div (den r) (gcd_ℤ (den q) (den r))

-- the sum; named are a (d / g), c (b / g), b (d / g) and the sum's numerator in lowest terms
unfoldable pub sum_in : ℕ → ℚ → ℚ → Result ℚ Wide
sum_in w q r = exact_or_wide w (scaled_num q r ∷ scaled_num r q ∷ common_den q r ∷ (q +ℚ r).num ∷ []) (q +ℚ r)

-- the difference; named are the same, with the difference's numerator
unfoldable pub difference_in : ℕ → ℚ → ℚ → Result ℚ Wide
difference_in w q r = exact_or_wide w (scaled_num q r ∷ scaled_num r q ∷ common_den q r ∷ (q -ℚ r).num ∷ []) (q -ℚ r)

-- a / gcd a d of `a / b` beside `c / d`: the numerator without what it shares with the other denominator
abbrev pub crossed_num : ℚ → ℚ → ℤ
crossed_num q r = int_div q.num (gcd_ℤ q.num (den r))

-- d / gcd a d of `a / b` beside `c / d`: the other denominator without what it shares with the numerator
abbrev pub crossed_den : ℚ → ℚ → ℤ
crossed_den q r = int_div (den r) (gcd_ℤ q.num (den r))

-- the product; named are (a / g) (c / h) and (b / h) (d / g), with g = gcd a d and h = gcd c b
unfoldable pub product_in : ℕ → ℚ → ℚ → Result ℚ Wide
product_in w q r = exact_or_wide w ((crossed_num q r *ℤ crossed_num r q) ∷ (crossed_den r q *ℤ crossed_den q r) ∷ []) (q *ℚ r)

-- the quotient: the product with the reciprocal
abbrev pub quotient_in : ℕ → ℚ → ℚ → Result ℚ Wide
quotient_in w q r = product_in w q (reciprocal r)

-- which of the two is the lesser; named are a (d / g) and c (b / g), with g = gcd b d
unfoldable pub comparison_in : ℕ → ℚ → ℚ → Result Ordering Wide
comparison_in w q r = exact_or_wide w (scaled_num q r ∷ scaled_num r q ∷ []) (compare_ℚ q r)

-- the fraction is 0
abbrev pub is_zero : ℚ → Bool
is_zero q = int_eq q.num (pos 0)

-- how the fraction stands to 0
abbrev pub sign : ℚ → Ordering
sign q = compare_ℚ q (whole (pos 0))
