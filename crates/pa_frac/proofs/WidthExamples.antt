-- The width rule on worked values: the definitions computed.
use Rattle.std.proofs.Common.{◌≡◌, Ok, Err, refl}
use Rattle.std.specs.declared.cmp.Ordering.TheVariants.{Greater}
use lib.IntN.{ℤ, pos, negsuc}
use Rattle.pa_math.specs.Divisors.{gcd_of}
use Rattle.pa_math.specs.Rational.{den, over, lowest, ◌+ℚ◌, ◌*ℚ◌, reciprocal}
use Rattle.pa_frac.specs.Width.{valued}
use Rattle.pa_frac.specs.Operations.{fraction_in, sum_in, product_in, quotient_in, comparison_in}

-- 1 / 2^64 + 1 / (2^64 - 1): the product of the denominators passes 126 bits
sum_of_64_bits : sum_in 126 (over (pos 1) (pos 18446744073709551616)) (over (pos 1) (pos 18446744073709551615)) ≡ Err (record {})
unfolding sum_in over lowest gcd_of ◌+ℚ◌
sum_of_64_bits = refl

-- 1 / 2^62 + 1 / (2^62 - 1) is below
sum_of_62_bits : sum_in 126 (over (pos 1) (pos 4611686018427387904)) (over (pos 1) (pos 4611686018427387903)) ≡ Ok
    (over (pos 9223372036854775807) (pos 21267647932558653961849226946058125312))
unfolding sum_in over lowest gcd_of ◌+ℚ◌
sum_of_62_bits = refl

-- 1024 / 3 * 3 / 1024 at 11 bits would pass, had the products been formed before the divisions
product_of_cross_divisors : valued {V = ℤ × ℤ} (λ q. (q.num, den q)) (product_in 11 (over (pos 1024) (pos 3)) (over (pos 3) (pos 1024))) ≡ Ok (pos 1, pos 1)
unfolding product_in over lowest gcd_of ◌*ℚ◌
product_of_cross_divisors = refl

-- 3 / (-2 / 5) is -15 / 2
quotient_by_a_negative : valued {V = ℤ × ℤ} (λ q. (q.num, den q)) (quotient_in 20 (over (pos 3) (pos 1)) (over (negsuc 1) (pos 5))) ≡ Ok (negsuc 14, pos 2)
unfolding product_in over lowest gcd_of ◌*ℚ◌ reciprocal
quotient_by_a_negative = refl

-- 1 / 3072 against 1 / 5120 at 13 bits: the denominators share 1024
comparison_by_shared_divisors : comparison_in 13 (over (pos 1) (pos 3072)) (over (pos 1) (pos 5120)) ≡ Ok Greater
unfolding comparison_in over lowest gcd_of
comparison_by_shared_divisors = refl

-- 2^20 - 1 has 20 bits, and 2^20 has not
last_of_20_bits : fraction_in 20 (over (pos 1048575) (pos 1)) ≡ Ok (over (pos 1048575) (pos 1))
unfolding fraction_in over lowest gcd_of
last_of_20_bits = refl

first_past_20_bits : fraction_in 20 (over (pos 1) (pos 1048576)) ≡ Err (record {})
unfolding fraction_in over lowest gcd_of
first_past_20_bits = refl
