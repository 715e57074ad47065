-- What never passes a width: small whole numbers, a product with 0, and a sum or difference with 0.
use Rattle.std.proofs.Common.{◌≡◌, ◌≤◌, ◌<◌, ◌^◌, ℕ, Ok, sym, ap, ap₂, ◌∙◌, lit≤, arith}
use Rattle.std.specs.Prelude.{unsigned_abs}
use Rattle.std.specs.Int.RustNames.{int_div}
use Rattle.std.proofs.Math.Nat.{pow-le-pow_right}
use Rattle.std.proofs.lemmas.Int.{ints}
use lib.IntN.{ℤ, pos, ◌+ℤ◌, ◌*ℤ◌}
use lib.Signed.{◌<ℤ◌}
use Rattle.pa_math.specs.Divisors.{gcd_ℤ}
use Rattle.pa_math.specs.Rational.{ℚ, den, whole}
use Rattle.pa_math.proofs.Divisors.{gcd_ℤ_unique, Divides_zero, Divides_refl, multiple_divided, quotient_by_one}
use Rattle.pa_math.proofs.Rationals.{whole_numbers, reduced_form, over_parts, over_neg}
use Rattle.pa_math.proofs.ReducedForms.{reduced_whole}
use Rattle.pa_math.proofs.ReducedOperations.{product_num, product_den, sum_num, sum_den}
use Rattle.pa_frac.specs.Width.{Fits, within}
use Rattle.pa_frac.specs.Operations.{fraction_in, sum_in, product_in, difference_in}
use Rattle.pa_frac.specs.Narrow.{IsNarrow}
use Rattle.pa_frac.proofs.Width.{within_fits}
use Rattle.pa_frac.proofs.Lowest.{value_exact, shared_positive, shared_with_one}
use Rattle.pa_frac.proofs.Products.{product_exact}
use Rattle.pa_frac.proofs.Sums.{left_of, right_of, low_num, low_den, sum_exact, difference_is}

-- a width of 2 bits or more holds the numbers below 4
pub small_fits : (w : ℕ) (z : ℤ) → 2 ≤ w → unsigned_abs z < 4 → Fits w z
small_fits w z h k =
    let powers : 2 ^ 2 ≤ 2 ^ w = pow-le-pow_right (lit≤ tt) h in
    omega arith

-- so 0, 1, 2 and 3 can always be made
pub small_whole : (w : ℕ) (n : ℤ) → 2 ≤ w → unsigned_abs n < 4 → Ok (whole n) ≡ fraction_in w (whole n)
small_whole w n h k =
    let numbers = whole_numbers n in
    value_exact w (whole n) n (pos 1) (within_fits w n (small_fits w n h k) ∙ ap (within w) (sym numbers.0))
    (within_fits w (pos 1) (small_fits w (pos 1) h (lit≤ tt)) ∙ ap (within w) (sym numbers.1))

-- what a type of fractions promises of a value, as the fact on its numbers
pub value_narrow_numbers : (w : ℕ) (q : ℚ) → Fits w q.num → Fits w (den q) → IsNarrow w q.num (den q)
value_narrow_numbers w q h k = record { reduced = reduced_form q; num_fits = h; den_fits = k }

pub small_narrow : (w : ℕ) (n : ℤ) → 2 ≤ w → unsigned_abs n < 4 → IsNarrow w n (pos 1)
small_narrow w n h k = record { reduced = reduced_whole n; num_fits = small_fits w n h k; den_fits = small_fits w (pos 1) h (lit≤ tt) }

pub zero_narrow : (w : ℕ) → 2 ≤ w → IsNarrow w (pos 0) (pos 1)
zero_narrow w h = small_narrow w (pos 0) h (lit≤ tt)

pub one_narrow : (w : ℕ) → 2 ≤ w → IsNarrow w (pos 1) (pos 1)
one_narrow w h = small_narrow w (pos 1) h (lit≤ tt)

zero_times : (z : ℤ) → z *ℤ pos 0 ≡ pos 0
zero_times z = omega (arith, ints)

times_one : (z : ℤ) → z *ℤ pos 1 ≡ z
times_one z = omega (arith, ints)

over_one : (z : ℤ) → int_div (pos 1) (gcd_ℤ z (pos 1)) ≡ pos 1
over_one z = ap (int_div (pos 1)) (shared_with_one z) ∙ quotient_by_one (pos 1)

-- 0 divided by a positive number
zero_divided : (g : ℤ) → pos 0 <ℤ g → int_div (pos 0) g ≡ pos 0
zero_divided g h = ap (λ z. int_div z g) (sym (zero_left g)) ∙ multiple_divided (pos 0) g h
  where
    zero_left : (z : ℤ) → pos 0 *ℤ z ≡ pos 0
    zero_left z = omega (arith, ints)

-- a positive number divided by what it shares with 0
shared_with_zero : (b : ℤ) → pos 0 <ℤ b → int_div b (gcd_ℤ (pos 0) b) ≡ pos 1
shared_with_zero b h =
    let all : gcd_ℤ (pos 0) b ≡ b = sym (gcd_ℤ_unique (omega (arith, ints)) (Divides_zero b) (Divides_refl b) (λ d p q. q)) in
    ap (int_div b) all ∙ ap (λ z. int_div z b) (one_times b) ∙ multiple_divided (pos 1) b h
  where
    one_times : (z : ℤ) → z ≡ pos 1 *ℤ z
    one_times z = omega (arith, ints)

-- a product with 0 is 0, and no number of it passes
pub product_zero : (w : ℕ) (q : ℚ) → 2 ≤ w → Fits w q.num → Fits w (den q) → Ok (whole (pos 0)) ≡ product_in w q (whole (pos 0))
product_zero w q h kn kd =
    let s = value_narrow_numbers w q kn kd in
    let zero : pos 0 ≡ product_num q.num (den q) (pos 0) (pos 1) =
    sym (ap (λ z. int_div q.num (gcd_ℤ q.num (pos 1)) *ℤ z) (zero_divided (gcd_ℤ (pos 0) (den q)) (shared_positive (pos 0) (den q) s.reduced.positive))
    ∙ zero_times (int_div q.num (gcd_ℤ q.num (pos 1)))) in
    let one : pos 1 ≡ product_den q.num (den q) (pos 0) (pos 1) =
    sym (ap₂ ◌*ℤ◌ (shared_with_zero (den q) s.reduced.positive) (over_one q.num) ∙ times_one (pos 1)) in
    product_exact w q.num (den q) (pos 0) (pos 1) (pos 0) (pos 1) s (zero_narrow w h)
    (within_fits w (pos 0) (small_fits w (pos 0) h (lit≤ tt)) ∙ ap (within w) zero)
    (within_fits w (pos 1) (small_fits w (pos 1) h (lit≤ tt)) ∙ ap (within w) one)
    ∙ ap (λ r. product_in w r (whole (pos 0))) (over_parts q)

pub product_zero_left : (w : ℕ) (q : ℚ) → 2 ≤ w → Fits w q.num → Fits w (den q) → Ok (whole (pos 0)) ≡ product_in w (whole (pos 0)) q
product_zero_left w q h kn kd =
    let s = value_narrow_numbers w q kn kd in
    let zero : pos 0 ≡ product_num (pos 0) (pos 1) q.num (den q) =
    sym (ap (λ z. z *ℤ int_div q.num (gcd_ℤ q.num (pos 1))) (zero_divided (gcd_ℤ (pos 0) (den q)) (shared_positive (pos 0) (den q) s.reduced.positive))
    ∙ times_zero (int_div q.num (gcd_ℤ q.num (pos 1)))) in
    let one : pos 1 ≡ product_den (pos 0) (pos 1) q.num (den q) =
    sym (ap₂ ◌*ℤ◌ (over_one q.num) (shared_with_zero (den q) s.reduced.positive) ∙ times_one (pos 1)) in
    product_exact w (pos 0) (pos 1) q.num (den q) (pos 0) (pos 1) (zero_narrow w h) s
    (within_fits w (pos 0) (small_fits w (pos 0) h (lit≤ tt)) ∙ ap (within w) zero)
    (within_fits w (pos 1) (small_fits w (pos 1) h (lit≤ tt)) ∙ ap (within w) one)
    ∙ ap (λ r. product_in w (whole (pos 0)) r) (over_parts q)
  where
    times_zero : (z : ℤ) → pos 0 *ℤ z ≡ pos 0
    times_zero z = omega (arith, ints)

-- a sum with 0 is the other value
pub sum_zero : (w : ℕ) (q : ℚ) → 2 ≤ w → Fits w q.num → Fits w (den q) → Ok q ≡ sum_in w q (whole (pos 0))
sum_zero w q h kn kd =
    let s = value_narrow_numbers w q kn kd in
    let a : ℤ = q.num in
    let b : ℤ = den q in
    let left : a ≡ left_of a b (pos 1) = sym (ap (λ z. a *ℤ z) (over_one b) ∙ times_one a) in
    let right : pos 0 ≡ right_of b (pos 0) (pos 1) = sym (times_zero (int_div b (gcd_ℤ b (pos 1)))) in
    let low : b ≡ sum_den b (pos 1) = sym (ap (λ z. b *ℤ z) (over_one b) ∙ times_one b) in
    let up : a ≡ sum_num a b (pos 0) (pos 1) = plus_zero a ∙ ap₂ ◌+ℤ◌ left right in
    let shared : gcd_ℤ (sum_num a b (pos 0) (pos 1)) (gcd_ℤ b (pos 1)) ≡ pos 1 = ap (gcd_ℤ (sum_num a b (pos 0) (pos 1))) (shared_with_one b)
    ∙ shared_with_one (sum_num a b (pos 0) (pos 1)) in
    let num : a ≡ low_num a b (pos 0) (pos 1) = sym (ap₂ int_div (sym up) shared ∙ quotient_by_one a) in
    let den_is : b ≡ low_den a b (pos 0) (pos 1) = sym (ap₂ int_div (sym low) shared ∙ quotient_by_one b) in
    ap Ok (sym (over_parts q))
    ∙ sum_exact w a b (pos 0) (pos 1) a (pos 0) b a b s (zero_narrow w h)
    (within_fits w a kn ∙ ap (within w) left) (within_fits w (pos 0) (small_fits w (pos 0) h (lit≤ tt)) ∙ ap (within w) right)
    (within_fits w b kd ∙ ap (within w) low) (within_fits w a kn ∙ ap (within w) num) den_is
    ∙ ap (λ r. sum_in w r (whole (pos 0))) (over_parts q)
  where
    times_zero : (z : ℤ) → pos 0 *ℤ z ≡ pos 0
    times_zero z = omega (arith, ints)

    plus_zero : (z : ℤ) → z ≡ z +ℤ pos 0
    plus_zero z = omega (arith, ints)

-- a difference with 0 is the first value
pub difference_zero : (w : ℕ) (q : ℚ) → 2 ≤ w → Fits w q.num → Fits w (den q) → Ok q ≡ difference_in w q (whole (pos 0))
difference_zero w q h kn kd = sum_zero w q h kn kd ∙ ap (sum_in w q) (sym (over_neg (pos 0) (pos 1) (omega (arith, ints))))
    ∙ difference_is w q (whole (pos 0))
