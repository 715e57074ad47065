-- Numbers that 126 bits hold.
use Rattle.std.proofs.Common.{◌≡◌, ◌<◌, ◌≤◌, ◌^◌, ◌*◌, ℕ, false, Option, Some, Result, Ok, Err, sym, ap, ap₂, ◌∙◌, subst, arith}
use Rattle.std.specs.Prelude.{ℤ, pos, negsuc, unsigned_abs, ◌<ℤ◌}
use Rattle.std.proofs.lemmas.Int.{ints, to_z_pos}
use lib.Signed.{lt_z}
use mir.Syntax.{w128}
use mir.Val.{to_z}
use Rattle.std.proofs.Math.Nat.{pow-le-pow_right, one-le-pow, mul-le-mul_left, div-le_self}
use Rattle.pa_math.specs.Rational.{ℚ, over, whole, ◌/ℚ◌}
use Rattle.pa_math.specs.Divisors.{gcd_of, IsReduced}
use Rattle.pa_math.proofs.Rationals.{over_num, over_den, over_numbers}
use Rattle.pa_frac.specs.Width.{Fits}
use Rattle.pa_math.proofs.Reciprocals.{over_quotient}
use Rattle.pa_frac.specs.declared.wide.Wide.{Wide}
use Rattle.pa_frac.specs.declared.wide126.Wide126.{Wide126}
use Rattle.pa_frac.specs.Operations.{fraction_in}
use Rattle.pa_frac.specs.Width.{valued}
use Rattle.pa_frac.proofs.Width.{within_fits, two_exact}
use Rattle.pa_frac.proofs.Lowest.{fraction_due, over_lowest, lowest_num, lowest_den}
use Rattle.pa_grammar.specs.declared.token.Decimal.{Decimal}
use Rattle.pa_grammar.specs.Limits.{IsPower, IsValued, IsWhole, IsDivisor}
use Rattle.pa_grammar.specs.Meaning.{decimal_value, scaled_by_ten}
use Rattle.pa_grammar.specs.Seen.{fraction}

-- a fraction of two numbers that fit, fits
pub fraction_fits : (w n d : ℕ) → 0 < d → n < 2 ^ w → d < 2 ^ w → fraction_in w (over (pos n) (pos d)) ≡ Ok (over (pos n) (pos d))
fraction_fits w n d up hn hd =
    let x : ℤ = lowest_num (pos n) (pos d) in
    let y : ℤ = lowest_den (pos n) (pos d) in
    let positive : pos 0 <ℤ pos d = omega (arith, ints) in
    sym (fraction_due w (pos n) (pos d) positive)
    ∙ sym (two_exact w x y x y (over x y) (within_fits w x (omega (arith, div-le_self n (gcd_of n d))))
    (within_fits w y (omega (arith, div-le_self d (gcd_of n d)))))
    ∙ ap Ok (sym (over_lowest (pos n) (pos d) positive))

value_from : (r : Result Wide126 Wide) (q : ℚ) (v : Wide126) → valued fraction r ≡ Ok q → r ≡ Ok v → fraction v ≡ q
value_from r q v is was = cc

not_refused : (r : Result Wide126 Wide) (q : ℚ) (e : Wide) → valued fraction r ≡ Ok q → r ≡ Err e → ⊥
not_refused r q e is was = cc

-- so the call that makes it is not refused
abbrev read : ℕ → ℤ
read n = to_z w128 n

pub read_is : (n : ℕ) → n < 2 ^ 126 → read n ≡ pos n
read_is n h = to_z_pos w128 n (omega (arith, h))

pub ratio_given : (r : Result Wide126 Wide) (n d : ℕ) (e : Wide) → 0 < d → n < 2 ^ 126 → d < 2 ^ 126
    → valued fraction r ≡ fraction_in 126 (over (read n) (read d)) → r ≡ Err e → ⊥
ratio_given r n d e up hn hd is was = not_refused r (over (pos n) (pos d)) e (is ∙ ap₂ (λ x y. fraction_in 126 (over x y)) (read_is n hn) (read_is d hd)
    ∙ fraction_fits 126 n d up hn hd) was

pub ratio_is : (r : Result Wide126 Wide) (n d : ℕ) (v : Wide126) → 0 < d → n < 2 ^ 126 → d < 2 ^ 126
    → valued fraction r ≡ fraction_in 126 (over (read n) (read d)) → r ≡ Ok v
    → fraction v ≡ over (pos n) (pos d)
ratio_is r n d v up hn hd is was = value_from r (over (pos n) (pos d)) v (is ∙ ap₂ (λ x y. fraction_in 126 (over x y)) (read_is n hn) (read_is d hd)
    ∙ fraction_fits 126 n d up hn hd) was

-- ---- powers of ten within the limits
pub ten_at_most : (n m : ℕ) → n ≤ m → 10 ^ n ≤ 10 ^ m
ten_at_most n m h = pow-le-pow_right {n = 10} (omega arith) {i = n} {j = m} h

pub ten_positive : (n : ℕ) → 0 < 10 ^ n
ten_positive n = omega (arith, one-le-pow n 10 (omega arith))

power_size : (p : ℤ) → IsPower p → unsigned_abs p ≤ 36
power_size (pos n) h = omega (arith, h)
power_size (negsuc n) h = omega (arith, h)

rising_size : (p : ℤ) → IsPower p → lt_z p (pos 0) ≡ false → unsigned_abs p ≤ 18
rising_size (pos n) h up = h
rising_size (negsuc n) h up = cc

valued_digits : (v : Option Decimal) (d : Decimal) → v ≡ Some d → IsValued v → (d.digits < 10 ^ 18) × IsPower d.power
valued_digits v d is h = subst IsValued is h

pub power_within : (v : Option Decimal) (d : Decimal) → v ≡ Some d → IsValued v → unsigned_abs d.power ≤ 36
power_within v d is h = power_size d.power (valued_digits v d is h).1

-- a power of ten that divides
pub ten_within : (n : ℕ) → n ≤ 36 → 10 ^ n < 2 ^ 126
ten_within n h = omega (arith, ten_at_most n 36 h)

-- digits times a power of ten
pub digits_within : (v : Option Decimal) (d : Decimal) → v ≡ Some d → IsValued v → lt_z d.power (pos 0) ≡ false → d.digits * 10 ^ unsigned_abs d.power < 2 ^ 126
digits_within v d is h up =
    let s = valued_digits v d is h in
    let most : d.digits * 10 ^ unsigned_abs d.power ≤ d.digits * 10 ^ 18 =
    mul-le-mul_left {m = 10 ^ unsigned_abs d.power} {n = 10 ^ 18} d.digits (ten_at_most (unsigned_abs d.power) 18 (rising_size d.power s.1 up)) in
    omega (arith, most, s.0)

-- ---- quotients
whole_decimal : (d : Decimal) → d.power ≡ pos 0 → decimal_value (Some d) ≡ whole (pos d.digits)
whole_decimal d is = ap (scaled_by_ten d.digits) is ∙ ap (λ n. whole (pos n)) (let e : d.digits * 10 ^ 0 ≡ d.digits = omega arith in e)

pub quotient_is : (n d : Option Decimal) (a b : Decimal) → n ≡ Some a → d ≡ Some b → IsWhole n → IsDivisor d
    → over (pos a.digits) (pos b.digits) ≡ decimal_value n /ℚ decimal_value d
quotient_is n d a b an bd hn hd =
    let u = subst IsWhole an hn in
    let v = subst IsDivisor bd hd in
    over_quotient (pos a.digits) (pos b.digits) (λ e. absurd (omega (arith, ints, v.0, e)))
    ∙ ap₂ ◌/ℚ◌ (sym (whole_decimal a u.1) ∙ ap decimal_value (sym an)) (sym (whole_decimal b v.2) ∙ ap decimal_value (sym bd))

-- ---- constants
fixed_fits : (n d : ℤ) → IsReduced n d → Fits 126 n → Fits 126 d → fraction_in 126 (over n d) ≡ Ok (over n d)
fixed_fits n d low hn hd =
    let x : ℤ = lowest_num n d in
    let y : ℤ = lowest_den n d in
    let numbers = over_numbers n d low.positive in
    let same_num : n ≡ x = sym (over_num n d low) ∙ numbers.0 in
    let same_den : d ≡ y = sym (over_den n d low) ∙ numbers.1 in
    sym (fraction_due 126 n d low.positive)
    ∙ sym (two_exact 126 x y x y (over x y) (within_fits 126 x (subst (Fits 126) same_num hn)) (within_fits 126 y (subst (Fits 126) same_den hd)))
    ∙ ap Ok (sym (over_lowest n d low.positive))

pub known_given : (r : Result Wide126 Wide) (n d : ℤ) (e : Wide) → IsReduced n d → Fits 126 n → Fits 126 d → valued fraction r ≡ fraction_in 126 (over n d)
    → r ≡ Err e → ⊥
known_given r n d e low hn hd is was = not_refused r (over n d) e (is ∙ fixed_fits n d low hn hd) was

pub known_is : (r : Result Wide126 Wide) (n d : ℤ) (v : Wide126) → IsReduced n d → Fits 126 n → Fits 126 d → valued fraction r ≡ fraction_in 126 (over n d)
    → r ≡ Ok v → fraction v ≡ over n d
known_is r n d v low hn hd is was = value_from r (over n d) v (is ∙ fixed_fits n d low hn hd) was
