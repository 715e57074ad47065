-- A fraction by its numbers in lowest terms.
use Rattle.std.proofs.Common.{◌≡◌, ◌<◌, ◌≤◌, ℕ, [], ◌∷◌, Ok, Err, refl, sym, ap, ap₂, ◌∙◌, arith}
use Rattle.std.specs.Prelude.{unsigned_abs}
use Rattle.std.specs.Int.RustNames.{int_div}
use Rattle.std.proofs.lemmas.Int.{ints}
use lib.IntN.{ℤ, pos, negsuc, ◌*ℤ◌}
use lib.Signed.{◌<ℤ◌, ◌≤ℤ◌}
use Rattle.pa_math.specs.Divisors.{gcd_of, gcd_ℤ}
use Rattle.pa_math.specs.Rational.{ℚ, den, over}
use Rattle.pa_math.proofs.Divisors.{gcd_ℤ_positive, gcd_of_at_most, Divides_from_factor, Divides_at_most}
use Rattle.pa_math.proofs.Coprime.{coprime_one}
use Rattle.pa_math.proofs.ReducedForms.{reduces, reduces_cross}
use Rattle.pa_math.proofs.Rationals.{over_num, over_den, over_numbers, over_parts, reduced_form, same_over}
use Rattle.pa_frac.specs.declared.wide.Wide.{Wide}
use Rattle.pa_frac.specs.Width.{Fits, exact_or_wide, within}
use Rattle.pa_frac.specs.Narrow.{IsNarrow}
use Rattle.pa_frac.specs.Operations.{fraction_in}
use Rattle.pa_frac.proofs.Width.{fits_from_passes, fits_widest, within_ok, exact_value, wide_below, two_exact, two_wide_first, two_wide_second}

abs_positive : (z : ℤ) → pos 0 <ℤ z → 0 < unsigned_abs z
abs_positive (pos n) h = omega (arith, ints)
abs_positive (negsuc n) h = omega (arith, ints)

-- the greatest common divisor with a positive number is no greater than that number
pub shared_at_most : (a b : ℤ) → pos 0 <ℤ b → gcd_of (unsigned_abs a) (unsigned_abs b) ≤ unsigned_abs b
shared_at_most a b h = gcd_of_at_most (unsigned_abs a) (unsigned_abs b) (abs_positive b h)

-- and is positive
pub shared_positive : (a b : ℤ) → pos 0 <ℤ b → pos 0 <ℤ gcd_ℤ a b
shared_positive a b h = gcd_ℤ_positive a b h

-- a number shares nothing with 1
pub shared_with_one : (a : ℤ) → gcd_ℤ a (pos 1) ≡ pos 1
shared_with_one a = (coprime_one a).gcd_is_one

abbrev pub lowest_num : ℤ → ℤ → ℤ
lowest_num n d = int_div n (gcd_ℤ n d)

abbrev pub lowest_den : ℤ → ℤ → ℤ
lowest_den n d = int_div d (gcd_ℤ n d)

-- the numbers in lowest terms have the same value
pub over_lowest : (n d : ℤ) → pos 0 <ℤ d → over n d ≡ over (lowest_num n d) (lowest_den n d)
over_lowest n d h =
    let r = reduces n d h in
    same_over n d (lowest_num n d) (lowest_den n d) h r.reduced.positive (sym (reduces_cross r))

-- a positive factor of a number that fits, fits
pub factor_fits : (w : ℕ) (k g n : ℤ) → pos 0 <ℤ k → pos 0 <ℤ n → k *ℤ g ≡ n → Fits w n → Fits w k
factor_fits w k g n h l e f =
    let le : k ≤ℤ n = Divides_at_most l (Divides_from_factor k g n e) in
    at_most w k n h le f
  where
    at_most : (w : ℕ) (k n : ℤ) → pos 0 <ℤ k → k ≤ℤ n → Fits w n → Fits w k
    at_most w (pos k) (pos n) h le f = omega (arith, ints)
    at_most w (pos k) (negsuc n) h le f = absurd (omega (arith, ints))
    at_most w (negsuc k) n h le f = absurd (omega (arith, ints))

-- ---- the fraction that a numerator and a denominator give
same_fraction : (w : ℕ) (q v : ℚ) (n d : ℤ) → q.num ≡ n → den q ≡ d → q ≡ v → exact_or_wide w (n ∷ d ∷ []) v ≡ fraction_in w q
unfolding fraction_in
same_fraction w q v n d e f g = cc

pub fraction_due : (w : ℕ) (n d : ℤ) → pos 0 <ℤ d →
    exact_or_wide w (lowest_num n d ∷ lowest_den n d ∷ []) (over (lowest_num n d) (lowest_den n d)) ≡ fraction_in w (over n d)
fraction_due w n d h = same_fraction w (over n d) _ _ _ (over_numbers n d h).0 (over_numbers n d h).1 (over_lowest n d h)

pub fraction_wide_num : (w : ℕ) (n d : ℤ) (e : Wide) → pos 0 <ℤ d → Err e ≡ within w (lowest_num n d) → Err (record {}) ≡ fraction_in w (over n d)
fraction_wide_num w n d e h k =
    let x : ℤ = lowest_num n d in
    let y : ℤ = lowest_den n d in
    two_wide_first w x y e (over x y) k ∙ fraction_due w n d h

pub fraction_wide_den : (w : ℕ) (n d : ℤ) (e : Wide) → pos 0 <ℤ d → Err e ≡ within w (lowest_den n d) → Err (record {}) ≡ fraction_in w (over n d)
fraction_wide_den w n d e h k =
    let x : ℤ = lowest_num n d in
    let y : ℤ = lowest_den n d in
    two_wide_second w x y e (over x y) k ∙ fraction_due w n d h

pub fraction_exact : (w : ℕ) (n d a b : ℤ) → pos 0 <ℤ d → Ok a ≡ within w (lowest_num n d) → Ok b ≡ within w (lowest_den n d) →
    Ok (over a b) ≡ fraction_in w (over n d)
fraction_exact w n d a b h p q =
    let x : ℤ = lowest_num n d in
    let y : ℤ = lowest_den n d in
    ap₂ (λ k l. Ok (over k l)) (within_ok w a x p).1 (within_ok w b y q).1 ∙ two_exact w x y a b (over x y) p q ∙ fraction_due w n d h

pub fraction_narrow : (w : ℕ) (n d a b : ℤ) → pos 0 <ℤ d → Ok a ≡ within w (lowest_num n d) → Ok b ≡ within w (lowest_den n d) → IsNarrow w a b
fraction_narrow w n d a b h p q =
    let x : ℤ = lowest_num n d in
    let y : ℤ = lowest_den n d in
    let k = within_ok w a x p in
    let l = within_ok w b y q in
    rw (k.1, l.1) (record { reduced = (reduces n d h).reduced; num_fits = fits_from_passes w x k.0; den_fits = fits_from_passes w y l.0 })

-- ---- a fraction that is known by its value
-- an answer that is not `Wide` is the value
pub fraction_value : (w : ℕ) (q r : ℚ) → Ok q ≡ fraction_in w r → q ≡ r
unfolding fraction_in
fraction_value w q r h = exact_value w (r.num ∷ den r ∷ []) q r h

-- the numbers of a value, where they fit
pub value_exact : (w : ℕ) (q : ℚ) (n d : ℤ) → Ok n ≡ within w q.num → Ok d ≡ within w (den q) → Ok (over n d) ≡ fraction_in w q
value_exact w q n d hn hd =
    let s = reduced_form q in
    ap₂ (λ k l. Ok (over k l)) (within_ok w n q.num hn).1 (within_ok w d (den q) hd).1
    ∙ two_exact w q.num (den q) n d (over q.num (den q)) hn hd ∙ same_fraction w q (over q.num (den q)) q.num (den q) refl refl (sym (over_parts q))

pub value_narrow : (w : ℕ) (q : ℚ) (n d : ℤ) → Ok n ≡ within w q.num → Ok d ≡ within w (den q) → IsNarrow w n d
value_narrow w q n d hn hd =
    let k = within_ok w n q.num hn in
    let l = within_ok w d (den q) hd in
    rw (k.1, l.1) (record { reduced = reduced_form q; num_fits = fits_from_passes w q.num k.0; den_fits = fits_from_passes w (den q) l.0 })

pub value_wide_num : (w : ℕ) (q : ℚ) (e : Wide) → Err e ≡ within w q.num → Err (record {}) ≡ fraction_in w q
value_wide_num w q e h = two_wide_first w q.num (den q) e q h ∙ same_fraction w q q q.num (den q) refl refl refl

pub value_wide_den : (w : ℕ) (q : ℚ) (e : Wide) → Err e ≡ within w (den q) → Err (record {}) ≡ fraction_in w q
value_wide_den w q e h = two_wide_second w q.num (den q) e q h ∙ same_fraction w q q q.num (den q) refl refl refl

-- what passes a greater width passes a lesser one
pub fraction_wide_below : (v w : ℕ) (q : ℚ) (e : Wide) → v ≤ w → Err e ≡ fraction_in w q → Err (record {}) ≡ fraction_in v q
unfolding fraction_in
fraction_wide_below v w q e h k = wide_below v w (q.num ∷ den q ∷ []) q e h k

-- ---- the numbers of a value
pub value_num : (w : ℕ) (q : ℚ) (n d : ℤ) → over n d ≡ q → IsNarrow w n d → n ≡ q.num
value_num w q n d e s = sym (over_num n d s.reduced) ∙ ap (λ r. r.num) e

pub value_den : (w : ℕ) (q : ℚ) (n d : ℤ) → over n d ≡ q → IsNarrow w n d → d ≡ den q
value_den w q n d e s = sym (over_den n d s.reduced) ∙ ap den e

-- numbers that fit a width fit a greater one
pub narrow_widest : (v w : ℕ) (n d : ℤ) → IsNarrow v n d → v ≤ w → IsNarrow w n d
narrow_widest v w n d s h = record { reduced = s.reduced; num_fits = fits_widest v w n h s.num_fits; den_fits = fits_widest v w d h s.den_fits }
