-- What the tests against 0 tell of a value.
use Rattle.std.proofs.Common.{◌≡◌, ◌≢◌, Bool, true, false, refl, sym, ap, subst, ◌∙◌}
use Rattle.std.specs.declared.cmp.Ordering.TheVariants.{Less, Greater}
use Rattle.std.specs.Ordering.{MatchOrdering, int_cmp, int_eq, is_eq}
use Rattle.std.proofs.lemmas.Bool.Decides.{Decides-int_eq}
use lib.IntN.{pos}
use Rattle.pa_math.specs.Rational.{ℚ, whole}
use Rattle.pa_math.specs.RationalOrder.{◌<ℚ◌}
use Rattle.pa_math.proofs.Rationals.{whole_numbers}
use Rattle.pa_math.proofs.RationalOrders.{compare_ranks}
use Rattle.pa_math.proofs.Reciprocals.{zero_num}
use Rattle.pa_math.proofs.ReducedOperations.{compare_zero}
use Rattle.pa_frac.specs.Operations.{is_zero, sign}

-- the two tests agree
pub is_zero_by_sign : (q : ℚ) → is_zero q ≡ is_eq (sign q)
is_zero_by_sign q = sym (ap is_eq (compare_zero q))

pub nonzero_from_greater : (q : ℚ) → sign q ≡ Greater → is_zero q ≡ false
nonzero_from_greater q h = is_zero_by_sign q ∙ ap is_eq h

pub nonzero_from_less : (q : ℚ) → sign q ≡ Less → is_zero q ≡ false
nonzero_from_less q h = is_zero_by_sign q ∙ ap is_eq h

-- the value that the test tells
pub zero_value : (q : ℚ) → is_zero q ≡ true → q ≡ whole (pos 0)
zero_value q h = zero_num q ((Decides-int_eq q.num (pos 0)).0 h)

pub nonzero_value : (q : ℚ) → is_zero q ≡ false → q ≢ whole (pos 0)
nonzero_value q h e = cc (ap is_zero e ∙ (Decides-int_eq (whole (pos 0)).num (pos 0)).1 (whole_numbers (pos 0)).0)

pub nonzero_test : (q : ℚ) → q ≢ whole (pos 0) → is_zero q ≡ false
nonzero_test q h = by_cases (is_zero q) (zero_value q)
  where
    by_cases : (b : Bool) → (b ≡ true → q ≡ whole (pos 0)) → b ≡ false
    by_cases true k = absurd (h (k refl))
    by_cases false k = refl

-- the order that the sign tells
pub positive_from_sign : (q : ℚ) → sign q ≡ Greater → whole (pos 0) <ℚ q
positive_from_sign q h = subst (λ o. MatchOrdering o (q <ℚ whole (pos 0)) (q ≡ whole (pos 0)) (whole (pos 0) <ℚ q)) h (compare_ranks q (whole (pos 0)))

pub negative_from_sign : (q : ℚ) → sign q ≡ Less → q <ℚ whole (pos 0)
negative_from_sign q h = subst (λ o. MatchOrdering o (q <ℚ whole (pos 0)) (q ≡ whole (pos 0)) (whole (pos 0) <ℚ q)) h (compare_ranks q (whole (pos 0)))

-- the tests of 0 and 1
pub zero_test : is_zero (whole (pos 0)) ≡ true
zero_test = (Decides-int_eq (whole (pos 0)).num (pos 0)).1 (whole_numbers (pos 0)).0

pub one_test : is_zero (whole (pos 1)) ≡ false
one_test = ap (λ n. int_eq n (pos 0)) (whole_numbers (pos 1)).0

pub one_sign : sign (whole (pos 1)) ≡ Greater
one_sign = compare_zero (whole (pos 1)) ∙ ap (λ n. int_cmp n (pos 0)) (whole_numbers (pos 1)).0
