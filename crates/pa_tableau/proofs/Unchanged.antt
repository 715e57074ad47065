-- Cells that a pivot leaves alone: a product with 0 is 0 and a difference with 0 is the number, and no number of these passes a width.
use Rattle.std.proofs.Common.{◌≡◌, ◌≤◌, ℕ, true, pos, Result, Ok, ap, sym, ◌∙◌}
use Rattle.pa_math.specs.Answers.{and_then}
use Rattle.pa_math.specs.Rational.{ℚ, den, whole}
use Rattle.pa_frac.specs.declared.wide.Wide.{Wide}
use Rattle.pa_frac.specs.Width.{Fits}
use Rattle.pa_frac.specs.Operations.{is_zero, product_in, difference_in}
use Rattle.pa_frac.proofs.Signs.{zero_value}
use Rattle.pa_frac.proofs.Zeros.{product_zero, product_zero_left, difference_zero}
use Rattle.pa_tableau.specs.Arithmetic.{at_width}
use Rattle.pa_tableau.specs.Tableau.{reduced}

less_zero : (w : ℕ) (x y : ℚ) → 2 ≤ w → Fits w x.num → Fits w (den x) → (r : Result ℚ Wide) → Ok (whole (pos 0)) ≡ r
    → Ok x ≡ and_then r (λ y. difference_in w x y)
less_zero w x y h n d r e = difference_zero w x h n d ∙ ap (λ (r : Result ℚ Wide). and_then r (λ y. difference_in w x y)) e

-- where the factor is 0
pub reduced_by_zero : (w : ℕ) (x f p : ℚ) → 2 ≤ w → Fits w x.num → Fits w (den x) → Fits w p.num → Fits w (den p) → is_zero f ≡ true
    → Ok x ≡ reduced (at_width w) x f p
reduced_by_zero w x f p h xn xd pn pd z =
    less_zero w x f h xn xd (product_in w f p) (product_zero_left w p h pn pd ∙ ap (λ f. product_in w f p) (sym (zero_value f z)))

-- where the number of the pivot line is 0
pub reduced_at_zero : (w : ℕ) (x f p : ℚ) → 2 ≤ w → Fits w x.num → Fits w (den x) → Fits w f.num → Fits w (den f) → is_zero p ≡ true
    → Ok x ≡ reduced (at_width w) x f p
reduced_at_zero w x f p h xn xd fn fd z =
    less_zero w x f h xn xd (product_in w f p) (product_zero w f h fn fd ∙ ap (λ p. product_in w f p) (sym (zero_value p z)))
