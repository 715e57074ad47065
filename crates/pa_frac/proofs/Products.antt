-- What each operation gives, by the numbers of its fractions.
use Rattle.std.proofs.Common.{◌≡◌, ℕ, [], ◌∷◌, Ok, Err, ap₂, ◌∙◌}
use lib.IntN.{ℤ}
use Rattle.pa_math.specs.Divisors.{IsReduced}
use Rattle.pa_math.specs.Rational.{ℚ, den, over, ◌*ℚ◌}
use Rattle.pa_math.proofs.Rationals.{over_reduced}
use Rattle.pa_math.proofs.ReducedOperations.{product_num, product_den, product_value, product_reduced}
use Rattle.pa_frac.specs.declared.wide.Wide.{Wide}
use Rattle.pa_frac.specs.Width.{exact_or_wide, within}
use Rattle.pa_frac.specs.Narrow.{IsNarrow}
use Rattle.pa_frac.specs.Operations.{product_in}
use Rattle.pa_frac.proofs.Width.{fits_from_passes, within_ok, two_exact, two_wide_first, two_wide_second}

-- ---- products
same_product : (w : ℕ) (q r v : ℚ) (a b c d : ℤ) → q.num ≡ a → den q ≡ b → r.num ≡ c → den r ≡ d → q *ℚ r ≡ v →
    exact_or_wide w (product_num a b c d ∷ product_den a b c d ∷ []) v ≡ product_in w q r
unfolding product_in
same_product w q r v a b c d e f g h k = cc

-- the product by the numbers of its factors
pub product_due : (w : ℕ) (a b c d : ℤ) → IsReduced a b → IsReduced c d →
    exact_or_wide w (product_num a b c d ∷ product_den a b c d ∷ []) (over (product_num a b c d) (product_den a b c d)) ≡ product_in w (over a b) (over c d)
product_due w a b c d s t =
    let l = over_reduced a b s in
    let r = over_reduced c d t in
    same_product w _ _ _ a b c d l.0 l.1 r.0 r.1 (product_value a b c d s t)

pub product_wide_num : (w : ℕ) (a b c d : ℤ) (e : Wide) → IsNarrow w a b → IsNarrow w c d → Err e ≡ within w (product_num a b c d) →
    Err (record {}) ≡ product_in w (over a b) (over c d)
product_wide_num w a b c d e s t h =
    let n : ℤ = product_num a b c d in
    let m : ℤ = product_den a b c d in
    two_wide_first w n m e (over n m) h ∙ product_due w a b c d s.reduced t.reduced

pub product_wide_den : (w : ℕ) (a b c d : ℤ) (e : Wide) → IsNarrow w a b → IsNarrow w c d → Err e ≡ within w (product_den a b c d) →
    Err (record {}) ≡ product_in w (over a b) (over c d)
product_wide_den w a b c d e s t h =
    let n : ℤ = product_num a b c d in
    let m : ℤ = product_den a b c d in
    two_wide_second w n m e (over n m) h ∙ product_due w a b c d s.reduced t.reduced

pub product_exact : (w : ℕ) (a b c d n m : ℤ) → IsNarrow w a b → IsNarrow w c d → Ok n ≡ within w (product_num a b c d) →
    Ok m ≡ within w (product_den a b c d) →
    Ok (over n m) ≡ product_in w (over a b) (over c d)
product_exact w a b c d n m s t h k =
    let x : ℤ = product_num a b c d in
    let y : ℤ = product_den a b c d in
    ap₂ (λ n m. Ok (over n m)) (within_ok w n x h).1 (within_ok w m y k).1 ∙ two_exact w x y n m (over x y) h k ∙ product_due w a b c d s.reduced t.reduced

pub product_narrow : (w : ℕ) (a b c d n m : ℤ) → IsNarrow w a b → IsNarrow w c d → Ok n ≡ within w (product_num a b c d) →
    Ok m ≡ within w (product_den a b c d) →
    IsNarrow w n m
product_narrow w a b c d n m s t h k =
    let x : ℤ = product_num a b c d in
    let y : ℤ = product_den a b c d in
    let p = within_ok w n x h in
    let q = within_ok w m y k in
    rw (p.1, q.1) (record { reduced = product_reduced a b c d s.reduced t.reduced; num_fits = fits_from_passes w x p.0; den_fits = fits_from_passes w y q.0 })
