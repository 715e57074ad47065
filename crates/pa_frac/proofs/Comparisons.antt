-- The comparison by the numbers of its fractions.
use Rattle.std.proofs.Common.{◌≡◌, ℕ, [], ◌∷◌, Ok, Err, refl, sym, ap, ap₂, subst, ◌∙◌}
use Rattle.std.specs.declared.cmp.Ordering.{Ordering}
use Rattle.std.specs.Ordering.{int_cmp}
use lib.IntN.{ℤ}
use Rattle.pa_math.specs.Divisors.{gcd_ℤ, IsReduced}
use Rattle.pa_math.specs.Rational.{ℚ, den, over}
use Rattle.pa_math.specs.RationalOrder.{compare_ℚ}
use Rattle.pa_math.proofs.Divisors.{gcd_ℤ_comm}
use Rattle.pa_math.proofs.Rationals.{over_reduced}
use Rattle.pa_math.proofs.ReducedOperations.{compare_value}
use Rattle.pa_frac.specs.declared.wide.Wide.{Wide}
use Rattle.pa_frac.specs.Width.{exact_or_wide, within}
use Rattle.pa_frac.specs.Narrow.{IsNarrow}
use Rattle.pa_frac.specs.Operations.{comparison_in, scaled_num}
use Rattle.pa_frac.proofs.Width.{within_ok, two_exact, two_wide_first, two_wide_second}
use Rattle.pa_frac.proofs.Sums.{left_of, right_of, alike_numerators}

same_comparison : (w : ℕ) (q r : ℚ) (o : Ordering) (a b c d : ℤ) → q.num ≡ a → den q ≡ b → r.num ≡ c → den r ≡ d → gcd_ℤ d b ≡ gcd_ℤ b d → compare_ℚ q r ≡ o →
    exact_or_wide w (left_of a b d ∷ right_of b c d ∷ []) o ≡ comparison_in w q r
unfolding comparison_in
same_comparison w q r o a b c d ea eb ec ed eg eo =
    let left : scaled_num q r ≡ left_of a b d = cc in
    let right : scaled_num r q ≡ right_of b c d = cc in
    sym (ap (λ x. exact_or_wide w (x ∷ scaled_num r q ∷ []) (compare_ℚ q r)) left
    ∙ ap (λ y. exact_or_wide w (left_of a b d ∷ y ∷ []) (compare_ℚ q r)) right
    ∙ ap (λ z. exact_or_wide w (left_of a b d ∷ right_of b c d ∷ []) z) eo)

-- the comparison by the numbers of the two fractions
pub comparison_due : (w : ℕ) (a b c d : ℤ) → IsReduced a b → IsReduced c d →
    exact_or_wide w (left_of a b d ∷ right_of b c d ∷ []) (int_cmp (left_of a b d) (right_of b c d)) ≡ comparison_in w (over a b) (over c d)
comparison_due w a b c d s t =
    let l = over_reduced a b s in
    let r = over_reduced c d t in
    same_comparison w (over a b) (over c d) _ a b c d l.0 l.1 r.0 r.1 (gcd_ℤ_comm d b) (compare_value a b c d s.positive t.positive)

pub comparison_wide_left : (w : ℕ) (a b c d : ℤ) (e : Wide) → IsNarrow w a b → IsNarrow w c d → Err e ≡ within w (left_of a b d) →
    Err (record {}) ≡ comparison_in w (over a b) (over c d)
comparison_wide_left w a b c d e s t h =
    two_wide_first w (left_of a b d) (right_of b c d) e (int_cmp (left_of a b d) (right_of b c d)) h ∙ comparison_due w a b c d s.reduced t.reduced

pub comparison_wide_right : (w : ℕ) (a b c d : ℤ) (e : Wide) → IsNarrow w a b → IsNarrow w c d → Err e ≡ within w (right_of b c d) →
    Err (record {}) ≡ comparison_in w (over a b) (over c d)
comparison_wide_right w a b c d e s t h =
    two_wide_second w (left_of a b d) (right_of b c d) e (int_cmp (left_of a b d) (right_of b c d)) h ∙ comparison_due w a b c d s.reduced t.reduced

pub comparison_exact : (w : ℕ) (a b c d k l : ℤ) (o : Ordering) → IsNarrow w a b → IsNarrow w c d → Ok k ≡ within w (left_of a b d) →
    Ok l ≡ within w (right_of b c d) → o ≡ int_cmp k l →
    Ok o ≡ comparison_in w (over a b) (over c d)
comparison_exact w a b c d k l o s t hk hl ho =
    let x : ℤ = left_of a b d in
    let y : ℤ = right_of b c d in
    ap Ok ho ∙ ap₂ (λ m n. Ok (int_cmp m n)) (within_ok w k x hk).1 (within_ok w l y hl).1 ∙ two_exact w x y k l (int_cmp x y) hk hl
    ∙ comparison_due w a b c d s.reduced t.reduced

-- over one denominator the numerators tell
pub comparison_alike : (w : ℕ) (a b c d : ℤ) → b ≡ d → IsNarrow w a b → IsNarrow w c d → Ok (int_cmp a c) ≡ comparison_in w (over a b) (over c d)
comparison_alike w a b c d same s t =
    subst (λ z. Ok (int_cmp a c) ≡ comparison_in w (over a b) (over c z)) same (one w a b c s (subst (IsNarrow w c) (sym same) t))
  where
    one : (w : ℕ) (a b c : ℤ) → IsNarrow w a b → IsNarrow w c b → Ok (int_cmp a c) ≡ comparison_in w (over a b) (over c b)
    one w a b c s t =
        let k = alike_numerators w a b c s t in
        comparison_exact w a b c b a c (int_cmp a c) s t k.0 k.1 refl
