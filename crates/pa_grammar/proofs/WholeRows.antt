-- The row of a vector of whole numbers: the least common multiple of the denominators is 1, so that the numbers stay.
use Rattle.std.proofs.Common.{◌≡◌, List, [], ◌∷◌, map, All, Result, Ok, refl, sym, ap, ◌∙◌, arith}
use Rattle.std.specs.Prelude.{ℤ, pos, ◌*ℤ◌, ◌<ℤ◌, int_div}
use Rattle.std.proofs.lemmas.Int.{ints}
use Rattle.std.proofs.lemmas.List.Elements.{All-nil, All-cons, All-head, All-tail}
use Rattle.pa_ring.proofs.Integers.{one-*ℤ}
use Rattle.pa_math.specs.Answers.{and_then}
use Rattle.pa_math.specs.Divisors.{lcm_ℤ}
use Rattle.pa_math.specs.Rational.{ℚ}
use Rattle.pa_math.proofs.CommonMultiples.{lcm_ℤ_product}
use Rattle.pa_math.proofs.Divisors.{quotient_by_one}
use Rattle.pa_frac.specs.declared.wide.Wide.{Wide}
use Rattle.pa_frac.specs.Width.{within}
use Rattle.pa_frac.proofs.Lowest.{shared_with_one}
use Rattle.pa_frac.proofs.Width.{within_fits}
use Rattle.pa_meaning.specs.Rows.{Row, primitive}
use Rattle.pa_row.specs.Fractions.{IsFraction, common_from, over_common}
use Rattle.pa_row.specs.Width.{Fits}
use Rattle.pa_grammar.specs.Values.{parts_of, row_of, row_with}

-- whole numbers as numerators and denominators
abbrev pub wholes : List ℤ → List (ℤ × ℤ)
wholes ns = map (λ n. (n, pos 1)) ns

lcm_one : lcm_ℤ (pos 1) (pos 1) ≡ pos 1
lcm_one =
    let up : pos 0 <ℤ pos 1 = omega (arith, ints) in
    sym (one-*ℤ (lcm_ℤ (pos 1) (pos 1))) ∙ sym (ap (λ g. g *ℤ lcm_ℤ (pos 1) (pos 1)) (shared_with_one (pos 1)))
    ∙ lcm_ℤ_product (pos 1) (pos 1) up up

one_multiple : within 126 (lcm_ℤ (pos 1) (pos 1)) ≡ Ok (pos 1)
one_multiple = ap (within 126) lcm_one

common_one : (ns : List ℤ) → common_from (pos 1) (wholes ns) ≡ Ok (pos 1)
common_one [] = refl
common_one (n ∷ ns) = ap (λ (t : Result ℤ Wide). and_then t (λ next. common_from next (wholes ns))) one_multiple ∙ common_one ns

times_one : (n m : ℤ) → m ≡ pos 1 → n *ℤ m ≡ n
times_one n m is = ap (λ z. n *ℤ z) is ∙ (let e : n *ℤ pos 1 ≡ n = omega (arith, ints) in e)

kept : (n : ℤ) → Fits n → within 126 (n *ℤ int_div (pos 1) (pos 1)) ≡ Ok n
kept n fit = ap (within 126) (times_one n (int_div (pos 1) (pos 1)) (quotient_by_one (pos 1))) ∙ sym (within_fits 126 n fit)

over_one : (ns : List ℤ) → All Fits ns → over_common (pos 1) (wholes ns) ≡ Ok ns
over_one [] all = refl
over_one (n ∷ ns) all =
    ap (λ (t : Result ℤ Wide). and_then t (λ m. and_then (over_common (pos 1) (wholes ns)) (λ ms. Ok (m ∷ ms)))) (kept n (All-head Fits n ns all))
    ∙ ap (λ (t : Result (List ℤ) Wide). and_then t (λ ms. Ok (n ∷ ms))) (over_one ns (All-tail Fits n ns all))

-- their numerators are within 126 bits
pub wholes_fit : (ns : List ℤ) → All IsFraction (wholes ns) → All Fits ns
wholes_fit [] all = All-nil Fits
wholes_fit (n ∷ ns) all =
    All-cons Fits n ns (All-head IsFraction (n, pos 1) (wholes ns) all).numerator (wholes_fit ns (All-tail IsFraction (n, pos 1) (wholes ns) all))

pub whole_row : (v : List ℚ) (ns : List ℤ) → map parts_of v ≡ wholes ns → All Fits ns → row_of v ≡ Ok (primitive (row_with ns))
whole_row v ns are fit =
    ap (λ fs. and_then (common_from (pos 1) fs) (λ q. and_then (over_common q fs) made)) are
    ∙ ap (λ (t : Result ℤ Wide). and_then t (λ q. and_then (over_common q (wholes ns)) made)) (common_one ns)
    ∙ ap (λ (t : Result (List ℤ) Wide). and_then t made) (over_one ns fit)
  where
    made : List ℤ → Result Row Wide
    made ms = Ok (primitive (row_with ms))
