-- Where the row has coefficients their divisor is positive, so the bound is taken over it.
use Rattle.std.proofs.Common.{◌≡◌, ◌∙◌, ◌∷◌, ap, ap₂, pos, rules, arith, subst, sym}
use mir.Syntax.{w128}
use mir.Val.{to_z, of_z}
use lib.Signed.{◌<ℤ◌}
use Rattle.std.proofs.lemmas.Int.{to_z-of_z, ints}
use Rattle.pa_math.specs.Divisors.{gcd_all}
use Rattle.pa_math.specs.Rational.{over}
use Rattle.pa_meaning.specs.Rows.{Row}
use Rattle.pa_fourier.proofs.Bounds.{divisor_positive, divisor_behind_zero}
use Rattle.pa_fourier.proofs.bound.bound_of.Goals as goal

pub returns-then-divisor-gt0 : goal.returns-then-divisor-gt0
returns-then-divisor-gt0 c solid =
    let is : c.divisor_of_all-divisor.result ≡ gcd_all c.args.row.now.c = c.divisor_of_all-divisor.ensures.value
    ∙ ap (λ t. gcd_all (pos 0 ∷ t)) c.deref.ensures.value
    ∙ ap (λ (r : Row). gcd_all (pos 0 ∷ r.c)) c.row.view_is ∙ divisor_behind_zero c.args.row.now.c in
    let same : to_z w128 (of_z w128 c.divisor_of_all-divisor.result) ≡ c.divisor_of_all-divisor.result = search (rules, ints, to_z-of_z) in
    let b : to_z w128 (of_z w128 c.row.inside.b) ≡ c.row.inside.b = search (rules, ints, to_z-of_z) in
    c.fraction_of.ensures ∙ ap₂ over (b ∙ ap (λ (r : Row). r.b) c.row.view_is) (same ∙ is)

pub returns-else-divisor-gt0 : goal.returns-else-divisor-gt0
returns-else-divisor-gt0 c solid =
    let is : c.divisor_of_all-divisor.result ≡ gcd_all (pos 0 ∷ c.args.row.now.c) = c.divisor_of_all-divisor.ensures.value
    ∙ ap (λ t. gcd_all (pos 0 ∷ t)) c.deref.ensures.value
    ∙ ap (λ (r : Row). gcd_all (pos 0 ∷ r.c)) c.row.view_is in
    let up : pos 0 <ℤ c.divisor_of_all-divisor.result = subst (λ t. pos 0 <ℤ t) (sym is) (divisor_positive c.args.row.now solid) in
    absurd (omega (arith, ints, c.if-divisor-gt0.false))
