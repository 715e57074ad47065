-- The reciprocal by the sign of the fraction: the negation of a number that fits is exact.
use Rattle.std.proofs.Common.{◌≡◌, ap₂, ◌∙◌, arith, rules}
use Rattle.std.proofs.lemmas.Int.{ints, to_z-of_z}
use mir.Syntax.{w128}
use mir.Val.{SFits, to_z, of_z}
use lib.IntN.{ℤ, pos, ◌-ℤ◌, neg_ℤ}
use lib.Signed.{◌<ℤ◌}
use Rattle.pa_math.specs.Rational.{over}
use Rattle.pa_frac.specs.Width.{Fits}
use Rattle.pa_frac.proofs.Quotients.{reciprocal_narrow, reciprocal_narrow_negative, reciprocal_is, reciprocal_is_negative, positive_num}
use Rattle.pa_frac.proofs.arithmetic.reciprocal_of.Goals as goal

negated : (z : ℤ) → SFits w128 z → Fits 126 z → to_z w128 (of_z w128 (pos 0 -ℤ to_z w128 (of_z w128 z))) ≡ neg_ℤ z
negated z s h = omega (arith, ints)

pub returns-then-terms-lt0-clause-value : goal.returns-then-terms-lt0-clause-value
returns-then-terms-lt0-clause-value c =
    let a : SFits w128 c.args.terms.num = search rules in
    let below : c.args.terms.num <ℤ pos 0 = omega (arith, ints) in
    ap₂ over (negated c.args.terms.den (search rules) c.requires.narrow.den_fits) (negated c.args.terms.num a c.requires.narrow.num_fits)
    ∙ reciprocal_is_negative 126 c.args.terms.num c.args.terms.den c.requires.narrow below

pub returns-then-terms-lt0-clause-narrow : goal.returns-then-terms-lt0-clause-narrow
returns-then-terms-lt0-clause-narrow c w s =
    let a : SFits w128 c.args.terms.num = search rules in
    let below : c.args.terms.num <ℤ pos 0 = omega (arith, ints) in
    rw (negated c.args.terms.den (search rules) c.requires.narrow.den_fits, negated c.args.terms.num a c.requires.narrow.num_fits)
    (reciprocal_narrow_negative w c.args.terms.num c.args.terms.den s below)

pub returns-clause-value : goal.returns-clause-value
returns-clause-value c =
    let a : SFits w128 c.args.terms.num = search rules in
    let b : SFits w128 c.args.terms.den = search rules in
    simp to_z-of_z (reciprocal_is 126 c.args.terms.num c.args.terms.den c.requires.narrow
    (positive_num 126 c.args.terms.num c.args.terms.den c.requires.narrow c.requires.nonzero (λ t. absurd (omega (arith, ints)))))

pub returns-clause-narrow : goal.returns-clause-narrow
returns-clause-narrow c w s =
    let a : SFits w128 c.args.terms.num = search rules in
    let b : SFits w128 c.args.terms.den = search rules in
    simp to_z-of_z (reciprocal_narrow w c.args.terms.num c.args.terms.den s
    (positive_num 126 c.args.terms.num c.args.terms.den c.requires.narrow c.requires.nonzero (λ t. absurd (omega (arith, ints)))))
