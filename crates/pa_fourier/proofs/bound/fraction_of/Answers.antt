-- A fraction of two narrow numbers is never Wide.
use Rattle.std.proofs.Common.{◌≡◌, ◌∙◌, ap₂, rules}
use mir.Syntax.{w128}
use mir.Val.{to_z, of_z}
use Rattle.std.proofs.lemmas.Int.{to_z-of_z, ints}
use Rattle.pa_math.specs.Rational.{over}
use Rattle.pa_frac.specs.Operations.{fraction_in}
use Rattle.pa_fourier.proofs.Bounds.{fraction_fits, never_wide, value_is}
use Rattle.pa_fourier.proofs.bound.fraction_of.Goals as goal

pub unreachable-requires : goal.unreachable-requires
unreachable-requires c =
    let n : to_z w128 (of_z w128 c.args.num) ≡ c.args.num = search (rules, ints, to_z-of_z) in
    let d : to_z w128 (of_z w128 c.args.den) ≡ c.args.den = search (rules, ints, to_z-of_z) in
    never_wide c.args.num c.args.den _ _ (c.in-Err.ensures ∙ ap₂ (λ n d. fraction_in 126 (over n d)) n d)
    (fraction_fits c.args.num c.args.den c.requires.positive c.requires.num c.requires.den)

pub returns : goal.returns
returns c =
    let n : to_z w128 (of_z w128 c.args.num) ≡ c.args.num = search (rules, ints, to_z-of_z) in
    let d : to_z w128 (of_z w128 c.args.den) ≡ c.args.den = search (rules, ints, to_z-of_z) in
    value_is _ _ _ (c.in-Ok.ensures ∙ ap₂ (λ n d. fraction_in 126 (over n d)) n d)
    (fraction_fits c.args.num c.args.den c.requires.positive c.requires.num c.requires.den)
