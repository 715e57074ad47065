-- Each way out of the code, by the lemma on it: a number of the two passes, or neither does.
use Rattle.std.proofs.Common.{arith, rules}
use Rattle.std.proofs.lemmas.Int.{to_z-of_z}
use mir.Syntax.{w128}
use mir.Val.{SFits}
use Rattle.pa_frac.proofs.Lowest.{fraction_wide_num, fraction_wide_den, fraction_exact, fraction_narrow}
use Rattle.pa_frac.proofs.arithmetic.fraction_of.Goals as goal

pub returns-in_default : goal.returns-in_default
returns-in_default c =
    let left : SFits w128 c.split-parts.result.left = search rules in
    let right : SFits w128 c.split-parts.result.right = search rules in
    fraction_wide_num c.args.width c.args.num c.args.den (record {}) c.requires.positive (grind (arith, to_z-of_z))

pub returns-in_default-bounded : goal.returns-in_default-bounded
returns-in_default-bounded c =
    let left : SFits w128 c.split-parts.result.left = search rules in
    let right : SFits w128 c.split-parts.result.right = search rules in
    fraction_wide_den c.args.width c.args.num c.args.den (record {}) c.requires.positive (grind (arith, to_z-of_z))

pub returns : goal.returns
returns c =
    let left : SFits w128 c.split-parts.result.left = search rules in
    let right : SFits w128 c.split-parts.result.right = search rules in
    let num : SFits w128 c.in-Ok.num = search rules in
    let den : SFits w128 c.in-Ok-bounded.den = search rules in (
      fraction_exact c.args.width c.args.num c.args.den _ _ c.requires.positive (grind (arith, to_z-of_z)) (grind (arith, to_z-of_z)),
      fraction_narrow c.args.width c.args.num c.args.den _ _ c.requires.positive (grind (arith, to_z-of_z)) (grind (arith, to_z-of_z)),
    )
