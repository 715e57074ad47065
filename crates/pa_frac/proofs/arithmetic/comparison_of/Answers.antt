-- Each way out of the code, by the lemma on it: one denominator, a number that passes, or none.
use Rattle.std.proofs.Common.{arith, rules, ap, ◌∙◌, Ok}
use Rattle.std.proofs.lemmas.Int.{to_z-of_z}
use mir.Syntax.{w128}
use mir.Val.{SFits}
use Rattle.std.proofs.lemmas.Int.{ints}
use Rattle.pa_frac.proofs.Comparisons.{comparison_wide_left, comparison_wide_right, comparison_exact, comparison_alike}
use Rattle.pa_frac.proofs.arithmetic.comparison_of.Goals as goal

pub returns-then-left-right : goal.returns-then-left-right
returns-then-left-right c =
    let b : SFits w128 c.args.left.den = search rules in
    let d : SFits w128 c.args.right.den = search rules in
    ap Ok c.cmp.ensures ∙ comparison_alike c.args.width c.args.left.num c.args.left.den c.args.right.num c.args.right.den (omega (arith, ints))
    c.requires.left c.requires.right

pub returns-in_default : goal.returns-in_default
returns-in_default c =
    let a : SFits w128 c.args.left.num = search rules in
    let b : SFits w128 c.args.left.den = search rules in
    let n : SFits w128 c.args.right.num = search rules in
    let d : SFits w128 c.args.right.den = search rules in
    let p : SFits w128 c.split-dens.result.left = search rules in
    let q : SFits w128 c.split-dens.result.right = search rules in
    comparison_wide_left c.args.width c.args.left.num c.args.left.den c.args.right.num c.args.right.den (record {}) c.requires.left c.requires.right
    (grind (arith, to_z-of_z))

pub returns-in_default-times : goal.returns-in_default-times
returns-in_default-times c =
    let a : SFits w128 c.args.left.num = search rules in
    let b : SFits w128 c.args.left.den = search rules in
    let n : SFits w128 c.args.right.num = search rules in
    let d : SFits w128 c.args.right.den = search rules in
    let p : SFits w128 c.split-dens.result.left = search rules in
    let q : SFits w128 c.split-dens.result.right = search rules in
    comparison_wide_right c.args.width c.args.left.num c.args.left.den c.args.right.num c.args.right.den (record {}) c.requires.left c.requires.right
    (grind (arith, to_z-of_z))

pub returns : goal.returns
returns c =
    let a : SFits w128 c.args.left.num = search rules in
    let b : SFits w128 c.args.left.den = search rules in
    let n : SFits w128 c.args.right.num = search rules in
    let d : SFits w128 c.args.right.den = search rules in
    let p : SFits w128 c.split-dens.result.left = search rules in
    let q : SFits w128 c.split-dens.result.right = search rules in
    let k : SFits w128 c.in-Ok.above = search rules in
    let l : SFits w128 c.in-Ok-times.below = search rules in
    comparison_exact c.args.width c.args.left.num c.args.left.den c.args.right.num c.args.right.den c.in-Ok.above c.in-Ok-times.below _ c.requires.left
    c.requires.right (grind (arith, to_z-of_z)) (grind (arith, to_z-of_z)) (grind (arith, to_z-of_z))
