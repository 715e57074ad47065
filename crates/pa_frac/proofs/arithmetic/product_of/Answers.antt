-- Each way out of the code, by the lemma on it: a number of the product passes, or neither does.
use Rattle.std.proofs.Common.{arith, rules}
use Rattle.std.proofs.lemmas.Int.{to_z-of_z}
use mir.Syntax.{w128}
use mir.Val.{SFits}
use Rattle.pa_frac.proofs.Products.{product_wide_num, product_wide_den, product_exact, product_narrow}
use Rattle.pa_frac.proofs.arithmetic.product_of.Goals as goal

pub returns-in_default : goal.returns-in_default
returns-in_default c =
    let a : SFits w128 c.args.left.num = search rules in
    let b : SFits w128 c.args.left.den = search rules in
    let n : SFits w128 c.args.right.num = search rules in
    let d : SFits w128 c.args.right.den = search rules in
    let p : SFits w128 c.split-falling.result.left = search rules in
    let q : SFits w128 c.split-rising.result.left = search rules in
    product_wide_num c.args.width c.args.left.num c.args.left.den c.args.right.num c.args.right.den (record {}) c.requires.left c.requires.right
    (grind (arith, to_z-of_z))

pub returns-in_default-times : goal.returns-in_default-times
returns-in_default-times c =
    let a : SFits w128 c.args.left.num = search rules in
    let b : SFits w128 c.args.left.den = search rules in
    let n : SFits w128 c.args.right.num = search rules in
    let d : SFits w128 c.args.right.den = search rules in
    let above : SFits w128 c.split-falling.result.right = search rules in
    let below : SFits w128 c.split-rising.result.right = search rules in
    product_wide_den c.args.width c.args.left.num c.args.left.den c.args.right.num c.args.right.den (record {}) c.requires.left c.requires.right
    (grind (arith, to_z-of_z))

pub returns : goal.returns
returns c =
    let a : SFits w128 c.args.left.num = search rules in
    let b : SFits w128 c.args.left.den = search rules in
    let n : SFits w128 c.args.right.num = search rules in
    let d : SFits w128 c.args.right.den = search rules in
    let p : SFits w128 c.split-falling.result.left = search rules in
    let q : SFits w128 c.split-rising.result.left = search rules in
    let above : SFits w128 c.split-falling.result.right = search rules in
    let below : SFits w128 c.split-rising.result.right = search rules in
    let num : SFits w128 c.in-Ok.num = search rules in
    let den : SFits w128 c.in-Ok-times.den = search rules in (
      product_exact c.args.width c.args.left.num c.args.left.den c.args.right.num c.args.right.den _ _ c.requires.left c.requires.right
          (grind (arith, to_z-of_z)) (grind (arith, to_z-of_z)),
      product_narrow c.args.width c.args.left.num c.args.left.den c.args.right.num c.args.right.den _ _ c.requires.left c.requires.right
          (grind (arith, to_z-of_z)) (grind (arith, to_z-of_z)),
    )
