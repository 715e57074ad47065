-- Each way out of the code, by the lemma on it: the sum's numerator passes, or it does not.
use Rattle.std.proofs.Common.{arith, rules}
use Rattle.std.proofs.lemmas.Int.{to_z-of_z}
use mir.Syntax.{w128}
use mir.Val.{SFits}
use Rattle.pa_frac.proofs.Width.{fits_widest}
use Rattle.pa_frac.proofs.Sums.{alike_wide, alike_exact, alike_narrow}
use Rattle.pa_frac.proofs.arithmetic.sum_alike.Goals as goal

pub plus-requires-clause-left : goal.plus-requires-clause-left
plus-requires-clause-left c =
    let a : SFits w128 c.args.left.num = search rules in
    let h = fits_widest c.args.width 126 c.args.left.num c.requires.width c.requires.left.num_fits in grind (arith, to_z-of_z)

pub plus-requires-clause-right : goal.plus-requires-clause-right
plus-requires-clause-right c =
    let n : SFits w128 c.args.right.num = search rules in
    let h = fits_widest c.args.width 126 c.args.right.num c.requires.width c.requires.right.num_fits in grind (arith, to_z-of_z)

pub returns-in_default : goal.returns-in_default
returns-in_default c =
    let a : SFits w128 c.args.left.num = search rules in
    let b : SFits w128 c.args.left.den = search rules in
    let n : SFits w128 c.args.right.num = search rules in
    let d : SFits w128 c.args.right.den = search rules in
    let p : SFits w128 c.split-sum.result.left = search rules in
    let q : SFits w128 c.split-sum.result.right = search rules in
    let x : SFits w128 c.plus.result = search rules in
    alike_wide c.args.width c.args.left.num c.args.left.den c.args.right.num c.args.right.den (record {}) c.requires.alike c.requires.left c.requires.right
    (grind (arith, to_z-of_z))

pub returns : goal.returns
returns c =
    let a : SFits w128 c.args.left.num = search rules in
    let b : SFits w128 c.args.left.den = search rules in
    let n : SFits w128 c.args.right.num = search rules in
    let d : SFits w128 c.args.right.den = search rules in
    let p : SFits w128 c.split-sum.result.left = search rules in
    let q : SFits w128 c.split-sum.result.right = search rules in
    let x : SFits w128 c.plus.result = search rules in
    let num : SFits w128 c.in-Ok.num = search rules in (
      alike_exact c.args.width c.args.left.num c.args.left.den c.args.right.num c.args.right.den _ _ c.requires.alike c.requires.left c.requires.right
          (grind (arith, to_z-of_z)) (grind (arith, to_z-of_z)),
      alike_narrow c.args.width c.args.left.num c.args.left.den c.args.right.num c.args.right.den _ _ c.requires.alike c.requires.left c.requires.right
          (grind (arith, to_z-of_z)) (grind (arith, to_z-of_z)),
    )
