-- Each way out of the code, by the lemma on it: a number that is formed passes, or none does.
use Rattle.std.proofs.Common.{arith, rules, ◌*ℤ◌}
use Rattle.std.proofs.lemmas.Int.{to_z-of_z}
use mir.Syntax.{w128}
use mir.Val.{SFits}
use Rattle.pa_frac.proofs.Width.{answer_widest}
use Rattle.pa_frac.proofs.Sums.{sum_wide_left, sum_wide_right, sum_wide_den, formed_wide, formed_exact, formed_narrow}
use Rattle.pa_frac.proofs.arithmetic.sum_of.Goals as goal

pub returns-in_default : goal.returns-in_default
returns-in_default c =
    let a : SFits w128 c.args.left.num = search rules in
    let b : SFits w128 c.args.left.den = search rules in
    let n : SFits w128 c.args.right.num = search rules in
    let d : SFits w128 c.args.right.den = search rules in
    let p : SFits w128 c.split-dens.result.left = search rules in
    let q : SFits w128 c.split-dens.result.right = search rules in
    sum_wide_left c.args.width c.args.left.num c.args.left.den c.args.right.num c.args.right.den (record {}) c.requires.left c.requires.right
    (grind (arith, to_z-of_z))

pub returns-in_default-times : goal.returns-in_default-times
returns-in_default-times c =
    let a : SFits w128 c.args.left.num = search rules in
    let b : SFits w128 c.args.left.den = search rules in
    let n : SFits w128 c.args.right.num = search rules in
    let d : SFits w128 c.args.right.den = search rules in
    let p : SFits w128 c.split-dens.result.left = search rules in
    let q : SFits w128 c.split-dens.result.right = search rules in
    sum_wide_right c.args.width c.args.left.num c.args.left.den c.args.right.num c.args.right.den (record {}) c.requires.left c.requires.right
    (grind (arith, to_z-of_z))

pub returns-in_default-times-2 : goal.returns-in_default-times-2
returns-in_default-times-2 c =
    let a : SFits w128 c.args.left.num = search rules in
    let b : SFits w128 c.args.left.den = search rules in
    let n : SFits w128 c.args.right.num = search rules in
    let d : SFits w128 c.args.right.den = search rules in
    let p : SFits w128 c.split-dens.result.left = search rules in
    let q : SFits w128 c.split-dens.result.right = search rules in
    sum_wide_den c.args.width c.args.left.num c.args.left.den c.args.right.num c.args.right.den (record {}) c.requires.left c.requires.right
    (grind (arith, to_z-of_z))

pub plus-requires-clause-left : goal.plus-requires-clause-left
plus-requires-clause-left c =
    let a : SFits w128 c.args.left.num = search rules in
    let q : SFits w128 c.split-dens.result.right = search rules in
    let k : SFits w128 c.in-Ok.above = search rules in
    let h = answer_widest c.args.width 126 c.in-Ok.above (c.args.left.num *ℤ c.split-dens.result.right) c.requires.width (grind (arith, to_z-of_z))
    in grind (arith, to_z-of_z)

pub plus-requires-clause-right : goal.plus-requires-clause-right
plus-requires-clause-right c =
    let n : SFits w128 c.args.right.num = search rules in
    let p : SFits w128 c.split-dens.result.left = search rules in
    let l : SFits w128 c.in-Ok-times.below = search rules in
    let h = answer_widest c.args.width 126 c.in-Ok-times.below (c.args.right.num *ℤ c.split-dens.result.left) c.requires.width (grind (arith, to_z-of_z))
    in grind (arith, to_z-of_z)

pub returns-in_default-bounded : goal.returns-in_default-bounded
returns-in_default-bounded c =
    let a : SFits w128 c.args.left.num = search rules in
    let b : SFits w128 c.args.left.den = search rules in
    let n : SFits w128 c.args.right.num = search rules in
    let d : SFits w128 c.args.right.den = search rules in
    let p : SFits w128 c.split-dens.result.left = search rules in
    let q : SFits w128 c.split-dens.result.right = search rules in
    let g : SFits w128 c.split-dens.result.shared = search rules in
    let k : SFits w128 c.in-Ok.above = search rules in
    let l : SFits w128 c.in-Ok-times.below = search rules in
    let m : SFits w128 c.in-Ok-times-2.den = search rules in
    let x : SFits w128 c.plus.result = search rules in
    let u : SFits w128 c.split-sum.result.left = search rules in
    formed_wide c.args.width c.args.left.num c.args.left.den c.args.right.num c.args.right.den c.in-Ok.above c.in-Ok-times.below c.in-Ok-times-2.den
    c.plus.result (record {}) c.requires.left c.requires.right (grind (arith, to_z-of_z)) (grind (arith, to_z-of_z)) (grind (arith, to_z-of_z))
    (grind (arith, to_z-of_z)) (grind (arith, to_z-of_z))

pub returns : goal.returns
returns c =
    let a : SFits w128 c.args.left.num = search rules in
    let b : SFits w128 c.args.left.den = search rules in
    let n : SFits w128 c.args.right.num = search rules in
    let d : SFits w128 c.args.right.den = search rules in
    let p : SFits w128 c.split-dens.result.left = search rules in
    let q : SFits w128 c.split-dens.result.right = search rules in
    let g : SFits w128 c.split-dens.result.shared = search rules in
    let k : SFits w128 c.in-Ok.above = search rules in
    let l : SFits w128 c.in-Ok-times.below = search rules in
    let m : SFits w128 c.in-Ok-times-2.den = search rules in
    let x : SFits w128 c.plus.result = search rules in
    let u : SFits w128 c.split-sum.result.left = search rules in
    let v : SFits w128 c.split-sum.result.shared = search rules in
    let e : SFits w128 c.divided-den.result = search rules in
    let y : SFits w128 c.in-Ok-bounded.num = search rules in (
      formed_exact c.args.width c.args.left.num c.args.left.den c.args.right.num c.args.right.den c.in-Ok.above c.in-Ok-times.below c.in-Ok-times-2.den
          c.plus.result _ _ c.requires.left c.requires.right (grind (arith, to_z-of_z)) (grind (arith, to_z-of_z)) (grind (arith, to_z-of_z))
          (grind (arith, to_z-of_z)) (grind (arith, to_z-of_z)) (grind (arith, to_z-of_z)),
      formed_narrow c.args.width c.args.left.num c.args.left.den c.args.right.num c.args.right.den c.in-Ok.above c.in-Ok-times.below c.in-Ok-times-2.den
          c.plus.result _ _ c.requires.left c.requires.right (grind (arith, to_z-of_z)) (grind (arith, to_z-of_z)) (grind (arith, to_z-of_z))
          (grind (arith, to_z-of_z)) (grind (arith, to_z-of_z)) (grind (arith, to_z-of_z)),
    )
