use Rattle.std.proofs.Common.{◌≡◌, ◌∙◌, Ok, drop, sym, arith}
use lib.IntN.{ℤ}
use mir.Syntax.{w128}
use mir.Val.{to_z}
use Rattle.pa_row.specs.Sums.{dot_in}
use Rattle.pa_row.proofs.Dots.{dot_from_end, dot_in_exact, dot_in_fits}
use Rattle.pa_row.proofs.sums.dot.Goals as goal

pub returns-clause-truth : goal.returns-clause-truth
returns-clause-truth c =
    let answer : dot_in c.args.c.now c.args.p.now ≡ Ok (to_z w128 c.loop-i.sum-bits) =
    c.loop-i.invariant ∙ dot_from_end _ c.args.c.now (drop c.loop-i.i c.args.p.now) c.loop-i.i (omega arith) in
    dot_in_exact c.args.c.now c.args.p.now _ (sym answer)

pub returns-clause-narrow : goal.returns-clause-narrow
returns-clause-narrow c =
    let answer : dot_in c.args.c.now c.args.p.now ≡ Ok (to_z w128 c.loop-i.sum-bits) =
    c.loop-i.invariant ∙ dot_from_end _ c.args.c.now (drop c.loop-i.i c.args.p.now) c.loop-i.i (omega arith) in
    dot_in_fits c.args.c.now c.args.p.now _ (sym answer)
