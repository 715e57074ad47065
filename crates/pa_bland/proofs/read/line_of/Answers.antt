use Rattle.std.proofs.Common.{◌∙◌, ◌==◌}
use Rattle.pa_replay.specs.Replay.{basic}
use Rattle.pa_bland.proofs.First.{first_skips, other_column}
use Rattle.pa_bland.proofs.read.line_of.Goals as goal

pub loop-line-preserved : goal.loop-line-preserved
loop-line-preserved g c =
    c.loop-line.invariant
    ∙ first_skips (λ k. basic c.args.work.now.table k == c.args.column) c.loop-line.line c.args.lines c.loop-line-test.true
    (other_column (basic c.args.work.now.table c.loop-line.line) c.basis.result c.args.column c.basis.ensures c.if-basis-column.false)
