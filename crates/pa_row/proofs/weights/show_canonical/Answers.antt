use Rattle.std.proofs.Common.{subst, arith}
use Rattle.pa_math.proofs.Items.{all_more, all_read}
use Rattle.pa_row.specs.Width.{IsCanonical}
use Rattle.pa_row.proofs.weights.show_canonical.Goals as goal

pub loop-w-preserved : goal.loop-w-preserved
loop-w-preserved c =
    all_more IsCanonical c.args.weights.now c.loop-w.w-index c.w-item.result (omega arith) c.w-item.is (subst IsCanonical c.w.view_is c.w.invariant)
    c.loop-w.invariant

pub returns : goal.returns
returns c = all_read IsCanonical c.args.weights.now c.loop-w.w-index (omega arith) c.loop-w.invariant
