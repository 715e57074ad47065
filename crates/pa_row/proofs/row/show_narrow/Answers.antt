use Rattle.std.proofs.Common.{subst, arith}
use Rattle.pa_math.proofs.Items.{all_more, all_read}
use Rattle.pa_row.specs.Width.{IsNarrow}
use Rattle.pa_row.proofs.row.show_narrow.Goals as goal

pub loop-row-preserved : goal.loop-row-preserved
loop-row-preserved c =
    all_more IsNarrow c.args.rows.now c.loop-row.row-index c.row-item.result (omega arith) c.row-item.is (subst IsNarrow c.row.view_is c.row.invariant)
    c.loop-row.invariant

pub returns : goal.returns
returns c = all_read IsNarrow c.args.rows.now c.loop-row.row-index (omega arith) c.loop-row.invariant
