use Rattle.std.proofs.Common.{subst, arith}
use Rattle.pa_math.proofs.Items.{all_more, all_read}
use Rattle.pa_row.specs.Width.{IsNarrowPoint}
use Rattle.pa_row.proofs.point.show_narrow_points.Goals as goal

pub loop-point-preserved : goal.loop-point-preserved
loop-point-preserved c =
    all_more IsNarrowPoint c.args.points.now c.loop-point.point-index c.point-item.result (omega arith) c.point-item.is
    (subst IsNarrowPoint c.point.view_is c.point.invariant) c.loop-point.invariant

pub returns : goal.returns
returns c = all_read IsNarrowPoint c.args.points.now c.loop-point.point-index (omega arith) c.loop-point.invariant
