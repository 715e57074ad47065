use Rattle.std.proofs.Common.{All, take}
use Rattle.pa_row.specs.Width.{IsNarrowPoint}
use Rattle.pa_row.proofs.point.show_narrow_points.Given as goal

-- those that were read are narrow
abbrev pub invariant-loop-point : goal.invariant-loop-point
invariant-loop-point l = All IsNarrowPoint (take l.point-index l.points)
