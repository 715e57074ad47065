use Rattle.std.proofs.Common.{All, take}
use Rattle.pa_row.specs.Width.{IsNarrow}
use Rattle.pa_row.proofs.row.show_narrow.Given as goal

-- those that were read are narrow
abbrev pub invariant-loop-row : goal.invariant-loop-row
invariant-loop-row l = All IsNarrow (take l.row-index l.rows)
