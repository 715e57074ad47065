use Rattle.std.proofs.Common.{take}
use Rattle.pa_elim.specs.Meant.{AreColumns}
use Rattle.pa_elim.proofs.tests.are_columns.Given as goal

-- those so far are different columns
abbrev pub invariant-loop-i : goal.invariant-loop-i
invariant-loop-i l = AreColumns l.columns (take l.i l.places)
