use Rattle.std.proofs.Common.{All}
use Rattle.pa_row.specs.Width.{Fits}
use Rattle.pa_contract.proofs.tests.row_of_one.Given as goal

-- the coefficients so far are small
abbrev pub invariant-loop : goal.invariant-loop
invariant-loop g l = All Fits l.c.items
