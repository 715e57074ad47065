use Rattle.std.proofs.Common.{◌≡◌, drop}
use Rattle.pa_farkas.specs.Answered.{tested_in}
use Rattle.pa_farkas.proofs.Turns.{tested_on}
use Rattle.pa_farkas.proofs.checked.tested.Given as goal

-- the rows so far and the others tell what all tell
abbrev pub invariant-loop-row : goal.invariant-loop-row
invariant-loop-row l = tested_in l.at l.rows ≡ tested_on l.all_met (tested_in l.at (drop l.row-index l.rows))
