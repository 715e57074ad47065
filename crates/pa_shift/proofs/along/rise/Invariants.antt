use Rattle.std.proofs.Common.{◌≡◌, drop}
use Rattle.pa_shift.specs.Shifting.{rise_in}
use Rattle.pa_shift.proofs.along.rise.Given as goal

-- what the others give is what all give
abbrev pub invariant-loop-row : goal.invariant-loop-row
invariant-loop-row l = rise_in l.direction l.target l.rows ≡ rise_in l.direction l.target (drop l.row-index l.rows)
