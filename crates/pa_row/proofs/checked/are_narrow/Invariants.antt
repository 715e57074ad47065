use Rattle.std.proofs.Common.{All, take}
use Rattle.pa_row.specs.Width.{Fits}
use Rattle.pa_row.proofs.checked.are_narrow.Given as goal

-- those before are narrow
abbrev pub invariant-loop-n : goal.invariant-loop-n
invariant-loop-n l = All Fits (take l.n-index l.numbers)
