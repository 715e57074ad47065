use Rattle.std.proofs.Common.{◌≡◌, ◌==◌}
use Rattle.pa_replay.specs.Readings.{line_of}
use Rattle.pa_replay.specs.Replay.{basic}
use Rattle.pa_bland.proofs.First.{first_up_to}
use Rattle.pa_bland.proofs.read.line_of.Given as goal

abbrev pub invariant-loop-line : goal.invariant-loop-line
invariant-loop-line g l = line_of l.lines l.work.table l.column ≡ first_up_to (λ k. basic l.work.table k == l.column) l.line l.lines
