use Rattle.std.proofs.Common.{◌≤◌}
use Rattle.pa_engine.proofs.Turns.{IsAt}
use Rattle.pa_engine.proofs.report.put_answers.Given as goal

-- what is put so far and what the lines that are left add is the whole, and the output's count of faults has not fallen
abbrev pub invariant-loop-line : goal.invariant-loop-line
invariant-loop-line g l = record {
  at : IsAt (g.O.Sink.took l.initial.out) (g.O.Sink.took l.out) l.initial.table l.table l.lines l.line-index l.refused;
  later : g.O.Sink.faults l.initial.out ≤ g.O.Sink.faults l.out;
}
