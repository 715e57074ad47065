use Rattle.std.proofs.Common.{◌≡◌, ◌≤◌}
use Rattle.pa_tableau.specs.Work.{HasRoom}
use Rattle.pa_bland.proofs.tests.a_work_serves_many_problems.Given as goal

-- the work has room for the problems
abbrev pub invariant-loop-line : goal.invariant-loop-line
invariant-loop-line g l = record {
  room : HasRoom 3 7 l.work;
  next : (goal.iterator-loop-line g).can_next l.line-iterator;
  finite : (goal.iterator-loop-line g).is_finite l.line-iterator;
}
