use Rattle.std.proofs.Common.{length}
use Rattle.pa_tableau.specs.Work.{HasRoom}
use Rattle.solve_bench.proofs.solved.Given as goal

-- the work has room for the problem
abbrev pub invariant-loop : goal.invariant-loop
invariant-loop l = HasRoom (length l.problem.target) (length l.problem.rows) l.work
