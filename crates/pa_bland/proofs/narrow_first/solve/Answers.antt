use Rattle.std.proofs.Common.{Result, subst, lit≤}
use Rattle.pa_math.specs.Answers.{IsAnswer, seen_as}
use Rattle.pa_tableau.specs.Arithmetic.{at_width}
use Rattle.pa_bland.specs.declared.answer.Answer.{Answer}
use Rattle.pa_bland.specs.declared.answer.SolveError.{SolveError}
use Rattle.pa_bland.specs.declared.answer.SolveError.TheVariants as errors
use Rattle.pa_bland.specs.declared.narrow_first.Solved.{Solved}
use Rattle.pa_bland.specs.Answered.{solved_of}
use Rattle.pa_bland.proofs.Meant.{answer_seen, solved_wider}
use Rattle.pa_bland.proofs.narrow_first.solve.Goals as goal

pub returns-clause-exact : goal.returns-clause-exact
returns-clause-exact c =
    subst (λ (due : Result Answer SolveError). IsAnswer errors.Memory due (seen_as (λ (s : Solved). s.answer) c.solve_first.result))
    (solved_wider 62 126 c.args.problem.now c.args.most (lit≤ tt))
    (answer_seen errors.Memory (solved_of (at_width 62) (at_width 126) c.args.problem.now c.args.most) c.solve_first.result c.solve_first.ensures.exact)
