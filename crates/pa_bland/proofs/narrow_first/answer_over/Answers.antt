use Rattle.std.proofs.Common.{subst}
use Rattle.pa_math.specs.Answers.{IsAnswer}
use Rattle.pa_tableau.specs.Arithmetic.{at_width}
use Rattle.pa_replay.specs.Problem.{Problem}
use Rattle.pa_bland.specs.declared.answer.SolveError.TheVariants as SolveError
use Rattle.pa_bland.specs.Answered.{answer_of}
use Rattle.pa_bland.proofs.narrow_first.answer_over.Goals as goal

pub returns-clause-exact : goal.returns-clause-exact
returns-clause-exact g c =
    subst (λ (p : Problem). IsAnswer SolveError.Memory (answer_of (at_width g.F.Fraction.WIDTH) p c.args.most) c.solve_answer.result) c.lend.ensures
    c.solve_answer.ensures.exact
