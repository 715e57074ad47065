use Rattle.pa_answers.proofs.Questions.{refine_answered}
use Rattle.pa_answers.proofs.refining.refined.Goals as goal

pub returns : goal.returns
returns c = refine_answered c.args.left.now c.args.right.now c.args.limits.pivots c.refine-outcome.result c.refine-outcome.ensures.answer
    c.told.result c.told.ensures.answer c.told.ensures.settled
