use Rattle.pa_answers.proofs.Questions.{bound_answered, bound_columns}
use Rattle.pa_answers.proofs.bounding.bounded.Goals as goal

pub told-requires : goal.told-requires
told-requires c = bound_columns c.args.contract.now c.args.goal.now c.args.least c.bound-outcome.result c.bound-outcome.ensures.printed

pub returns : goal.returns
returns c = bound_answered c.args.contract.now c.args.goal.now c.args.least c.args.limits.pivots c.bound-outcome.result c.bound-outcome.ensures.answer
    c.told.result c.told.ensures.answer c.told.ensures.settled
