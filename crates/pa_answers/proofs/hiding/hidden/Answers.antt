use Rattle.pa_answers.proofs.Questions.{hide_answered}
use Rattle.pa_answers.proofs.hiding.hidden.Goals as goal

pub returns : goal.returns
returns c = hide_answered c.args.contract.now c.args.names.now c.args.limits.rows c.args.limits.pivots c.hide.result c.hide.ensures.answer
    c.told.result c.told.ensures.answer c.told.ensures.settled
