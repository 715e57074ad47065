use Rattle.pa_quotient.specs.Dividing.{divided_of}
use Rattle.pa_answers.proofs.Quotients.{have_outputs, quotient_answered}
use Rattle.pa_answers.proofs.dividing.divided.Goals as goal

-- a direction that is told has a number for each output of the part
pub told-requires : goal.told-requires
told-requires c = have_outputs c.args.whole.now c.args.part.now c.quotient-outcome.result c.quotient-outcome.ensures.refusals

pub returns : goal.returns
returns c = quotient_answered c.args.part.now (divided_of c.args.whole.now c.args.part.now c.args.nominal.now c.args.limits.pivots)
    c.quotient-outcome.result c.quotient-outcome.ensures.answer c.told.result c.told.ensures.answer c.told.ensures.settled
