-- What the numbers are exactly is what they mean.
use Rattle.pa_refine.proofs.Values.{numbers_meant}
use Rattle.pa_refine.proofs.best.goal_value.Goals as goal

pub returns-clause-meaning : goal.returns-clause-meaning
returns-clause-meaning c =
    numbers_meant c.args.asked.now c.args.least.now c.value_numbers.result c.requires.can.positive c.requires.positive c.value_numbers.ensures
