use Rattle.pa_compose.specs.Composing.{composed_of}
use Rattle.pa_answers.proofs.Compositions.{compose_answered}
use Rattle.pa_answers.proofs.composing.composed.Goals as goal

pub returns : goal.returns
returns c = compose_answered c.args.parts.now (composed_of c.args.parts.now c.args.keep.now c.args.nominal.now c.args.limits.rows c.args.limits.pivots)
    c.compose-outcome.result c.compose-outcome.ensures.answer c.told.result c.told.ensures.answer c.told.ensures.settled
