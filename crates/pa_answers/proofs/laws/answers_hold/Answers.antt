use Rattle.pa_answers.proofs.Truths.{answers_hold}
use Rattle.pa_answers.proofs.laws.answers_hold.Goals as goal

pub returns : goal.returns
returns c = answers_hold
