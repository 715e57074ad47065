use Rattle.pa_answers.proofs.Truths.{answers_true}
use Rattle.pa_answers.proofs.laws.answers_are_true.Goals as goal

pub returns : goal.returns
returns c = answers_true
