use Rattle.pa_holds.proofs.Answers.{printed_is_true}
use Rattle.pa_holds.proofs.laws.printed_is_true.Goals as goal

pub returns : goal.returns
returns c = printed_is_true
