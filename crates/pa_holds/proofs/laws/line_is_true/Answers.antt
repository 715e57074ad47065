use Rattle.pa_holds.proofs.Tables.{line_is_true}
use Rattle.pa_holds.proofs.laws.line_is_true.Goals as goal

pub returns : goal.returns
returns c = line_is_true
