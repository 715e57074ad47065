use Rattle.pa_holds.proofs.Tables.{report_is_true}
use Rattle.pa_holds.proofs.laws.report_is_true.Goals as goal

pub returns : goal.returns
returns c = report_is_true
