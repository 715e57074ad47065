use Rattle.pa_holds.proofs.WellFormed.{printed_is_well_formed}
use Rattle.pa_holds.proofs.laws.printed_is_well_formed.Goals as goal

pub returns : goal.returns
returns c = printed_is_well_formed
