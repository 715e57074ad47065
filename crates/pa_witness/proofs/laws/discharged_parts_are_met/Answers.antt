use Rattle.pa_witness.proofs.Discharged.{discharged_parts_met}
use Rattle.pa_witness.proofs.laws.discharged_parts_are_met.Goals as goal

pub returns : goal.returns
returns c = discharged_parts_met
