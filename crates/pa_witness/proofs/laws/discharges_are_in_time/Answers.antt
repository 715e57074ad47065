use Rattle.pa_witness.proofs.Discharged.{in_time}
use Rattle.pa_witness.proofs.laws.discharges_are_in_time.Goals as goal

pub returns : goal.returns
returns c = in_time
