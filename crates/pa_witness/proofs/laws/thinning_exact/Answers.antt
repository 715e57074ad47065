use Rattle.pa_witness.proofs.Projection.{thinned_met}
use Rattle.pa_witness.proofs.laws.thinning_exact.Goals as goal

pub returns : goal.returns
returns c = thinned_met
