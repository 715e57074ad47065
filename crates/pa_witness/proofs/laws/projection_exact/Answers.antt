use Rattle.pa_witness.proofs.Projection.{projection_exact}
use Rattle.pa_witness.proofs.laws.projection_exact.Goals as goal

pub returns : goal.returns
returns c = projection_exact
