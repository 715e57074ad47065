use Rattle.pa_witness.proofs.Steps.{step_means}
use Rattle.pa_witness.proofs.laws.step_exact.Goals as goal

pub returns : goal.returns
returns c = step_means
