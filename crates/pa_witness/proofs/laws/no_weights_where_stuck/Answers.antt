use Rattle.pa_meaning.proofs.Directions.{stuck_without_weights}
use Rattle.pa_witness.proofs.laws.no_weights_where_stuck.Goals as goal

pub returns : goal.returns
returns c = stuck_without_weights
