use Rattle.pa_meaning.proofs.Directions.{stuck_is_broken}
use Rattle.pa_witness.proofs.laws.stuck_rows_are_broken.Goals as goal

pub returns : goal.returns
returns c = stuck_is_broken
