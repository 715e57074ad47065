use Rattle.pa_meaning.proofs.Directions.{circle_is_final}
use Rattle.pa_witness.proofs.laws.circles_stay.Goals as goal

pub returns : goal.returns
returns c = circle_is_final
