use Rattle.pa_meaning.proofs.Moves.{point_is}
use Rattle.pa_witness.proofs.laws.points_are_behaviours.Goals as goal

pub returns : goal.returns
returns c = point_is
