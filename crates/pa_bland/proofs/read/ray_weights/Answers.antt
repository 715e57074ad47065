use Rattle.std.proofs.Common.{List, subst, sym}
use Rattle.pa_row.specs.Fractions.{AreWeights, WeightPart}
use Rattle.pa_replay.specs.Readings.{IsAscending}
use Rattle.pa_replay.proofs.ReadWeights.{are_weights}
use Rattle.pa_bland.proofs.read.ray_weights.Goals as goal

pub weights_of-requires : goal.weights_of-requires
weights_of-requires g c =
    subst (λ (parts : List WeightPart). AreWeights parts) (sym c.deref.ensures.value) (are_weights 0 c.args.rows c.in-Ok.parts.items
    (subst (λ (parts : List WeightPart). IsAscending 0 c.args.rows parts) (sym c.in-Ok.ensures.exact) c.requires.ascending) c.in-Ok.ensures.fractions)
