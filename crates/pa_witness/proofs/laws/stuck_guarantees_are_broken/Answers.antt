use Rattle.pa_meaning.proofs.StuckGuarantee.{guarantee_is_broken}
use Rattle.pa_witness.proofs.laws.stuck_guarantees_are_broken.Goals as goal

pub returns : goal.returns
returns c = guarantee_is_broken
