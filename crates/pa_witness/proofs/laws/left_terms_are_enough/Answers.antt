use Rattle.pa_meaning.proofs.Shifting.{Meets-shifted}
use Rattle.pa_witness.proofs.laws.left_terms_are_enough.Goals as goal

pub returns : goal.returns
returns c = Meets-shifted
