use Rattle.pa_meaning.proofs.Farkas.{Meets-proved}
use Rattle.pa_witness.proofs.laws.proved_rows_are_met.Goals as goal

pub returns : goal.returns
returns c = Meets-proved
