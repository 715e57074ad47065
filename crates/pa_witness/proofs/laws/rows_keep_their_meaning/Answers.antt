use Rattle.pa_meaning.proofs.PartRows.{Meets-over_names}
use Rattle.pa_witness.proofs.laws.rows_keep_their_meaning.Goals as goal

pub returns : goal.returns
returns c = Meets-over_names
