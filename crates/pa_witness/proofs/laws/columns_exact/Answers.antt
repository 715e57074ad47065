use Rattle.pa_witness.proofs.ColumnSteps.{columns_exact}
use Rattle.pa_witness.proofs.laws.columns_exact.Goals as goal

pub returns : goal.returns
returns c = columns_exact
