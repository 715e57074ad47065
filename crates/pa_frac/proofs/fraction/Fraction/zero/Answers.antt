use Rattle.pa_frac.proofs.Zeros.{zero_narrow}
use Rattle.pa_frac.proofs.fraction.Fraction.zero.Goals as goal

pub from_lowest-requires : goal.from_lowest-requires
from_lowest-requires g c = zero_narrow g.Self.Fraction.WIDTH g.met.Self.Fraction.least_width
