use Rattle.pa_frac.proofs.Zeros.{one_narrow}
use Rattle.pa_frac.proofs.fraction.Fraction.one.Goals as goal

pub from_lowest-requires : goal.from_lowest-requires
from_lowest-requires g c = one_narrow g.Self.Fraction.WIDTH g.met.Self.Fraction.least_width
