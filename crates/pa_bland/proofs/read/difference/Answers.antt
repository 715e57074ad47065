use Rattle.pa_frac.proofs.Lowest.{narrow_widest}
use Rattle.pa_bland.proofs.read.difference.Goals as goal

-- a fraction of a lesser width is one of 126 bits
pub from_lowest-number-requires : goal.from_lowest-number-requires
from_lowest-number-requires g c =
    narrow_widest g.F.Fraction.WIDTH 126 c.lowest.result.num c.lowest.result.den c.lowest.ensures.narrow g.met.F.Fraction.greatest_width
