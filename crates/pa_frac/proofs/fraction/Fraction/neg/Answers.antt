use Rattle.pa_frac.proofs.Lowest.{narrow_widest}
use Rattle.pa_frac.proofs.fraction.Fraction.neg.Goals as goal

pub negation_of-requires : goal.negation_of-requires
negation_of-requires g c = narrow_widest g.Self.Fraction.WIDTH 126 _ _ c.lowest.ensures.narrow g.met.Self.Fraction.greatest_width
