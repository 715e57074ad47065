use Rattle.pa_frac.proofs.Lowest.{narrow_widest}
use Rattle.pa_frac.proofs.fraction.Fraction.div.Goals as goal

pub reciprocal_of-turned-requires-clause-narrow : goal.reciprocal_of-turned-requires-clause-narrow
reciprocal_of-turned-requires-clause-narrow g c = narrow_widest g.Self.Fraction.WIDTH 126 _ _ c.lowest.ensures.narrow g.met.Self.Fraction.greatest_width
