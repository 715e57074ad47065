-- The numbers of a fraction are in lowest terms and within its width, which is at most 126 bits.
use Rattle.std.proofs.Common.{◌≡◌, ◌∙◌, ℤ, rules, sym, subst}
use Rattle.std.proofs.lemmas.Int.{to_z-of_z}
use mir.Syntax.{w128}
use mir.Val.{to_z, of_z}
use Rattle.pa_math.specs.Rational.{den}
use Rattle.pa_frac.proofs.Width.{fits_widest}
use Rattle.pa_row.specs.Fractions.{IsFraction}
use Rattle.pa_bland.proofs.read.numbers_of.Goals as goal

pub returns-clause-fraction : goal.returns-clause-fraction
returns-clause-fraction g c =
    let top : to_z w128 (of_z w128 c.num.result) ≡ (g.F.Fraction.value c.args.number).num = to_z-of_z w128 c.num.result (search rules) ∙ c.num.ensures in
    let low : to_z w128 (of_z w128 c.den.result) ≡ den (g.F.Fraction.value c.args.number) = to_z-of_z w128 c.den.result (search rules) ∙ c.den.ensures in
    subst (λ (f : ℤ × ℤ). IsFraction f) (sym (λ i. (top i, low i))) (record {
      reduced = g.met.F.Fraction.is_reduced c.args.number;
      numerator = fits_widest g.F.Fraction.WIDTH 126 (g.F.Fraction.value c.args.number).num g.met.F.Fraction.greatest_width
          (g.met.F.Fraction.num_fits c.args.number);
      denominator = fits_widest g.F.Fraction.WIDTH 126 (den (g.F.Fraction.value c.args.number)) g.met.F.Fraction.greatest_width
          (g.met.F.Fraction.den_fits c.args.number);
    })
