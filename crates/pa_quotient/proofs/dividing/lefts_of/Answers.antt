-- the nominal point has a number for each port of the quotient
use Rattle.std.proofs.Common.{◌∙◌, ap, length}
use Rattle.pa_quotient.specs.Seen.{QuotientNames}
use Rattle.pa_trial.proofs.NominalPoints.{nominal_formed, nominal_made}
use Rattle.pa_quotient.proofs.dividing.lefts_of.Goals as goal

pub lefts_over-requires-clause-nominal : goal.lefts_over-requires-clause-nominal
lefts_over-requires-clause-nominal c =
    (nominal_formed c.args.nominal.now c.names.inside.ports c.in-Ok.point c.requires.nominal
    (nominal_made c.args.nominal.now c.names.inside.ports c.in-Ok.point c.in-Ok.ensures)).1
    ∙ ap (λ (n : QuotientNames). length n.ports) c.names.view_is ∙ ap length c.requires.can.names_are.ports_are
