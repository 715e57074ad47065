use Rattle.std.proofs.Common.{◌∙◌, ap, sym, length}
use Rattle.pa_meaning.specs.Composition.{external_inputs}
use Rattle.pa_discharge.proofs.Told.{nominal_columns}
use Rattle.pa_discharge.proofs.discharged.discharged_parts.Goals as goal

-- the nominal point has a column for each external input
pub all_discharged-requires-clause-nominal : goal.all_discharged-requires-clause-nominal
all_discharged-requires-clause-nominal c =
    nominal_columns c.args.nominal.now c.ports.inside.external c.in-Ok.point c.in-Ok.ensures ∙ ap (λ p. length p.external) c.ports.view_is
    ∙ ap length c.requires.names.external ∙ ap (λ w. length (external_inputs w.parts)) (sym c.in-Ok-composition_of.ensures)
