use Rattle.std.proofs.Common.{◌∙◌, sym, subst, All}
use Rattle.pa_row.specs.Fractions.{IsFraction}
use Rattle.pa_trial.proofs.NominalPoints.{values_are}
use Rattle.pa_trial.proofs.nominal.nominal_point.Goals as goal

pub point_of-requires : goal.point_of-requires
point_of-requires c =
    subst (All IsFraction) (sym (c.deref.ensures.value ∙ c.in-Ok.ensures)) (values_are c.args.nominal.now c.args.names.now c.show_nominal.ensures)
