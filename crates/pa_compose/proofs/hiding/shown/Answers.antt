-- What holds as it is printed is hidden.
use Rattle.std.proofs.Common.{subst, sym}
use Rattle.pa_witness.specs.Steps.{Two}
use Rattle.pa_holds.specs.Composed.{HoldsAsHidden}
use Rattle.pa_compose.proofs.Meant.{hidden_true}
use Rattle.pa_compose.proofs.hiding.shown.Goals as goal

pub returns-in-Ok-clause-truth : goal.returns-in-Ok-clause-truth
returns-in-Ok-clause-truth c =
    hidden_true c.args.contract.now c.args.names.now c.args.limits.rows c.show_well_formed.ensures c.in-Ok.answer
    (subst (HoldsAsHidden Two c.args.limits.rows c.args.contract.now c.args.names.now) (sym c.in-Ok.ensures) c.in_ok-projected.ensures.printed)
