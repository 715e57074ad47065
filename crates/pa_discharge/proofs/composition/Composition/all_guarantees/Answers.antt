use Rattle.std.proofs.Common.{◌≡◌, ap, subst, IfOk}
use Rattle.pa_holds.specs.Composed.{all_guarantees}
use Rattle.pa_discharge.proofs.composition.Composition.all_guarantees.Goals as goal

pub returns : goal.returns
returns c =
    subst (λ parts. IfOk c.all_guarantees.result (λ rows. rows.items ≡ all_guarantees parts)) (ap (λ k. k.parts) c.self.view_is) c.all_guarantees.ensures
