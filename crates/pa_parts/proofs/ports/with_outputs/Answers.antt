use Rattle.std.proofs.Common.{◌≡◌, Some, sym, subst, ◌∙◌}
use Rattle.std.specs.Prelude.{slice_get}
use Rattle.pa_meaning.specs.Contracts.{Contract}
use Rattle.pa_parts.specs.Seen.{outputs_more}
use Rattle.pa_parts.proofs.NameTurns.{output_again}
use Rattle.pa_parts.proofs.ports.with_outputs.Goals as goal

pub returns-then-has : goal.returns-then-has
returns-then-has c =
    output_again c.args.part.now.outputs c.loop-place.place c.at-name.result.now
    (subst (λ (p : Contract). slice_get p.outputs c.loop-place.place ≡ Some c.at-name.result.now) c.part.view_is c.at-name.ensures) c.loop-place.all
    (outputs_more c.args.outputs c.args.part.now.outputs) c.port_clash.result (sym c.has.ensures ∙ c.if-has.true) c.loop-place.invariant c.port_clash.ensures
