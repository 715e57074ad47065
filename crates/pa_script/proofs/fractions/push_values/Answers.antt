use Rattle.std.proofs.Common.{ap, sym, ◌∙◌, Some}
use Rattle.pa_script.proofs.Texts.{value_more}
use Rattle.pa_script.proofs.fractions.push_values.Goals as goal

pub loop-place-preserved : goal.loop-place-preserved
loop-place-preserved c =
    value_more c.args.names.now c.args.at.now c.loop-place.place _ _ _ _ (c.at.ensures ∙ ap Some (sym c.bytes.ensures.value)) c.in_ok-push_value_at.ensures
    c.loop-place.invariant
