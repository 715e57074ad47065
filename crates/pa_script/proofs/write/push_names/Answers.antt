use Rattle.std.proofs.Common.{ap, sym, ◌∙◌, Some}
use Rattle.pa_script.proofs.Texts.{word_more}
use Rattle.pa_script.proofs.write.push_names.Goals as goal

pub loop-place-preserved : goal.loop-place-preserved
loop-place-preserved c =
    word_more c.args.names.now c.loop-place.place _ _ _ _ (c.at.ensures ∙ ap Some (sym c.bytes.ensures.value)) c.in_ok-push_word.ensures c.loop-place.invariant
