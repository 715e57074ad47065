use Rattle.std.proofs.Common.{◌++◌, ◌∷◌, [], ap, sym, ◌∙◌}
use Rattle.pa_math.proofs.Answers.{ok_same}
use Rattle.pa_parts.proofs.NameTurns.{front_more}
use Rattle.pa_compose.proofs.composing.names_of.Goals as goal

-- the copy of this name goes behind those so far
pub loop-place-preserved : goal.loop-place-preserved
loop-place-preserved c =
    c.in_ok-push.ensures.items ∙ ap (λ n. c.loop-place.names.items ++ n ∷ []) (sym (ok_same c.at.result.now c.in-Ok.name c.in-Ok.ensures))
    ∙ ap (λ names. names ++ c.at.result.now ∷ []) c.loop-place.invariant ∙ sym (front_more c.args.list.now c.loop-place.place c.at.result.now c.at.ensures)
