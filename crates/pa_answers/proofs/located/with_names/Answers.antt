use Rattle.std.proofs.Common.{◌++◌, ◌∷◌, [], ap, sym, ◌∙◌}
use Rattle.pa_math.proofs.Answers.{ok_same}
use Rattle.pa_answers.proofs.Headings.{names_more}
use Rattle.pa_answers.proofs.located.with_names.Goals as goal

-- the copy of this name goes behind those so far
pub loop-place-preserved : goal.loop-place-preserved
loop-place-preserved c =
    names_more c.args.more.now c.loop-place.place c.at.result.now c.loop-place.names.items c.push.new.self.items _
    (c.in_ok-push.ensures.items ∙ ap (λ n. c.loop-place.names.items ++ n ∷ []) (sym (ok_same c.at.result.now c.in-Ok.name c.in-Ok.ensures)))
    c.at.ensures c.loop-place.invariant
