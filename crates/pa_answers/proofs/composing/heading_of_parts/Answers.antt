use Rattle.std.proofs.Common.{◌<◌, length, sym, subst, ap, ◌∙◌}
use Rattle.pa_meaning.specs.Contracts.{Contract}
use Rattle.pa_answers.proofs.Compositions.{heading_more, outputs_within}
use Rattle.pa_answers.proofs.composing.heading_of_parts.Goals as goal

-- there is a number for each output of this part
pub with_part-requires : goal.with_part-requires
with_part-requires c =
    outputs_within c.args.parts.now c.loop-place.place c.at-part.result.now c.loop-place.first c.args.numbers.now
    (subst (λ n. c.loop-place.place < n) c.len-place-end.ensures c.loop-place-test.true) c.at-part.ensures.part c.loop-place.invariant.1

-- the numbers of this part's outputs go behind those so far
pub loop-place-preserved : goal.loop-place-preserved
loop-place-preserved c =
    heading_more c.args.parts.now c.loop-place.place c.at-part.result.now c.loop-place.first c.args.numbers.now
    (subst (λ n. c.loop-place.place < n) c.len-place-end.ensures c.loop-place-test.true) c.at-part.ensures.part c.len.result c.loop-place.heading
    c.in-Ok.more _ (sym (c.len.ensures.value ∙ ap (λ (k : Contract). length k.outputs) c.part.view_is)) c.in-Ok.ensures c.loop-place.invariant.0
    c.loop-place.invariant.1
