use Rattle.std.proofs.Common.{ap, sym, ◌∙◌, Some, arith}
use Rattle.std.proofs.lemmas.Result.{IfOk-weaker}
use Rattle.pa_script.proofs.Texts.{term_more, goal_done}
use Rattle.pa_script.proofs.fractions.push_sum.Goals as goal

pub loop-place-preserved : goal.loop-place-preserved
loop-place-preserved c =
    term_more c.args.names.now c.args.goal.now c.loop-place.place _ _ _ _ _ _ (c.at.ensures ∙ ap Some (sym c.bytes.ensures.value)) c.in_ok-first.ensures.first
    c.in_ok-first.ensures.text c.loop-place.invariant

pub returns : goal.returns
returns c =
    IfOk-weaker c.push_rest.result _ _
    (λ done is. goal_done c.args.names.now c.args.goal.now c.loop-place.place c.loop-place.first _ _ _ (omega (
      arith,
      c.loop-place-test.false,
      c.len-place-end.ensures.value,
    )) is
    c.loop-place.invariant)
    c.push_rest.ensures
