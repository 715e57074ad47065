-- An output that goes is one more column, and one that stays is none.
use Rattle.std.proofs.Common.{◌+◌, ◌∙◌, ap, subst, sym}
use Rattle.pa_compose.proofs.Goes.{AreColumnsTo, column_goes, column_stays}
use Rattle.pa_compose.proofs.gone.columns_of.Goals as goal
use Rattle.pa_compose.proofs.gone.columns_of.Goals.{then-has+in_ok-push, else-has}

pub loop-place-preserved : goal.loop-place-preserved
loop-place-preserved c =
    elim c.if-has.branch [
      | then-has+in_ok-push w ↦
          subst (AreColumnsTo c.args.outputs.now c.args.first c.args.gone.now (c.loop-place.place + 1))
          (sym w.in_ok-push.ensures.items ∙ sym (ap (λ v. v.items) w.columns-is))
          (column_goes c.args.outputs.now c.args.first c.args.gone.now c.loop-place.place c.at.result.now c.at.ensures c.loop-place.columns.items
          (sym c.has.ensures ∙ w.if-has.true) c.loop-place.invariant)
      | else-has w ↦
          subst (AreColumnsTo c.args.outputs.now c.args.first c.args.gone.now (c.loop-place.place + 1)) (sym (ap (λ v. v.items) w.columns-is))
          (column_stays c.args.outputs.now c.args.first c.args.gone.now c.loop-place.place c.at.result.now c.at.ensures c.loop-place.columns.items
          (sym c.has.ensures ∙ w.if-has.false) c.loop-place.invariant)
    ]
