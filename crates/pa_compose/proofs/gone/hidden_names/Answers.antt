-- An output that goes is one more name, and one that stays is none.
use Rattle.std.proofs.Common.{◌≡◌, ◌+◌, ◌++◌, ◌∷◌, [], ◌∙◌, ap, subst, sym, Some}
use Rattle.std.specs.Prelude.{slice_get}
use Rattle.pa_meaning.specs.Contracts.{Contract}
use Rattle.pa_compose.proofs.Goes.{AreNamesTo, name_goes, name_stays}
use Rattle.pa_compose.proofs.gone.hidden_names.Goals as goal
use Rattle.pa_compose.proofs.gone.hidden_names.Goals.{then-has+in-Ok+in_ok-push, else-has}

pub loop-place-preserved : goal.loop-place-preserved
loop-place-preserved c =
    let found : slice_get c.args.contract.now.outputs c.loop-place.place ≡ Some c.at-name.result.now =
    ap (λ (k : Contract). slice_get k.outputs c.loop-place.place) (sym c.contract.view_is) ∙ c.at-name.ensures in
    elim c.if-has.branch [
      | then-has+in-Ok+in_ok-push w ↦
          let same : c.at-name.result.now ≡ w.in-Ok.name = cc (w.in-Ok.ensures) in
          subst (AreNamesTo c.args.contract.now c.args.names.now (c.loop-place.place + 1))
          (ap (λ n. c.loop-place.gone.items ++ n ∷ []) same ∙ sym w.in_ok-push.ensures.items ∙ sym (ap (λ v. v.items) w.gone-is))
          (name_goes c.args.contract.now c.args.names.now c.loop-place.place c.at-name.result.now found c.loop-place.gone.items
          (sym c.has.ensures ∙ w.if-has.true) c.loop-place.invariant)
      | else-has w ↦
          subst (AreNamesTo c.args.contract.now c.args.names.now (c.loop-place.place + 1)) (sym (ap (λ v. v.items) w.gone-is))
          (name_stays c.args.contract.now c.args.names.now c.loop-place.place c.at-name.result.now found c.loop-place.gone.items
          (sym c.has.ensures ∙ w.if-has.false) c.loop-place.invariant)
    ]
