-- An output that is asked for is one name more, and another one is none.
use Rattle.std.proofs.Common.{◌≡◌, ◌+◌, ◌∙◌, List, sym, subst, take}
use Rattle.pa_meaning.specs.Contracts.{Name}
use Rattle.pa_meaning.specs.Composition.{is_kept as is_kept_of}
use Rattle.pa_parts.specs.Seen.{chosen, selected}
use Rattle.pa_parts.proofs.NameTurns.{selected_more, selected_passed}
use Rattle.pa_parts.proofs.ports.outputs_where.Goals as goal
use Rattle.pa_parts.proofs.ports.outputs_where.Goals.{then-is_chosen+in-Ok, else-is_chosen}

pub loop-place-preserved : goal.loop-place-preserved
loop-place-preserved c =
    elim c.if-is_chosen.branch [
      | then-is_chosen+in-Ok w ↦
          subst
          (λ (names : List Name). names ≡ selected c.args.kept (is_kept_of c.args.parts.now c.args.keep.now) (take (c.loop-place.place + 1) c.args.outputs.now))
          (sym w.in-Ok.ensures ∙ sym w.names-is)
          (selected_more c.args.outputs.now c.loop-place.place c.at-name.result.now c.at-name.ensures
          (λ n. chosen c.args.kept (is_kept_of c.args.parts.now c.args.keep.now n)) c.loop-place.names (sym c.is_chosen.ensures ∙ w.if-is_chosen.true)
          c.loop-place.invariant)
      | else-is_chosen w ↦
          subst
          (λ (names : List Name). names ≡ selected c.args.kept (is_kept_of c.args.parts.now c.args.keep.now) (take (c.loop-place.place + 1) c.args.outputs.now))
          (sym w.names-is)
          (selected_passed c.args.outputs.now c.loop-place.place c.at-name.result.now c.at-name.ensures
          (λ n. chosen c.args.kept (is_kept_of c.args.parts.now c.args.keep.now n)) c.loop-place.names (sym c.is_chosen.ensures ∙ w.if-is_chosen.false)
          c.loop-place.invariant)
    ]
