use Rattle.std.proofs.Common.{◌∙◌, ◌+◌, ◌++◌, ap, arith, drop}
use Rattle.std.specs.Prelude.{flat_map}
use Rattle.pa_meaning.specs.Composition.{guarantees_over}
use Rattle.pa_parts.specs.Composing.{names_in}
use Rattle.pa_parts.proofs.Turns.{guarantees_more}
use Rattle.pa_parts.proofs.over.all_guarantees.Goals as goal

pub loop-place-preserved : goal.loop-place-preserved
loop-place-preserved c =
    ap (λ done. done ++ flat_map (guarantees_over (names_in c.args.ports.now)) (drop (c.loop-place.place + 1) c.args.parts.now))
    (c.in_ok-append.ensures.items ∙ ap (λ rows. c.loop-place.all.items ++ rows) c.in-Ok.ensures)
    ∙ guarantees_more c.args.parts.now c.loop-place.place (omega (arith, c.loop-place-test.true, c.len-place-end.ensures)) (names_in c.args.ports.now)
    c.at.result.now c.loop-place.all.items _ c.at.ensures.part c.loop-place.invariant
