use Rattle.std.proofs.Common.{arith}
use Rattle.pa_meaning.specs.Composition as meaning
use Rattle.pa_parts.proofs.NameTurns.{part_inputs}
use Rattle.pa_parts.proofs.ports.external_inputs.Goals as goal

pub loop-place-preserved : goal.loop-place-preserved
loop-place-preserved c =
    part_inputs c.args.parts.now c.loop-place.place c.at.result.now (omega (arith, c.loop-place-test.true, c.len-place-end.ensures)) c.at.ensures.part
    c.args.outputs.now c.loop-place.external c.in-Ok.more (meaning.external_inputs c.args.parts.now) c.in-Ok.ensures c.loop-place.invariant
