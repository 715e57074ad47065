use Rattle.std.proofs.Common.{arith}
use Rattle.pa_parts.specs.Seen.{outputs_of}
use Rattle.pa_parts.proofs.NameTurns.{part_refused}
use Rattle.pa_parts.proofs.ports.all_outputs.Goals as goal

pub returns-in-Err : goal.returns-in-Err
returns-in-Err c =
    part_refused c.args.parts.now c.loop-place.place c.at.result.now (omega (arith, c.loop-place-test.true, c.len-place-end.ensures)) c.at.ensures.part
    c.loop-place.outputs (outputs_of c.args.parts.now) c.loop-place.invariant c.in-Err.fault c.in-Err.ensures
