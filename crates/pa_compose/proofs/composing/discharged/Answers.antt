use Rattle.std.proofs.Common.{length}
use Rattle.pa_meaning.specs.Composition.{names_of}
use Rattle.pa_compose.proofs.ComposeCalls.{room_for_guarantees}
use Rattle.pa_compose.proofs.composing.discharged.Goals as goal

pub discharge-requires-clause-room : goal.discharge-requires-clause-room
discharge-requires-clause-room c =
    room_for_guarantees c.args.parts.now (length (names_of c.args.parts.now)) c.args.work.now c.requires.room
