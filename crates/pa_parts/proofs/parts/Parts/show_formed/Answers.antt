-- Each part that is read is well formed.
use Rattle.std.proofs.Common.{arith}
use Rattle.pa_math.proofs.Items.{all_read}
use Rattle.pa_contract.specs.WellFormed.{IsWellFormed}
use Rattle.pa_parts.proofs.Turns.{formed_more}
use Rattle.pa_parts.proofs.parts.Parts.show_formed.Goals as goal

pub loop-place-preserved : goal.loop-place-preserved
loop-place-preserved c =
    formed_more c.args.self.now c.loop-place.place (omega (arith, c.loop-place-test.true, c.len-place-end.ensures)) c.at-part.result.now
    c.at-part.ensures.part c.at-part.ensures.formed c.loop-place.invariant

pub returns : goal.returns
returns c =
    all_read IsWellFormed c.args.self.now c.loop-place.place (omega (arith, c.loop-place-test.false, c.len-place-end.ensures)) c.loop-place.invariant
