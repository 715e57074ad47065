use Rattle.std.proofs.Common.{arith}
use Rattle.pa_cert.proofs.Texts.{pairs_done}
use Rattle.pa_cert.proofs.pieces.push_pairs.Goals as goal

pub returns : goal.returns
returns c =
    pairs_done c.args.names.now c.args.numbers.now c.loop-place.place _ _ (omega (arith, c.loop-place-test.false, c.min-place-end.ensures))
    c.loop-place.invariant
