use Rattle.std.proofs.Common.{arith}
use Rattle.pa_contract.proofs.Counts.{union_counts, added_few}
use Rattle.pa_contract.proofs.ports.union_len.Goals as goal

-- the name at the place adds itself where it is new
pub loop-place-preserved : goal.loop-place-preserved
loop-place-preserved c =
    let one = union_counts c.args.names.now c.args.others.now c.loop-place.place c.at.result.now c.len-place-end.ensures.distinct c.at.ensures in
    record {
      so_far = omega (arith, one, c.added-count.ensures, c.loop-place.invariant.so_far);
      few = omega (arith, c.added-count.ensures, added_few c.args.names.now c.at.result.now, c.loop-place.invariant.few);
    }
