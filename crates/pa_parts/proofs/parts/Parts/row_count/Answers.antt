-- A part's rows are fewer than 2 ^ 25, and there are at most 32 parts.
use Rattle.std.proofs.Common.{◌∙◌, ◌+◌, ap, arith, drop}
use Rattle.std.specs.Prelude.{sum_by}
use Rattle.pa_contract.specs.Merge.{row_count}
use Rattle.pa_parts.proofs.Turns.{rows_more}
use Rattle.pa_parts.proofs.parts.Parts.row_count.Goals as goal

pub loop-place-preserved : goal.loop-place-preserved
loop-place-preserved c =
    record {
      whole = ap (λ n. (c.loop-place.count + n) + sum_by row_count (drop (c.loop-place.place + 1) c.args.self.now)) c.row_count-count.ensures.value
          ∙ rows_more c.args.self.now c.loop-place.place (omega (arith, c.loop-place-test.true, c.len-place-end.ensures))
          c.at.result.now c.loop-place.count c.at.ensures.part c.loop-place.invariant.whole;
      few = omega (arith, c.loop-place.invariant.few, c.row_count-count.ensures.few);
    }
