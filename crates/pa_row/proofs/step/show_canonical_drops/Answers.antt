use Rattle.std.proofs.Common.{arith}
use Rattle.pa_row.specs.Width.{IsCanonical}
use Rattle.pa_math.proofs.Items.{all_more, all_read}
use Rattle.pa_row.proofs.step.show_canonical_drops.Goals as goal

pub loop-d-preserved : goal.loop-d-preserved
loop-d-preserved c =
    all_more (λ d. IsCanonical d.weights) c.args.drops.now c.loop-d.d-index c.d-item.result (omega arith)
    c.d-item.is c.show_canonical_drop.ensures c.loop-d.invariant

pub returns : goal.returns
returns c = all_read (λ d. IsCanonical d.weights) c.args.drops.now c.loop-d.d-index (omega arith) c.loop-d.invariant
