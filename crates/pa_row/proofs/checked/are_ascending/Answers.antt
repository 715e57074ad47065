use Rattle.std.proofs.Common.{refl, pos, arith}
use Rattle.pa_row.proofs.Canonical.{ascending}
use Rattle.pa_row.proofs.checked.are_ascending.Goals as goal

pub returns : goal.returns
returns c = (λ t. ascending c.args.parts.now (0, pos 0) (λ k h. c.loop-i.invariant k (omega arith)), λ a. refl)
