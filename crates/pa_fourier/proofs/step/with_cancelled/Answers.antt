use Rattle.std.proofs.Common.{arith}
use Rattle.pa_fourier.proofs.step.with_cancelled.Goals as goal

pub with_row-requires : goal.with_row-requires
with_row-requires c =
    let same = c.in-Ok.ensures.columns in
    let h = c.requires.column in omega arith
