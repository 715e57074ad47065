use Rattle.std.proofs.Common.{arith}
use Rattle.pa_check.proofs.shift.shift.Goals as goal

pub front_of-requires : goal.front_of-requires
front_of-requires c = let long = c.in_ok-row.ensures.columns in let h = c.requires.front in omega (arith, long, h)
