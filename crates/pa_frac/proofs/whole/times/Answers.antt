use Rattle.std.proofs.Common.{◌*ℤ◌, arith}
use Rattle.std.proofs.lemmas.Int.{to_z-of_z}
use Rattle.pa_frac.proofs.Width.{product_wide}
use Rattle.pa_frac.proofs.whole.times.Goals as goal

pub returns-in_default : goal.returns-in_default
returns-in_default c = product_wide c.args.width 126 (c.args.a *ℤ c.args.b) (record {}) (grind (arith, to_z-of_z)) c.requires
