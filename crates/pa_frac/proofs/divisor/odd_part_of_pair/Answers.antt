use Rattle.std.proofs.Common.{rules}
use mir.Syntax.{w128}
use Rattle.pa_frac.proofs.Halving.{odd_part_odd, odd_part_factor}
use Rattle.pa_frac.proofs.divisor.odd_part_of_pair.Goals as goal

pub returns-clause-odd : goal.returns-clause-odd
returns-clause-odd c = odd_part_odd w128 c.args.n c.requires (search rules)

pub returns-clause-factor : goal.returns-clause-factor
returns-clause-factor c = odd_part_factor w128 c.args.n c.requires (search rules)
