use Rattle.std.proofs.Common.{rules}
use mir.Syntax.{w64}
use Rattle.pa_frac.proofs.Halving.{odd_part_odd, odd_part_factor}
use Rattle.pa_frac.proofs.divisor.odd_part_of_word.Goals as goal

pub returns-clause-odd : goal.returns-clause-odd
returns-clause-odd c = odd_part_odd w64 c.args.n c.requires (search rules)

pub returns-clause-factor : goal.returns-clause-factor
returns-clause-factor c = odd_part_factor w64 c.args.n c.requires (search rules)
