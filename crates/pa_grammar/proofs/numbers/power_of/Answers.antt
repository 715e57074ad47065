use Rattle.std.proofs.Common.{arith, sym}
use Rattle.pa_grammar.proofs.Decimals.{too_large}
use Rattle.pa_grammar.proofs.numbers.power_of.Goals as goal

pub returns-then-power-gt-MOST_POWER-clause-value : goal.returns-then-power-gt-MOST_POWER-clause-value
returns-then-power-gt-MOST_POWER-clause-value c =
    sym (too_large c.args.digits.now c.loop-digit.digit-index c.loop-digit.power c.requires (omega arith) c.loop-digit.invariant.read
    c.if-power-gt-MOST_POWER.true)
