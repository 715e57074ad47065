use Rattle.std.proofs.Common.{arith, sym}
use Rattle.pa_script.proofs.Limits.{too_large}
use Rattle.pa_script.proofs.values.small_number.Goals as goal

pub returns-then-number-gt-MOST_LIMIT-clause-value : goal.returns-then-number-gt-MOST_LIMIT-clause-value
returns-then-number-gt-MOST_LIMIT-clause-value c =
    sym (too_large c.args.digits.now c.loop-digit.digit-index c.loop-digit.number c.requires (omega arith) c.loop-digit.invariant.read
    (omega (arith, c.from.ensures, c.if-number-gt-MOST_LIMIT.true)))
