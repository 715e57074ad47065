use Rattle.std.proofs.Common.{◌≡◌, ◌+◌, ◌%◌}
use Rattle.pa_math.specs.Divisors.{gcd_of}
use Rattle.pa_frac.proofs.divisor.gcd_of_odd_pairs.Given as goal

abbrev pub invariant-loop-x : goal.invariant-loop-x
invariant-loop-x l = record { odd : l.y % 2 ≡ 1; kept : gcd_of l.x l.y ≡ gcd_of l.fn.a l.fn.b }

abbrev pub decreases-loop-x : goal.decreases-loop-x
decreases-loop-x l = l.x + l.y
