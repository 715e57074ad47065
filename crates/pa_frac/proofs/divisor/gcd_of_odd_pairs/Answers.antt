use Rattle.std.proofs.Common.{◌∙◌, arith}
use Rattle.std.specs.Int.{trailing_zeros}
use mir.Syntax.{w128}
use Rattle.pa_math.specs.Divisors.{gcd_of}
use Rattle.pa_frac.proofs.Halving.{turn_keeps, turn_odd, zero_left}
use Rattle.pa_frac.proofs.divisor.gcd_of_odd_pairs.Goals as goal

pub loop-x-preserved : goal.loop-x-preserved
loop-x-preserved c =
    let x = c.loop-x.x in
    let y = c.loop-x.y in
    let odd = c.odd_part_of_pair-odd in
    let i = c.loop-x.invariant in
    let kept = turn_keeps (trailing_zeros w128 x) odd.result x y (gcd_of c.args.a c.args.b) odd.ensures.factor i.odd i.kept in
    let still = turn_odd odd.result y odd.ensures.odd i.odd in
    record { odd = cc; kept = cc }

pub returns : goal.returns
returns c = zero_left c.loop-x.x c.loop-x.y (omega arith) ∙ c.loop-x.invariant.kept
