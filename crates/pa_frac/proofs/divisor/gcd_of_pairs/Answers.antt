use Rattle.std.proofs.Common.{◌≡◌, ◌*◌, ◌/◌, ◌^◌, ◌<◌, ap₂, ◌∙◌, rules}
use Rattle.std.specs.Int.{trailing_zeros}
use mir.Val.{bits}
use mir.Syntax.{w128}
use Rattle.pa_math.specs.Divisors.{gcd_of}
use Rattle.pa_frac.proofs.Halving.{shared_twos, shift_back, odd_part_odd, odd_part_factor}
use Rattle.pa_frac.proofs.divisor.gcd_of_pairs.Goals as goal

pub returns : goal.returns
returns c =
    let a = c.args.a in
    let b = c.args.b in
    let part = c.odd_part_of_pair in
    let up : 0 < a = c.requires.left in
    let fits : a < 2 ^ bits w128 = search rules in
    let twos : c.gcd_of_odd_pairs.result * 2 ^ c.min-twos.result ≡ gcd_of a b =
    ap₂ (λ g p. g * 2 ^ p) c.gcd_of_odd_pairs.ensures c.min-twos.ensures
    ∙ shared_twos (trailing_zeros w128 a) (trailing_zeros w128 b) (a / 2 ^ trailing_zeros w128 a) part.result a b (odd_part_factor w128 a up fits)
    (odd_part_odd w128 a up fits) part.ensures.factor part.ensures.odd in
    shift_back w128 c.gcd_of_odd_pairs.result (2 ^ c.min-twos.result) a b twos c.requires.right (search rules)
