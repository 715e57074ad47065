use Rattle.std.proofs.Common.{◌≡◌, ◌*◌, ◌/◌, ◌^◌, ◌<◌, ap₂, ◌∙◌, arith, rules}
use Rattle.std.specs.Int.{trailing_zeros}
use mir.Val.{bits}
use mir.Syntax.{w64}
use Rattle.pa_math.specs.Divisors.{gcd_of}
use Rattle.pa_frac.proofs.Halving.{shared_twos, shift_back, odd_part_odd, odd_part_factor, zero_left, zero_right}
use Rattle.pa_frac.proofs.divisor.gcd_of_words.Goals as goal

pub returns-then-a-eq0 : goal.returns-then-a-eq0
returns-then-a-eq0 c = zero_left c.args.a c.args.b (omega arith)

pub returns-then-b-eq0 : goal.returns-then-b-eq0
returns-then-b-eq0 c = zero_right c.args.a c.args.b (omega arith)

pub returns : goal.returns
returns c =
    let a = c.args.a in
    let b = c.args.b in
    let part = c.odd_part_of_word in
    let up : 0 < a = omega arith in
    let fits : a < 2 ^ bits w64 = search rules in
    let twos : c.gcd_of_odd_words.result * 2 ^ c.min-twos.result ≡ gcd_of a b =
    ap₂ (λ g p. g * 2 ^ p) c.gcd_of_odd_words.ensures c.min-twos.ensures
    ∙ shared_twos (trailing_zeros w64 a) (trailing_zeros w64 b) (a / 2 ^ trailing_zeros w64 a) part.result a b (odd_part_factor w64 a up fits)
    (odd_part_odd w64 a up fits) part.ensures.factor part.ensures.odd in
    shift_back w64 c.gcd_of_odd_words.result (2 ^ c.min-twos.result) a b twos (omega arith) (search rules)
