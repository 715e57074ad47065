use Rattle.std.proofs.Common.{◌≡◌, ◌∙◌, ◌∷◌, ℕ, map, get_or, pos, sym, ap, arith, rules}
use Rattle.std.proofs.lemmas.Int.{ints, to_z-of_z}
use lib.IntN.{ℤ}
use mir.Syntax.{w128}
use mir.Val.{to_z, of_z, SFits}
use Rattle.pa_math.specs.Divisors.{gcd_all}
use Rattle.pa_row.proofs.Canonical.{divisor_step, divisor_end}
use Rattle.pa_row.proofs.checked.divisor_of_weights.Goals as goal

pub loop-n-preserved : goal.loop-n-preserved
loop-n-preserved c =
    let x : ℤ = (get_or c.args.parts.now c.loop-n.n-index (0, pos 0)).1 in
    let same : to_z w128 (of_z w128 x) ≡ x = search (rules, ints, to_z-of_z) in
    record {
      value =
          divisor_step (pos c.loop-n.divisor) c.args.parts.now c.loop-n.n-index (0, pos 0) _ _ _ (omega arith)
          same c.with_number-divisor.ensures.value c.loop-n.invariant.value;
      narrow = c.with_number-divisor.ensures.narrow;
    }

pub returns : goal.returns
returns c =
    let den : SFits w128 c.args.den = search rules in
    sym (divisor_end c.loop-n.divisor c.args.parts.now c.loop-n.n-index (omega arith))
    ∙ c.loop-n.invariant.value
    ∙ ap (λ t. gcd_all (t ∷ map (λ (part : ℕ × ℤ). part.1) c.args.parts.now)) (to_z-of_z w128 _ den)
