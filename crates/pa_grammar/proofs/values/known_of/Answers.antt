use Rattle.std.proofs.Common.{◌≡◌, ◌∙◌, ap₂, rules}
use Rattle.std.proofs.lemmas.Int.{to_z-of_z}
use mir.Syntax.{w128}
use mir.Val.{to_z, of_z}
use Rattle.pa_frac.specs.Operations.{fraction_in}
use Rattle.pa_math.specs.Rational.{over}
use Rattle.pa_grammar.proofs.Narrow.{known_given, known_is}
use Rattle.pa_grammar.proofs.values.known_of.Goals as goal

pub unreachable-requires : goal.unreachable-requires
unreachable-requires c =
    let num : to_z w128 (of_z w128 c.args.value.num) ≡ c.args.value.num = to_z-of_z w128 c.args.value.num (search rules) in
    let den : to_z w128 (of_z w128 c.args.value.den) ≡ c.args.value.den = to_z-of_z w128 c.args.value.den (search rules) in
    known_given _ c.args.value.num c.args.value.den _ c.requires.0 c.requires.1 c.requires.2 (c.from_parts.ensures
    ∙ ap₂ (λ x y. fraction_in 126 (over x y)) num den) c.in_default.is

pub returns : goal.returns
returns c =
    let num : to_z w128 (of_z w128 c.args.value.num) ≡ c.args.value.num = to_z-of_z w128 c.args.value.num (search rules) in
    let den : to_z w128 (of_z w128 c.args.value.den) ≡ c.args.value.den = to_z-of_z w128 c.args.value.den (search rules) in
    known_is _ c.args.value.num c.args.value.den _ c.requires.0 c.requires.1 c.requires.2 (c.from_parts.ensures
    ∙ ap₂ (λ x y. fraction_in 126 (over x y)) num den) c.in-Ok.is
