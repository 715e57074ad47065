-- The point over the common denominator has narrow numbers, and so has what is kept of it.
use Rattle.std.proofs.Common.{All, subst, sym, ap, ap₂, ◌∙◌, rules}
use Rattle.std.proofs.lemmas.Int.{to_z-of_z}
use mir.Val.{SFits}
use mir.Syntax.{w128}
use Rattle.pa_ring.specs.Sums.{number_at}
use Rattle.pa_row.specs.Fractions.{IsFraction}
use Rattle.pa_grammar.specs.Plains.{kept_names, kept_numbers}
use Rattle.pa_grammar.proofs.Pushed.{fractions_are}
use Rattle.pa_grammar.proofs.Mentions.{narrow_as}
use Rattle.pa_grammar.proofs.plain.linear_of.Goals as goal

pub point_of-requires : goal.point_of-requires
point_of-requires c = subst (All IsFraction) (sym (c.deref.ensures.value ∙ c.in-Ok.ensures)) (fractions_are c.args.vector.now)

pub invariant_of-result : goal.invariant_of-result
invariant_of-result c =
    let b : SFits w128 c.number_at-b.result = search rules in
    let q : SFits w128 c.point.inside.q = search rules in
    narrow_as c.args.names.now (record { p = c.point.inside.p.items; q = c.point.inside.q }) _ _ _ _ c.point.invariant
    (c.in-Ok-kept_of.ensures.names ∙ ap (kept_names c.args.names.now) c.deref-2.ensures.value)
    (c.in-Ok-kept_of.ensures.numbers ∙ ap (kept_numbers c.args.names.now) c.deref-2.ensures.value)
    (to_z-of_z w128 c.number_at-b.result b ∙ c.number_at-b.ensures ∙ ap₂ number_at c.deref-3.ensures.value c.len.ensures.value)
    (to_z-of_z w128 c.point.inside.q q)
