-- The parts that were made are those of the weights by the places, in the one form that weights have.
use Rattle.std.proofs.Common.{◌≡◌, ◌∙◌, ◌++◌, ◌<◌, ◌≤◌, All, List, ℕ, append-nil, ap, ap₂, length, map, sym, subst, rules, arith}
use Rattle.std.proofs.lemmas.Int.{ints, to_z-of_z}
use Rattle.std.proofs.lemmas.List.{drop_all}
use mir.Syntax.{w128}
use mir.Val.{to_z, of_z}
use lib.IntN.{ℤ}
use Rattle.pa_meaning.specs.Weights.{Weights}
use Rattle.pa_row.specs.Width.{IsCanonical}
use Rattle.pa_farkas.specs.Answered.{at_place}
use Rattle.pa_farkas.proofs.Placed.{at_canonical}
use Rattle.pa_farkas.proofs.sieve.at_places.Goals as goal

pub invariant_of-result : goal.invariant_of-result
invariant_of-result c =
    let w : Weights = record { den = c.w.inside.den; parts = c.w.inside.parts.items } in
    let seen : w ≡ c.args.w.now = c.w.view_is in
    let den : to_z w128 (of_z w128 c.w.inside.den) ≡ c.w.inside.den = search (rules, ints, to_z-of_z) in
    let same_parts : c.args.w.now.parts ≡ c.w.inside.parts.items = ap (λ (v : Weights). v.parts) (sym seen) in
    let past : length c.args.w.now.parts ≤ c.loop-part.part-index =
    (let test = c.loop-part-test.false in let read = ap length c.deref-part-items.ensures.value in let long = ap length same_parts in
    omega (arith, test, read, long)) in
    let parts : c.loop-part.parts.items ≡ map (at_place c.args.places.now) c.w.inside.parts.items =
    sym (append-nil c.loop-part.parts.items)
    ∙ ap (λ (ps : List (ℕ × ℤ)). c.loop-part.parts.items ++ map (at_place c.args.places.now) ps) (sym (drop_all c.loop-part.part-index c.args.w.now.parts past))
    ∙ c.loop-part.invariant.made ∙ ap (λ (v : Weights). map (at_place c.args.places.now) v.parts) (sym seen) in
    subst IsCanonical (ap₂ (λ (d : ℤ) (ps : List (ℕ × ℤ)). let v : Weights = record { den = d; parts = ps } in v) (sym den) (sym parts))
    (at_canonical c.args.places.now w c.w.invariant c.requires.ascending
    (subst (λ (ps : List (ℕ × ℤ)). All (λ (part : ℕ × ℤ). part.0 < length c.args.places.now) ps) same_parts c.requires.placed))
