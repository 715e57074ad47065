-- At the end the names and the values are those of all pairs, so they are as many, and fractions.
use Rattle.std.proofs.Common.{◌≡◌, [], sym, ◌∙◌}
use Rattle.std.specs.Vec.Iter.{into_iter_items}
use Rattle.pa_json.proofs.Steps.{mapped_end}
use Rattle.pa_json.proofs.ValueLists.{nominal_of, nothing_left}
use Rattle.pa_json.proofs.values.values_from.Goals as goal

pub invariant_of-result : goal.invariant_of-result
invariant_of-result c =
    let at = c.loop-name in
    let empty : into_iter_items at.name-iterator ≡ [] = nothing_left _ (sym at.invariant.count ∙ c.in-None.ensures.steps.0) in
    nominal_of c.args.pairs.items _ _ c.requires (mapped_end _ _ _ _ empty at.invariant.names) (mapped_end _ _ _ _ empty at.invariant.values)
