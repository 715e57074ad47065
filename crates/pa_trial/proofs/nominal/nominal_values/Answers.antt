use Rattle.std.proofs.Common.{◌≡◌, ◌∙◌, ◌++◌, ◌+◌, ◌∷◌, [], ap, ap₂, map, drop, ℤ, List}
use Rattle.pa_contract.specs.Nominal.{value_of}
use Rattle.pa_contract.proofs.Steps.{map_more}
use Rattle.pa_trial.proofs.nominal.nominal_values.Goals as goal

-- one value more
pub loop-place-preserved : goal.loop-place-preserved
loop-place-preserved c =
    let rest : List (ℤ × ℤ) = map (value_of c.args.nominal.now) (drop (c.loop-place.place + 1) c.args.names.now) in
    let so_far : List (ℤ × ℤ) = c.loop-place.values.items in
    let same : c.value_of.result ≡ value_of c.args.nominal.now c.at.result.now =
    ap₂ (λ (n d : ℤ). (let v : ℤ × ℤ = (n, d) in v)) c.value_of.ensures.numerator c.value_of.ensures.denominator in
    ap (λ items. items ++ rest) c.in_ok-push.ensures.items ∙ ap (λ v. (so_far ++ v ∷ []) ++ rest) same
    ∙ map_more (value_of c.args.nominal.now) c.args.names.now c.loop-place.place c.at.result.now so_far
    (map (value_of c.args.nominal.now) c.args.names.now) c.at.ensures c.loop-place.invariant
