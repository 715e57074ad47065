use Rattle.std.proofs.Common.{◌≡◌, ◌++◌, ◌+◌, ap, sym, ◌∙◌, subst, List, [], ◌∷◌, map, drop, ℤ, All, rules}
use Rattle.std.proofs.lemmas.List.Elements.{All-push}
use Rattle.std.proofs.lemmas.Int.{to_z-of_z}
use mir.Syntax.{w128}
use mir.Val.{to_z, of_z}
use Rattle.pa_meaning.specs.Contracts.{coefficient_at}
use Rattle.pa_row.specs.Width.{Fits}
use Rattle.pa_contract.proofs.Steps.{map_more}
use Rattle.pa_refine.proofs.goal.with_numbers.Goals as goal

-- the number of this port goes behind those so far
pub loop-place-preserved : goal.loop-place-preserved
loop-place-preserved c =
    let number = coefficient_at c.args.goal.now.names c.args.goal.now.c in
    let rest : List ℤ = map number (drop (c.loop-place.place + 1) c.args.ports.now) in
    let own : to_z w128 (of_z w128 c.number_of.result) ≡ c.number_of.result = to_z-of_z w128 c.number_of.result (search rules) in
    let plain : c.push.new.self.items ≡ c.loop-place.numbers.items ++ (c.number_of.result ∷ []) = rw own at c.in_ok-push.ensures.items in
    let pushed : c.push.new.self.items ≡ c.loop-place.numbers.items ++ number c.at.result.now ∷ [] =
    plain ∙ ap (λ z. c.loop-place.numbers.items ++ z ∷ []) c.number_of.ensures.value in
    record {
      value = ap (λ l. l ++ rest) pushed
          ∙ map_more number c.args.ports.now c.loop-place.place c.at.result.now c.loop-place.numbers.items _ c.at.ensures c.loop-place.invariant.value;
      narrow = subst (All Fits) (sym plain)
          (All-push Fits c.loop-place.numbers.items _ c.loop-place.invariant.narrow c.number_of.ensures.narrow);
    }
