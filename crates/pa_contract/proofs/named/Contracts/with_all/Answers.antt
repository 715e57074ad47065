-- The names of both lists are the names of the list that has both, at the end of the loop.
use Rattle.std.proofs.Common.{◌≡◌, ◌++◌, sym, ◌∙◌, ap, map}
use Rattle.pa_contract.proofs.Lookups.{both_named, all_taken}
use Rattle.pa_contract.proofs.named.Contracts.with_all.Goals as goal

pub invariant_of-result : goal.invariant_of-result
invariant_of-result c =
    let none = sym c.loop-named.named-iterator.rest.ok.0 ∙ c.in-None.ensures.steps.0 in
    let all : c.loop-named.list.items ≡ c.args.self ++ c.args.others = all_taken _ _ _ none c.loop-named.invariant in
    let names_are = c.self.invariant ∙ ap (map (λ n. n.name)) c.self.view_is in
    let others_are = c.others.invariant ∙ ap (map (λ n. n.name)) c.others.view_is in
    both_named c.args.self c.args.others _ _ _ _ names_are others_are c.requires
    c.len-count.ensures.unique c.in_ok-append.ensures.keys all
