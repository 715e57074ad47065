-- As many other distinct ports carry the same rows, so the contract stays well-formed.
use Rattle.std.proofs.Common.{rules, ◌≡◌, length, ap, ◌∙◌, ◌++◌, take, drop, arith}
use Rattle.std.proofs.lemmas.List.{take_all}
use Rattle.pa_json.proofs.Parts.{still_fits}
use Rattle.pa_json.proofs.part.with_ports.Goals as goal

pub invariant_of-result : goal.invariant_of-result
invariant_of-result c =
    let names = c.args.names.now in
    let count = c.len-count.result in
    let count_is : count ≡ length c.args.contract.now.inputs = search rules in
    still_fits c.args.contract.now names _ _ _ _ (search rules) c.requires.distinct c.requires.each (search rules)
    (c.in_ok-outputs.ensures ∙ ap (λ none. none ++ drop count (take c.len.result names)) c.new-2.ensures
    ∙ ap (drop count) (take_all c.len.result names (omega (arith, c.len.ensures.value))) ∙ ap (λ n. drop n names) count_is) (search rules)
    (search rules)
