-- The first ports and the others are all of them, which are distinct.
use Rattle.std.proofs.Common.{sym, ap, ◌∙◌, ◌++◌, subst, take, drop, length, arith}
use Rattle.std.proofs.lemmas.List.{take_all}
use Rattle.pa_json.specs.Kept.{IsKept}
use Rattle.pa_json.proofs.RowLists.{well_formed}
use Rattle.pa_json.proofs.contract.contract_of.Goals as goal

pub invariant_of-result : goal.invariant_of-result
invariant_of-result c =
    let names = c.args.ports.now in
    well_formed c.args.inputs names c.in_ok-names.names c.in_ok-others.others c.in_ok-assumptions.assumptions.items c.in_ok-guarantees.guarantees.items
    c.len-count.ensures.distinct c.requires.few c.requires.inputs
    (c.in_ok-names.ensures ∙ ap (λ none. none ++ drop 0 (take c.args.inputs names)) c.new.ensures)
    (c.in_ok-others.ensures ∙ ap (λ none. none ++ drop c.args.inputs (take c.len-count.result names)) c.new-2.ensures
    ∙ ap (drop c.args.inputs) (take_all c.len-count.result names (omega (arith, c.len-count.ensures.value))))
    (subst (IsKept c.args.inputs) (sym c.in_ok-assumptions.ensures) c.requires.assumptions)
    (subst (IsKept (length names)) (sym c.in_ok-guarantees.ensures) c.requires.guarantees)
