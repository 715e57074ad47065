use Rattle.std.proofs.Common.{◌≡◌, sym, subst}
use Rattle.pa_meaning.specs.Contracts.{Contract}
use Rattle.pa_contract.specs.Make as spec
use Rattle.pa_contract.specs.WellFormed.{IsWellFormed}
use Rattle.pa_contract.proofs.Results.{contract_is_well_formed}
use Rattle.pa_contract.proofs.contract.contract_of.Goals as goal

pub invariant_of-result : goal.invariant_of-result
invariant_of-result c =
    let inputs = c.args.inputs in
    let outputs = c.args.outputs in
    let kept = c.in_ok-assumptions.assumptions.items in
    let promised = c.in_ok-guarantees.guarantees.items in
    let made : Contract = record { inputs = inputs; outputs = outputs; assumptions = kept; guarantees = promised } in
    let is : made ≡ spec.contract_of inputs outputs c.args.assumptions.items c.args.guarantees.items =
    λ i. record { inputs = inputs; outputs = outputs; assumptions = c.in_ok-assumptions.ensures i; guarantees = c.in_ok-guarantees.ensures i } in
    subst IsWellFormed (sym is)
    (contract_is_well_formed inputs outputs c.args.assumptions.items c.args.guarantees.items c.len.ensures.distinct c.len-2.ensures.distinct
    c.requires.apart c.requires.few_ports
    c.requires.assumption_columns c.requires.guarantee_columns c.requires.few_assumptions c.requires.few_guarantees)
