-- An assumption is over the inputs alone, so that the contract's outputs say nothing of it.
use Rattle.std.proofs.Common.{◌∙◌, ◌++◌, ap, ap₂, map, subst}
use Rattle.pa_meaning.specs.Contracts.{Contract, ports, over_names}
use Rattle.pa_meaning.specs.Quotient.{quotient_ports}
use Rattle.pa_contract.specs.WellFormed.{IsWellFormed}
use Rattle.pa_contract.proofs.Steps.{IfOk-implied}
use Rattle.pa_parts.proofs.Rows.{assumptions_by_ports}
use Rattle.pa_quotient.specs.Seen.{QuotientNames}
use Rattle.pa_quotient.proofs.over.assumptions_over.Goals as goal

pub returns : goal.returns
returns c =
    IfOk-implied _ _ c.rows_over.result (λ list is. is
    ∙ ap (map (over_names (ports c.args.contract.now) (c.whole.inside.inputs ++ c.names.inside.outputs)))
    (c.deref.ensures.value ∙ ap (λ (p : Contract). p.assumptions) c.contract.view_is)
    ∙ ap (λ names. map (over_names (ports c.args.contract.now) names) c.args.contract.now.assumptions)
    (ap₂ ◌++◌ (ap (λ (w : Contract). w.inputs) c.whole.view_is) (ap (λ (n : QuotientNames). n.outputs) c.names.view_is ∙ c.requires.outputs_are))
    ∙ assumptions_by_ports c.args.contract.now (quotient_ports c.args.whole.now c.args.part.now)
    (subst IsWellFormed c.contract.view_is c.contract.invariant)) c.rows_over.ensures.value
