-- An assumption is over the inputs alone, so that the part's outputs say nothing of it.
use Rattle.std.proofs.Common.{◌∙◌, ◌++◌, ap, map, subst}
use Rattle.pa_meaning.specs.Contracts.{Contract, ports, over_names}
use Rattle.pa_contract.specs.WellFormed.{IsWellFormed}
use Rattle.pa_contract.proofs.Steps.{IfOk-implied}
use Rattle.pa_parts.specs.Composing.{Ports, names_in}
use Rattle.pa_parts.proofs.Rows.{assumptions_by_ports}
use Rattle.pa_parts.proofs.over.assumptions_over.Goals as goal

pub returns : goal.returns
returns c =
    IfOk-implied _ _ c.rows_over.result (λ list is. is
    ∙ ap (map (over_names (ports c.args.part.now) (c.ports.inside.external ++ c.ports.inside.outputs)))
    (c.deref.ensures.value ∙ ap (λ (p : Contract). p.assumptions) c.part.view_is)
    ∙ ap (λ (names : Ports). map (over_names (ports c.args.part.now) (names_in names)) c.args.part.now.assumptions) c.ports.view_is
    ∙ assumptions_by_ports c.args.part.now (names_in c.args.ports.now) (subst IsWellFormed c.part.view_is c.part.invariant)) c.rows_over.ensures.value
