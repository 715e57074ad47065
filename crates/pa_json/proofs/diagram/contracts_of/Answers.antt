use Rattle.serde_json.specs.View.{items_view}
use Rattle.pa_json.proofs.Names.{contracts_distinct}
use Rattle.pa_json.proofs.diagram.contracts_of.Goals as goal

pub returns-clause-distinct : goal.returns-clause-distinct
returns-clause-distinct c =
    contracts_distinct c.args.layout.now c.in_ok-path.path (items_view c.deref.result.now) _ c.with_contracts.result c.with_contracts.ensures.answer
