use Rattle.serde_json.specs.View.{items_view}
use Rattle.pa_json.proofs.Names.{parts_distinct}
use Rattle.pa_json.proofs.diagram.parts_of.Goals as goal

pub returns-clause-distinct : goal.returns-clause-distinct
returns-clause-distinct c =
    parts_distinct c.args.contracts.now c.in_ok-path.path (items_view c.deref.result.now) _ c.with_parts.result c.with_parts.ensures.answer
