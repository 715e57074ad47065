use Rattle.pa_engine.proofs.Diagrams.{diagram_holds, diagram_answers}
use Rattle.pa_engine.proofs.top.answer_all.Goals as goal

-- the report over the table that the diagram gives
pub returns-in-Ok-clause-put : goal.returns-in-Ok-clause-put
returns-in-Ok-clause-put g c = rw c.in-Ok.ensures.value at c.put_report.ensures

-- the answers hold as they are printed and are true, since the table's contracts are well formed
pub returns-in-Ok-clause-printed : goal.returns-in-Ok-clause-printed
returns-in-Ok-clause-printed g c =
    diagram_holds c.args.inputs.diagram c.args.inputs.script c.table_of.ensures.formed (rw c.script.view_is at c.script.invariant)

pub returns-clause-printed : goal.returns-clause-printed
returns-clause-printed g c =
    diagram_holds c.args.inputs.diagram c.args.inputs.script c.table_of.ensures.formed (rw c.script.view_is at c.script.invariant)

pub returns-in-Ok-clause-truth : goal.returns-in-Ok-clause-truth
returns-in-Ok-clause-truth g c =
    diagram_answers c.args.inputs.diagram c.args.inputs.script c.table_of.ensures.formed (rw c.script.view_is at c.script.invariant)

pub returns-clause-truth : goal.returns-clause-truth
returns-clause-truth g c =
    diagram_answers c.args.inputs.diagram c.args.inputs.script c.table_of.ensures.formed (rw c.script.view_is at c.script.invariant)
