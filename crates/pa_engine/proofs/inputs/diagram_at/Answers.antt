use Rattle.pa_json.specs.Diagram.{diagram_of}
use Rattle.pa_engine.proofs.Fetched.{long_diagram, diagram_stands, no_diagram}
use Rattle.pa_engine.proofs.inputs.diagram_at.Goals as goal

-- what was read of the bytes that were fetched is so of what stands at the path
pub returns-in-Ok-clause-ok : goal.returns-in-Ok-clause-ok
returns-in-Ok-clause-ok g c =
    diagram_stands diagram_of (λ d. d) _ long_diagram _ _ _ c.in-Ok.ensures.content c.diagram_in.result c.diagram_in.ensures.ok

pub returns-in-Ok-clause-err : goal.returns-in-Ok-clause-err
returns-in-Ok-clause-err g c =
    no_diagram diagram_of (λ d. d) _ long_diagram _ _ _ c.in-Ok.ensures.content _ c.diagram_in.result c.diagram_in.ensures.err
