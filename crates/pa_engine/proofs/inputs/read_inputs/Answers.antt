use Rattle.std.proofs.Common.{arith}
use Rattle.pa_engine.proofs.Fetched.{stops_at_script}
use Rattle.pa_engine.proofs.inputs.read_inputs.Goals as goal

-- behind a diagram that was read, what stops the run at the script stops it
pub returns-in-Err-clause-err : goal.returns-in-Err-clause-err
returns-in-Err-clause-err g c =
    stops_at_script _ _ _ _ (λ rose. omega (arith, rose, c.diagram_at.ensures.later)) _ c.in_ok-diagram.ensures.ok _
    (rw c.diagram_at.ensures.same at c.in-Err.ensures.err)
