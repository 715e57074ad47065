use Rattle.pa_engine.proofs.Fetched.{script_stands, no_script}
use Rattle.pa_engine.proofs.inputs.script_at.Goals as goal

-- what was read of the bytes that were fetched is so of what stands at the path
pub returns-in-Ok-clause-ok : goal.returns-in-Ok-clause-ok
returns-in-Ok-clause-ok g c =
    script_stands _ _ _ c.in-Ok.ensures.content c.script_in.result c.script_in.ensures.ok

pub returns-in-Ok-clause-err : goal.returns-in-Ok-clause-err
returns-in-Ok-clause-err g c =
    no_script _ _ _ c.in-Ok.ensures.content _ c.script_in.result c.script_in.ensures.err
