use Rattle.pa_cert.proofs.write.push_body.Goals as goal

pub returns-in-PivotLimit : goal.returns-in-PivotLimit
returns-in-PivotLimit c = rw c.in-PivotLimit.is c.push_task_line.ensures
