use Rattle.std.proofs.Common.{◌∙◌, ap, length}
use Rattle.pa_engine.proofs.Puts.{if_err}
use Rattle.pa_engine.proofs.Turns.{front_of_first, front_of_answers, front_of_last, whole_report}
use Rattle.pa_engine.proofs.report.put_whole.Goals as goal

-- a front of the first line is a front of the report
pub returns-in_err-put_all-clause-front : goal.returns-in_err-put_all-clause-front
returns-in_err-put_all-clause-front g c = if_err c.from_residual.result (front_of_first c.args.table c.args.script.now _ _ c.in_err-put_all.ensures.front)

-- the first line and a front of the answers are one
pub returns-in_err-refused-clause-front : goal.returns-in_err-refused-clause-front
returns-in_err-refused-clause-front g c =
    if_err c.from_residual-in_err-refused.result
    (front_of_answers c.args.table c.args.script.now _ _ _ c.in_ok-put_all.ensures.all
    (rw (c.deref-lines.ensures.value, c.script.view_is) at c.in_err-refused.ensures.front))

-- so are the first line, the answers, and a front of the last line
pub returns-in_err-put_end-clause-front : goal.returns-in_err-put_end-clause-front
returns-in_err-put_end-clause-front g c =
    if_err c.from_residual-in_err-put_end.result
    (front_of_last c.args.table c.args.script.now _ _ _ _ _ (ap (λ ls. length ls) (c.deref-lines.ensures.value ∙ c.script.view_is)) c.in_ok-put_all.ensures.all
    (rw (c.deref-lines.ensures.value, c.script.view_is) at c.in_ok-refused.ensures.taken) c.in_err-put_end.ensures.front)

-- all three are the report
pub returns-clause-taken : goal.returns-clause-taken
returns-clause-taken g c =
    whole_report c.args.table c.args.script.now _ _ _ _ _ (ap (λ ls. length ls) (c.deref-lines.ensures.value ∙ c.script.view_is)) c.in_ok-put_all.ensures.all
    (rw (c.deref-lines.ensures.value, c.script.view_is) at c.in_ok-refused.ensures.taken) c.in_ok-put_end.ensures.taken
