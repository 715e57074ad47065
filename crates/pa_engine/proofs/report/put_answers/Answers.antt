use Rattle.std.proofs.Common.{◌≡◌, ◌||◌, ◌∙◌, ap, sym, arith, Err}
use Rattle.pa_engine.proofs.Turns.{turns, breaks_off, stays, all_told}
use Rattle.pa_engine.proofs.report.put_answers.Goals as goal
use Rattle.pa_engine.proofs.report.put_answers.Goals.{then-refused, else-refused}

-- where a line is answered, the lines that are left are answered over the table past it
pub loop-line-preserved : goal.loop-line-preserved
loop-line-preserved g c =
    let told : c.if-refused.refused ≡ (c.loop-line.refused || c.in-Ok.is_refusal) = elim c.if-refused.branch [
      | then-refused w ↦ w.refused-is ∙ w.if-refused.true ∙ ap (λ b. b || c.in-Ok.is_refusal) (sym w.if-refused.true)
      | else-refused w ↦ w.refused-is ∙ ap (λ b. b || c.in-Ok.is_refusal) (sym w.if-refused.false)
    ] in
    let past = c.answer_next.ensures.advanced (λ h. absurd (cc)) in record {
      at = turns _ _ _ _ _ _ _ c.loop-line.invariant.at c.line-item.result c.loop-line-test.true c.line-item.is _ _ _ _
          c.in-Ok.ensures.taken past c.in-Ok.ensures.refused told;
      later = omega (arith, c.loop-line.invariant.later, c.in-Ok.ensures.cause.later);
    }

-- where memory runs out before an answer is put, what is put so far is a front
pub returns-in-Err-Memory-clause-front : goal.returns-in-Err-Memory-clause-front
returns-in-Err-Memory-clause-front g c =
    stays _ _ _ _ _ _ _ c.loop-line.invariant.at _ (c.answer_next.ensures.memory (c.in-Err-Memory.is ∙ ap Err c.in-Err-Memory.field-0-is)).1

-- a front of an answer, behind what is put so far, is a front
pub returns-in-Err-Write-clause-front : goal.returns-in-Err-Write-clause-front
returns-in-Err-Write-clause-front g c =
    breaks_off _ _ _ _ _ _ _ c.loop-line.invariant.at c.line-item.result c.loop-line-test.true c.line-item.is _ c.in-Err-Write.ensures.front

-- at the end it is told whether some answer is a refusal
pub returns-clause-refused : goal.returns-clause-refused
returns-clause-refused g c =
    all_told _ _ _ _ _ _ _ c.loop-line.invariant.at (let test = c.loop-line-test.false in omega (arith, test))
