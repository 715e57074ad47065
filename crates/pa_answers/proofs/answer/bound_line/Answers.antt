use Rattle.std.proofs.Common.{◌≡◌, sym, ap, ◌∙◌, subst, IfOk}
use Rattle.pa_refine.specs.Bounding.{bounded_of}
use Rattle.pa_answers.specs.Answers.{bound_answer}
use Rattle.pa_answers.proofs.Truths.{bound_given}
use Rattle.pa_answers.proofs.answer.bound_line.Goals as goal

pub returns-in-Some : goal.returns-in-Some
returns-in-Some c =
    subst (λ due. IfOk c.bounded.result (λ answer. answer ≡ due))
    (ap (λ most. bound_answer c.in-Some.contract.now (bounded_of c.in-Some.contract.now c.args.goal.now c.args.least most)) c.limits.ensures.pivots
    ∙ sym (bound_given c.args.table.now c.args.of.now c.args.least c.args.goal.now c.in-Some.contract.now (sym c.in-Some.ensures)))
    c.bounded.ensures
