-- The rows and the steps are those of what was taken apart.
use Rattle.std.proofs.Common.{refl, sym, subst, Result, IfOk}
use Rattle.pa_math.specs.Answers.{IsAnswer}
use Rattle.pa_math.proofs.Answers.{IsAnswer-handed_on}
use Rattle.pa_elim.specs.Projecting.{Projection, after_step, with_step}
use Rattle.pa_elim.specs.Seen.{IsNext}
use Rattle.pa_elim.specs.declared.fault.ElimFault.{ElimFault}
use Rattle.pa_elim.specs.declared.fault.ElimFault.TheVariants as fault
use Rattle.pa_elim.proofs.OneMore.{if_answered, next_is, one_more, unmade, unthinned}
use Rattle.pa_elim.proofs.step.after_step.Goals as goal

pub returns-in_err-new-clause-answer : goal.returns-in_err-new-clause-answer
returns-in_err-new-clause-answer c =
    subst (λ (p : Projection). IsAnswer fault.Memory (after_step c.args.limits.rows c.args.limits.pivots c.args.columns c.args.step c.args.column p)
    c.from_residual.result) c.projected.view_is
    (IsAnswer-handed_on fault.Memory c.in_err-new.field-0.0 _ c.from_residual.result c.from_residual.ensures.1
    (unmade c.args.limits.rows c.args.limits.pivots c.args.columns c.args.step c.args.column c.deref.result.now
    c.projected.inside.rows.items c.deref.result.now c.deref.result.now c.projected.inside.steps.items c.deref.ensures.value refl
    c.in_err-new.field-0.0 c.in_err-new.ensures.answer))

pub returns-in_err-thinned-clause-answer : goal.returns-in_err-thinned-clause-answer
returns-in_err-thinned-clause-answer c =
    subst (λ (p : Projection). IsAnswer fault.Memory (after_step c.args.limits.rows c.args.limits.pivots c.args.columns c.args.step c.args.column p)
    c.from_residual-in_err-thinned.result) c.projected.view_is
    (IsAnswer-handed_on fault.Memory c.in_err-thinned.field-0.0 _ c.from_residual-in_err-thinned.result c.from_residual-in_err-thinned.ensures.1
    (unthinned c.args.limits.rows c.args.limits.pivots c.args.columns c.args.step c.args.column c.deref.result.now
    c.projected.inside.rows.items c.in_ok-new.new.items c.deref-2.result.now c.projected.inside.steps.items c.deref.ensures.value c.deref-2.ensures.value
    c.in_ok-new.ensures.answer c.in_err-thinned.field-0.0 c.in_err-thinned.ensures.answer))

pub returns-clause-answer : goal.returns-clause-answer
returns-clause-answer c =
    subst (λ (p : Projection). IsAnswer fault.Memory (after_step c.args.limits.rows c.args.limits.pivots c.args.columns c.args.step c.args.column p)
    c.with_step.result) c.projected.view_is
    (subst (λ (due : Result Projection ElimFault). IsAnswer fault.Memory due c.with_step.result)
    (sym (one_more c.args.limits.rows c.args.limits.pivots c.args.columns c.args.step c.args.column c.deref.result.now
    c.projected.inside.rows.items c.in_ok-new.new.items c.deref-2.result.now c.projected.inside.steps.items c.deref.ensures.value c.deref-2.ensures.value
    c.in_ok-new.ensures.answer c.in_ok-thinned.thinned c.in_ok-thinned.ensures.answer))
    c.with_step.ensures)

pub returns-clause-next : goal.returns-clause-next
returns-clause-next c =
    subst (λ (p : Projection). IfOk c.with_step.result (IsNext c.args.limits.rows c.args.columns c.args.column p)) c.projected.view_is
    (if_answered fault.Memory (with_step c.projected.inside.steps.items c.in_ok-thinned.thinned) c.with_step.result
    (IsNext c.args.limits.rows c.args.columns c.args.column _) c.with_step.ensures
    (next_is c.args.limits.rows c.args.limits.pivots c.args.columns c.args.step c.args.column c.deref.result.now
    c.projected.inside.rows.items c.in_ok-new.new.items c.deref-2.result.now c.projected.inside.steps.items c.deref.ensures.value c.deref-2.ensures.value
    c.in_ok-thinned.thinned c.in_ok-new.ensures.value c.in_ok-new.ensures.within c.in_ok-thinned.ensures.truth))
