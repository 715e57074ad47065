-- The pieces are those of the text's tokens, whose numbers and constants 126 bits hold; so their rows are the text's.
use Rattle.std.proofs.Common.{refl, sym, subst, ◌∙◌}
use Rattle.pa_math.specs.Answers.{IsAnswer, seen_as}
use Rattle.pa_grammar.specs.declared.fault.TermFault.TheVariants as F
use Rattle.pa_grammar.specs.Limits.{AllHaveValues}
use Rattle.pa_grammar.specs.Parsed.{tokens_in}
use Rattle.pa_grammar.specs.Scopes.{scope_with}
use Rattle.pa_grammar.specs.Sized.{AreSized}
use Rattle.pa_grammar.specs.Texts.{rows_answer}
use Rattle.pa_grammar.proofs.Sizes.{tokens_sized}
use Rattle.pa_grammar.proofs.TermAnswers.{rows_follow}
use Rattle.pa_grammar.proofs.terms.rows_with.Goals as goal

pub checked_rows-requires-clause-values : goal.checked_rows-requires-clause-values
checked_rows-requires-clause-values c =
    subst (λ vs. AllHaveValues vs) (sym c.deref-3.ensures.value) (c.in_ok-pieces.ensures.values
    (subst (λ placed. AreSized (tokens_in placed)) (sym (c.deref.ensures.value ∙ c.in-Ok.ensures))
    (tokens_sized (scope_with c.args.names.now c.args.constants.now) 0 0 c.args.text.now c.requires.fixed)))

pub returns : goal.returns
returns c =
    rows_follow (scope_with c.args.names.now c.args.constants.now) c.args.text.now c.deref.result.now c.deref-2.result.now _ c.len.result
    c.in_ok-pieces.pieces.items (seen_as (λ v. v.items) c.checked_rows.result)
    (c.deref.ensures.value ∙ c.in-Ok.ensures) (c.deref-2.ensures.value ∙ c.in-Ok.ensures) refl c.len.ensures.value c.in_ok-pieces.ensures.answer
    (subst (λ ps. IsAnswer F.Memory (rows_answer c.len.result c.deref-2.result.now ps) (seen_as (λ v. v.items) c.checked_rows.result)) c.deref-3.ensures.value
    c.checked_rows.ensures)
