-- The rows are due where no pair is faulty, and else the place of the first one.
use Rattle.std.proofs.Common.{sym, subst, inr, Err, ◌∙◌}
use Rattle.pa_math.specs.Answers.{IsAnswer, told_as}
use Rattle.pa_math.proofs.Answers.{told_as_ok}
use Rattle.pa_row.specs.declared.fault.RowFault.TheVariants.{Memory}
use Rattle.pa_row.specs.Answers.{as_fault}
use Rattle.pa_grammar.specs.Chosen.{rows_in}
use Rattle.pa_grammar.proofs.TermAnswers.{rows_found, rows_wide, wide_told, pair_found}
use Rattle.pa_grammar.proofs.linear.checked_rows.Goals as goal

pub returns-in-Some : goal.returns-in-Some
returns-in-Some c = inr (pair_found c.args.names c.args.tokens.now c.args.pieces.now c.in-Some.pair c.fault_place-at.result
    (sym c.first_fault.ensures ∙ c.in-Some.is) c.fault_place-at.ensures)

pub returns-in-Ok : goal.returns-in-Ok
returns-in-Ok c = rows_found c.args.names c.args.tokens.now c.args.pieces.now c.in-Ok.rows.items (sym c.first_fault.ensures ∙ c.in_default.is)
    (told_as_ok as_fault _ _ c.in-Ok.ensures)

pub returns-in-Err-Wide : goal.returns-in-Err-Wide
returns-in-Err-Wide c = inr (rows_wide c.args.names c.args.tokens.now c.args.pieces.now (sym c.first_fault.ensures ∙ c.in_default.is)
    (wide_told (rows_in c.args.names c.args.pieces.now)
    (subst (λ f. IsAnswer Memory (told_as as_fault (rows_in c.args.names c.args.pieces.now)) (Err f)) c.in-Err-Wide.field-0-is c.in-Err-Wide.ensures)))
