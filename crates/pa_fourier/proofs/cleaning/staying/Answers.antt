-- Each turn adds what one row gives; the first refusal is the answer.
use Rattle.std.proofs.Common.{◌∙◌, ◌∷◌, ◌+◌, [], List, drop, ap, Result}
use Rattle.pa_math.specs.Answers.{and_then}
use Rattle.pa_meaning.specs.Rows.{Row, row_at}
use Rattle.pa_fourier.specs.declared.fault.CleanFault.{CleanFault}
use Rattle.pa_fourier.specs.Cleaning.{staying_in}
use Rattle.pa_fourier.proofs.CleanTurns.{staying_turn, stopped_here, clean_handed_on}
use Rattle.pa_fourier.proofs.cleaning.staying.Goals as goal

pub returns-in_err-kept : goal.returns-in_err-kept
returns-in_err-kept c =
    clean_handed_on _ c.in_err-kept.field-0.0 _ c.from_residual.result c.from_residual.ensures.1
    (stopped_here _ (staying_in c.loop-place.kept.items c.args.rows.now c.loop-place.place (row_at c.args.rows.now c.loop-place.place ∷ []))
    (λ now. staying_in now c.args.rows.now (c.loop-place.place + 1) (drop (c.loop-place.place + 1) c.args.rows.now)) _
    (c.loop-place.invariant ∙ staying_turn c.loop-place.kept.items c.args.rows.now c.args.rows.now c.loop-place.place c.loop-place-test.true)
    c.in_err-kept.ensures)

pub loop-place-preserved : goal.loop-place-preserved
loop-place-preserved c =
    c.loop-place.invariant ∙ staying_turn c.loop-place.kept.items c.args.rows.now c.args.rows.now c.loop-place.place c.loop-place-test.true
    ∙ ap (λ (t : Result (List Row) CleanFault). and_then t
    (λ now. staying_in now c.args.rows.now (c.loop-place.place + 1) (drop (c.loop-place.place + 1) c.args.rows.now))) c.in_ok-kept.ensures
