-- A row without coefficients goes; of the others the search tells whether one stays, goes or is Wide.
use Rattle.std.proofs.Common.{◌≡◌, ◌∙◌, ◌∷◌, ◌++◌, [], List, ap, sym, subst, false, inr, rules, Ok, Result}
use Rattle.pa_math.specs.Answers.{IsAnswer}
use Rattle.pa_meaning.specs.Rows.{Row, row_at}
use Rattle.pa_witness.specs.Thinning.{is_constant}
use Rattle.pa_row.proofs.Turns.{row_at_read}
use Rattle.pa_fourier.specs.declared.fault.CleanFault.{CleanFault}
use Rattle.pa_fourier.specs.declared.fault.CleanFault.TheVariants.{Memory}
use Rattle.pa_math.specs.Answers.{seen_as}
use Rattle.pa_fourier.specs.Cleaning.{replaced_in}
use Rattle.pa_fourier.proofs.CleanTurns.{staying_constant, staying_due, staying_wide}
use Rattle.pa_fourier.proofs.cleaning.with_place.Goals as goal

pub returns-then-is_constant : goal.returns-then-is_constant
returns-then-is_constant c =
    let p : row_at c.args.rows.now c.args.place ≡ c.index-rows-place.result =
    row_at_read c.args.rows.now c.args.place c.index-rows-place.result c.requires.place ∙ sym c.index-rows-place.is in
    staying_constant c.args.kept.items c.args.rows.now c.args.place (row_at c.args.rows.now c.args.place)
    (ap is_constant p ∙ sym c.is_constant.ensures ∙ c.if-is_constant.true)

pub is_replaced-requires-clause-solid : goal.is_replaced-requires-clause-solid
is_replaced-requires-clause-solid c =
    let p : row_at c.args.rows.now c.args.place ≡ c.index-rows-place.result =
    row_at_read c.args.rows.now c.args.place c.index-rows-place.result c.requires.place ∙ sym c.index-rows-place.is in
    ap is_constant p ∙ sym c.is_constant.ensures ∙ c.if-is_constant.false

pub returns-in-Ok-false : goal.returns-in-Ok-false
returns-in-Ok-false c =
    let p : row_at c.args.rows.now c.args.place ≡ c.index-rows-place.result =
    row_at_read c.args.rows.now c.args.place c.index-rows-place.result c.requires.place ∙ sym c.index-rows-place.is in
    let solid : is_constant (row_at c.args.rows.now c.args.place) ≡ false = ap is_constant p ∙ sym c.is_constant.ensures ∙ c.if-is_constant.false in
    let told : Ok false ≡ replaced_in c.args.place (row_at c.args.rows.now c.args.place) 0 c.args.rows.now = search rules in
    subst (λ (due : Result (List Row) CleanFault). IsAnswer Memory due (seen_as (λ v. v.items) c.with_copy.result))
    (sym (staying_due c.args.kept.items c.args.rows.now c.args.place (row_at c.args.rows.now c.args.place) false solid told
    ∙ ap (λ (r : Row). Ok (c.args.kept.items ++ r ∷ [])) p)) c.with_copy.ensures

pub returns-in-Err : goal.returns-in-Err
returns-in-Err c =
    let p : row_at c.args.rows.now c.args.place ≡ c.index-rows-place.result =
    row_at_read c.args.rows.now c.args.place c.index-rows-place.result c.requires.place ∙ sym c.index-rows-place.is in
    let solid : is_constant (row_at c.args.rows.now c.args.place) ≡ false = ap is_constant p ∙ sym c.is_constant.ensures ∙ c.if-is_constant.false in
    inr (staying_wide c.args.kept.items c.args.rows.now c.args.place (row_at c.args.rows.now c.args.place) c.in-Err.field-0 solid c.in-Err.ensures)
