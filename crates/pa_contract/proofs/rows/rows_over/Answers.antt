-- The rows over the columns that were looked up are the rows over the names, and these say the same.
use Rattle.std.proofs.Common.{◌≡◌, ◌∙◌, ◌++◌, ap, sym, subst, map, List, Option, ℕ}
use Rattle.pa_meaning.specs.Rows.{Row}
use Rattle.pa_meaning.specs.Contracts.{ports, over_names}
use Rattle.pa_contract.specs.Columns.{over_columns}
use Rattle.pa_contract.specs.Moved.{SayTheSame}
use Rattle.pa_contract.specs.WellFormed.{IsWellFormed}
use Rattle.pa_contract.proofs.Meets.{moved_say}
use Rattle.pa_contract.proofs.Merged.{rows_over_places}
use Rattle.pa_contract.proofs.Steps.{IfOk-implied}
use Rattle.pa_contract.proofs.rows.rows_over.Goals as goal

pub returns-clause-value : goal.returns-clause-value
returns-clause-value c =
    let names = ports c.args.from.now in
    let wider = c.args.inputs.now ++ c.args.outputs.now in
    IfOk-implied (λ list. list.items ≡ map (over_columns c.deref.result.now) c.args.rows.now)
    (λ list. list.items ≡ map (over_names names wider) c.args.rows.now) c.all_over_columns.result
    (λ list e. rows_over_places names wider c.deref.result.now c.args.rows.now list.items
    (c.deref.ensures.value ∙ c.in_ok-columns.ensures) e) c.all_over_columns.ensures

pub returns-clause-truth : goal.returns-clause-truth
returns-clause-truth c =
    let names = ports c.args.from.now in
    let wider = c.args.inputs.now ++ c.args.outputs.now in
    IfOk-implied (λ list. list.items ≡ map (over_columns c.deref.result.now) c.args.rows.now)
    (λ list. SayTheSame names wider c.args.rows.now list.items) c.all_over_columns.result
    (λ list e. subst (SayTheSame names wider c.args.rows.now)
    (sym (rows_over_places names wider c.deref.result.now c.args.rows.now list.items (c.deref.ensures.value ∙ c.in_ok-columns.ensures) e))
    (moved_say names wider c.args.rows.now (subst IsWellFormed c.from.view_is c.from.invariant).distinct)) c.all_over_columns.ensures
