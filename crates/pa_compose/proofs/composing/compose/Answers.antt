-- What the definition answers holds, so that each clause does of what the call answers.
use Rattle.pa_compose.proofs.ComposeTold.{call_composite, call_exact, call_printed, call_refusal, call_refused, call_rounds}
use Rattle.pa_compose.proofs.ComposeUnlimited.{compose_unlimited}
use Rattle.pa_compose.proofs.composing.compose.Goals as goal

pub returns-clause-truth : goal.returns-clause-truth
returns-clause-truth c =
    call_composite c.args.limits.rows c.args.limits.pivots c.args.parts.now c.args.keep.now c.args.nominal.now c.args.limits.rows_in_range.greatest
    c.show_formed.ensures c.show_nominal.ensures c.composite.result c.composite.ensures

pub returns-clause-printed : goal.returns-clause-printed
returns-clause-printed c =
    call_printed c.args.limits.rows c.args.limits.pivots c.args.parts.now c.args.keep.now c.args.nominal.now c.args.limits.rows_in_range.greatest
    c.show_formed.ensures c.show_nominal.ensures c.composite.result c.composite.ensures

pub returns-clause-rounds : goal.returns-clause-rounds
returns-clause-rounds c =
    call_rounds c.args.limits.rows c.args.limits.pivots c.args.parts.now c.args.keep.now c.args.nominal.now c.args.limits.rows_in_range.greatest
    c.show_formed.ensures c.show_nominal.ensures c.composite.result c.composite.ensures

pub returns-clause-nominal : goal.returns-clause-nominal
returns-clause-nominal c =
    call_exact c.args.limits.rows c.args.limits.pivots c.args.parts.now c.args.keep.now c.args.nominal.now c.args.limits.rows_in_range.greatest
    c.show_formed.ensures c.show_nominal.ensures c.composite.result c.composite.ensures

pub returns-clause-refusals : goal.returns-clause-refusals
returns-clause-refusals c =
    call_refusal c.args.limits.rows c.args.limits.pivots c.args.parts.now c.args.keep.now c.args.nominal.now c.args.limits.rows_in_range.greatest
    c.show_formed.ensures c.show_nominal.ensures c.composite.result c.composite.ensures

pub returns-clause-refused : goal.returns-clause-refused
returns-clause-refused c =
    call_refused c.args.limits.rows c.args.limits.pivots c.args.parts.now c.args.keep.now c.args.nominal.now c.args.limits.rows_in_range.greatest
    c.show_formed.ensures c.show_nominal.ensures c.composite.result c.composite.ensures

pub returns-clause-unlimited : goal.returns-clause-unlimited
returns-clause-unlimited c bases =
    compose_unlimited c.args.limits.rows c.args.limits.pivots c.args.parts.now c.args.keep.now c.args.nominal.now c.args.limits.rows_in_range.greatest
    c.show_formed.ensures c.show_nominal.ensures bases c.composite.result c.composite.ensures
