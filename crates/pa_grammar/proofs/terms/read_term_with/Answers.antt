-- Each clause is a lemma about the answer that is due.
use Rattle.pa_grammar.specs.Scopes.{scope_with}
use Rattle.pa_grammar.proofs.RowColumns.{columns_clause}
use Rattle.pa_grammar.proofs.TermAnswers.{rows_clause, only_rows, meaning_clause, syntax_is, syntax_due, literal_is, literal_due}
use Rattle.pa_grammar.proofs.TermAnswers.{unknown_is, unknown_due, not_linear_is, not_linear_due, wide_is, wide_due}
use Rattle.pa_grammar.proofs.FixedValues.{fractions_fixed}
use Rattle.pa_grammar.proofs.terms.read_term_with.Goals as goal

pub rows_with-requires-clause-fixed : goal.rows_with-requires-clause-fixed
rows_with-requires-clause-fixed c = fractions_fixed c.args.constants.now.values.items c.requires.constants

pub returns-clause-rows : goal.returns-clause-rows
returns-clause-rows c =
    rows_clause (λ v. v.items) (scope_with c.args.names.now c.args.constants.now) c.args.text.now c.rows_with.result c.rows_with.ensures

pub returns-clause-only : goal.returns-clause-only
returns-clause-only c =
    λ rows are. only_rows (λ v. v.items) (scope_with c.args.names.now c.args.constants.now) c.args.text.now c.rows_with.result rows c.rows_with.ensures are

pub returns-clause-columns : goal.returns-clause-columns
returns-clause-columns c =
    columns_clause (λ v. v.items) (scope_with c.args.names.now c.args.constants.now) c.args.text.now c.rows_with.result c.rows_with.ensures

pub returns-clause-meaning : goal.returns-clause-meaning
returns-clause-meaning c =
    meaning_clause (λ v. v.items) (scope_with c.args.names.now c.args.constants.now) c.args.text.now c.rows_with.result c.rows_with.ensures

pub returns-clause-syntax : goal.returns-clause-syntax
returns-clause-syntax c =
    λ at is. syntax_is (λ v. v.items) (scope_with c.args.names.now c.args.constants.now) c.args.text.now c.rows_with.result at c.rows_with.ensures is

pub returns-clause-syntax_due : goal.returns-clause-syntax_due
returns-clause-syntax_due c =
    λ at is. syntax_due (λ v. v.items) (scope_with c.args.names.now c.args.constants.now) c.args.text.now c.rows_with.result at c.rows_with.ensures is

pub returns-clause-literal : goal.returns-clause-literal
returns-clause-literal c =
    λ at is. literal_is (λ v. v.items) (scope_with c.args.names.now c.args.constants.now) c.args.text.now c.rows_with.result at c.rows_with.ensures is

pub returns-clause-literal_due : goal.returns-clause-literal_due
returns-clause-literal_due c =
    λ at is. literal_due (λ v. v.items) (scope_with c.args.names.now c.args.constants.now) c.args.text.now c.rows_with.result at c.rows_with.ensures is

pub returns-clause-unknown : goal.returns-clause-unknown
returns-clause-unknown c =
    λ at is. unknown_is (λ v. v.items) (scope_with c.args.names.now c.args.constants.now) c.args.text.now c.rows_with.result at c.rows_with.ensures is

pub returns-clause-unknown_due : goal.returns-clause-unknown_due
returns-clause-unknown_due c =
    λ at is. unknown_due (λ v. v.items) (scope_with c.args.names.now c.args.constants.now) c.args.text.now c.rows_with.result at c.rows_with.ensures is

pub returns-clause-not_linear : goal.returns-clause-not_linear
returns-clause-not_linear c =
    λ at is. not_linear_is (λ v. v.items) (scope_with c.args.names.now c.args.constants.now) c.args.text.now c.rows_with.result at c.rows_with.ensures is

pub returns-clause-not_linear_due : goal.returns-clause-not_linear_due
returns-clause-not_linear_due c =
    λ at is. not_linear_due (λ v. v.items) (scope_with c.args.names.now c.args.constants.now) c.args.text.now c.rows_with.result at c.rows_with.ensures is

pub returns-clause-wide : goal.returns-clause-wide
returns-clause-wide c =
    λ is. wide_is (λ v. v.items) (scope_with c.args.names.now c.args.constants.now) c.args.text.now c.rows_with.result c.rows_with.ensures is

pub returns-clause-wide_due : goal.returns-clause-wide_due
returns-clause-wide_due c =
    λ is. wide_due (λ v. v.items) (scope_with c.args.names.now c.args.constants.now) c.args.text.now c.rows_with.result c.rows_with.ensures is
