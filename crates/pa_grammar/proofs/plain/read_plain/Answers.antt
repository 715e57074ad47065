-- Each clause is a lemma about the answer that is due.
use Rattle.pa_grammar.proofs.PlainAnswers.{linear_clause, only_linear, syntax_is, syntax_due, literal_is, literal_due, wide_is, wide_due, all_known, no_bars}
use Rattle.pa_grammar.proofs.plain.read_plain.Goals as goal

pub returns-clause-linear : goal.returns-clause-linear
returns-clause-linear c =
    linear_clause c.args.text.now c.text_linear.result c.text_linear.ensures

pub returns-clause-only : goal.returns-clause-only
returns-clause-only c =
    λ l is. only_linear c.args.text.now c.text_linear.result l c.text_linear.ensures is

pub returns-clause-syntax : goal.returns-clause-syntax
returns-clause-syntax c =
    λ at is. syntax_is c.args.text.now c.text_linear.result at c.text_linear.ensures is

pub returns-clause-syntax_due : goal.returns-clause-syntax_due
returns-clause-syntax_due c =
    λ at is. syntax_due c.args.text.now c.text_linear.result at c.text_linear.ensures is

pub returns-clause-literal : goal.returns-clause-literal
returns-clause-literal c =
    λ at is. literal_is c.args.text.now c.text_linear.result at c.text_linear.ensures is

pub returns-clause-literal_due : goal.returns-clause-literal_due
returns-clause-literal_due c =
    λ at is. literal_due c.args.text.now c.text_linear.result at c.text_linear.ensures is

pub returns-clause-wide : goal.returns-clause-wide
returns-clause-wide c =
    λ is. wide_is c.args.text.now c.text_linear.result c.text_linear.ensures is

pub returns-clause-wide_due : goal.returns-clause-wide_due
returns-clause-wide_due c =
    λ is. wide_due c.args.text.now c.text_linear.result c.text_linear.ensures is

pub returns-clause-known : goal.returns-clause-known
returns-clause-known c =
    λ at. all_known c.args.text.now c.text_linear.result at c.text_linear.ensures

pub returns-clause-bars : goal.returns-clause-bars
returns-clause-bars c =
    λ at. no_bars c.args.text.now c.text_linear.result at c.text_linear.ensures
