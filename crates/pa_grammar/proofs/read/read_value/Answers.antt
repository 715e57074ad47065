use Rattle.pa_grammar.proofs.Answered.{value_is, value_due, syntax_is, syntax_due, literal_is, literal_due}
use Rattle.pa_grammar.proofs.read.read_value.Goals as goal

pub returns-clause-value : goal.returns-clause-value
returns-clause-value c = value_is c.args.text.now c.value_in.result c.value_in.ensures.answer

pub returns-clause-only : goal.returns-clause-only
returns-clause-only c = λ v is_value same literals. value_due c.args.text.now c.value_in.result v c.value_in.ensures.answer is_value same literals

pub returns-clause-syntax : goal.returns-clause-syntax
returns-clause-syntax c = λ at is. syntax_is c.args.text.now c.value_in.result at c.value_in.ensures.answer is

pub returns-clause-syntax_due : goal.returns-clause-syntax_due
returns-clause-syntax_due c = λ at fault. syntax_due c.args.text.now c.value_in.result at c.value_in.ensures.answer fault

pub returns-clause-literal : goal.returns-clause-literal
returns-clause-literal c = λ at is. literal_is c.args.text.now c.value_in.result at c.value_in.ensures.answer is

pub returns-clause-literal_due : goal.returns-clause-literal_due
returns-clause-literal_due c = λ at is first. literal_due c.args.text.now c.value_in.result at c.value_in.ensures.answer is first
