use Rattle.pa_grammar.proofs.Examples.{two_constants}
use Rattle.pa_term.proofs.grammar_tests.constants_of.Goals as goal

pub returns-in-Ok : goal.returns-in-Ok
returns-in-Ok g c = two_constants c.in-Ok.values.items c.in-Ok.ensures.items
