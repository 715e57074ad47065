-- The rows of a text: what its reader answers, and the relation that says the same.
use Rattle.std.proofs.Common.{◌≡◌, ℕ, List, Ok}
use Rattle.pa_meaning.specs.Rows.{Row}
use Rattle.pa_grammar.specs.Lexer.{Scope}
use Rattle.pa_grammar.specs.Texts.{AreRowsOf, term_answer}
use Rattle.pa_grammar.proofs.TermAnswers.{rows_clause, due_only}

pub rows_say : (s : Scope) (text : List ℕ) (rows : List Row) → term_answer s text ≡ Ok rows → AreRowsOf s text rows
rows_say s text rows is = rows_clause {T = List Row} (λ rows. rows) s text (Ok rows) is

pub rows_due : (s : Scope) (text : List ℕ) (rows : List Row) → AreRowsOf s text rows → term_answer s text ≡ Ok rows
rows_due s text rows are = due_only s text are.term rows are.is_term_of are.is_linear are.rows_are
