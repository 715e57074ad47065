-- The scope of names and of the code's constants.
use Rattle.std.specs.Prelude.{ℕ, List}
use Rattle.pa_grammar.specs.declared.lexer.Constants.{Constants}
use Rattle.pa_grammar.specs.Lexer.{Scope, scope}

abbrev pub scope_with : List (List ℕ) → Constants → Scope
scope_with names constants = scope names constants.names constants.values.items
