-- What the version of a diagram allows.
use Rattle.std.specs.Prelude.{ℕ, List}
use Rattle.pa_meaning.specs.Contracts.{Name}
use Rattle.pa_contract.specs.Nominal.{Nominal}
use Rattle.pa_grammar.specs.Lexer.{Scope, scope}

-- the constants, and how many ports a contract has at most
pub record Layout : Type 0 where
  pub constants : Nominal
  pub most_ports : ℕ

-- the names of the ports and constants
abbrev pub scope_of : Layout → List Name → Scope
scope_of layout names = scope names layout.constants.names layout.constants.values
