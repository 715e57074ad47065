-- What the readers answer.
use Rattle.std.specs.Prelude.{◌≡◌, ℕ, ℤ, List, [], length, Result, Ok, Err, None}
use Rattle.pa_math.specs.Answers.{and_then, told_as, given}
use Rattle.pa_math.specs.Rational.{ℚ, den}
use Rattle.pa_grammar.specs.declared.fault.TermFault.{TermFault}
use Rattle.pa_grammar.specs.declared.fault.TermFault.TheVariants as F
use Rattle.pa_grammar.specs.declared.parse.ParseFault.{ParseFault}
use Rattle.pa_grammar.specs.declared.parse.ParseFault.TheVariants.{Memory, Syntax}
use Rattle.pa_grammar.specs.declared.machine.Mode.TheVariants.{Want}
use Rattle.pa_grammar.specs.declared.token.Placed.{Placed}
use Rattle.pa_grammar.specs.declared.value.Value.{Value}
use Rattle.pa_grammar.specs.Lexer.{Scope, plain_scope, tokens_of_text}
use Rattle.pa_grammar.specs.Machine.{term_start}
use Rattle.pa_grammar.specs.declared.machine.Piece.{Piece}
use Rattle.pa_grammar.specs.Parsed.{parsed, tokens_in}
use Rattle.pa_grammar.specs.Refused.{IsBadLiteral, literal_fault, unknown_fault}
use Rattle.pa_grammar.specs.Value.{value_tokens, IsValue, value_of, value_parsed}

-- the tokens of a text without names and constants
abbrev pub bare_tokens : List ℕ → List Placed
bare_tokens text = tokens_of_text (plain_scope []) text

abbrev pub as_term : ParseFault → TermFault
as_term Memory = F.Memory
as_term (Syntax at) = F.Syntax at

-- the numerator and the denominator, in lowest terms
abbrev pub parts : ℚ → ℤ × ℤ
parts q = (q.num, den q)

-- the value, where no number is refused
abbrev pub unrefused : List Placed → Value → Result (ℤ × ℤ) TermFault
unrefused placed v = given (Ok (parts (value_of v))) (literal_fault placed) (λ at. Err (F.Literal at))

abbrev pub value_answer : List ℕ → Result (ℤ × ℤ) TermFault
value_answer text = and_then (told_as as_term (value_parsed (length text) (Want None) (bare_tokens text))) (unrefused (bare_tokens text))

-- no number is refused
abbrev pub AreLiterals : List Placed → Type 0
AreLiterals placed = (place : ℕ) → ¬ IsBadLiteral (tokens_in placed) place

-- the text is a value without a refused number, and the answer is its fraction in lowest terms
pub record IsValueOf (text : List ℕ) (answer : ℤ × ℤ) : Type 0 where
  pub value : Value
  pub is_value : IsValue value
  pub tokens_are : value_tokens value ≡ tokens_in (bare_tokens text)
  pub literals : AreLiterals (bare_tokens text)
  pub answer_is : answer ≡ parts (value_of value)

-- the pieces of a term's text, where no number and then no name is refused
abbrev pub term_pieces_of : Scope → List ℕ → Result (List Piece) TermFault
term_pieces_of s text = and_then (told_as as_term (parsed (length text) term_start (tokens_of_text s text)))
    (λ pieces. given (given (Ok pieces) (unknown_fault (tokens_of_text s text)) (λ at. Err (F.UnknownName at))) (literal_fault (tokens_of_text s text)) (λ
    at. Err (F.Literal at)))
