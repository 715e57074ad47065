-- Which rows a term's text has over names and constants, and when it has none. First what has to be believed, then what the reader computes.
use Rattle.std.specs.Prelude.{◌≡◌, ◌↔◌, ◌≤◌, ◌^◌, ℕ, ℤ, pos, ◌<ℤ◌, unsigned_abs, List, length, slice_get, true, None, Result, Ok, Err}
use Rattle.pa_math.specs.Answers.{and_then, told_as, given}
use Rattle.pa_math.specs.Divisors.{IsReduced}
use Rattle.pa_frac.specs.declared.wide.Wide.{Wide}
use Rattle.pa_meaning.specs.Rows.{Row, Point}
use Rattle.pa_grammar.specs.declared.fault.TermFault.{TermFault}
use Rattle.pa_grammar.specs.declared.fault.TermFault.TheVariants as F
use Rattle.pa_grammar.specs.declared.token.Placed.{Placed}
use Rattle.pa_grammar.specs.declared.machine.Piece.{Piece}
use Rattle.pa_grammar.specs.Grammar.{Term, IsTerm, TermTokens, term_tokens}
use Rattle.pa_grammar.specs.Lexer.{Scope, tokens_of_text}
use Rattle.pa_grammar.specs.Machine.{term_start}
use Rattle.pa_grammar.specs.Meaning.{TextHolds}
use Rattle.pa_grammar.specs.Met.{AreMet}
use Rattle.pa_grammar.specs.Parsed.{parsed, tokens_in, IsSyntaxFault}
use Rattle.pa_grammar.specs.Read.{as_term, AreLiterals}
use Rattle.pa_grammar.specs.Refused.{IsUnknown, IsLiteralFault, IsUnknownFault, literal_fault, unknown_fault}
use Rattle.pa_grammar.specs.Values.{pair_faults, term_rows}
use Rattle.pa_grammar.specs.Faults.{first_true, IsNotLinear, openings, piece_faults}
use Rattle.pa_grammar.specs.Chosen.{rows_in}

-- ---- constants

-- in lowest terms, each number at most 10^36 in size
pub record IsConstant (value : ℤ × ℤ) : Type 0 where
  pub reduced : IsReduced value.0 value.1
  pub numerator : unsigned_abs value.0 ≤ 10 ^ 36
  pub denominator : unsigned_abs value.1 ≤ 10 ^ 36

-- ---- what a text says

-- no name is unknown
abbrev pub AreNames : List Placed → Type 0
AreNames placed = (place : ℕ) → ¬ IsUnknown (tokens_in placed) place

-- the text is this term, and no number and no name of it is refused
pub record IsTermOf (s : Scope) (text : List ℕ) (t : Term) : Type 0 where
  pub is_term : IsTerm t
  pub tokens_are : term_tokens t ≡ tokens_in (tokens_of_text s text)
  pub literals : AreLiterals (tokens_of_text s text)
  pub names : AreNames (tokens_of_text s text)

-- no bar pair is faulty
abbrev pub IsLinear : Term → Type 0
IsLinear t = first_true (pair_faults t) ≡ None

-- the rows are those of a term that the text is
pub record AreRowsOf (s : Scope) (text : List ℕ) (rows : List Row) : Type 0 where
  pub term : Term
  pub is_term_of : IsTermOf s text term
  pub is_linear : IsLinear term
  pub rows_are : term_rows (length s.names) term ≡ Ok rows

-- a point meets the rows exactly where it meets the text
abbrev pub SayTheText : Scope → List ℕ → List Row → Type 0
SayTheText s text rows = (t : Term) → IsTermOf s text t → (x : Point) → pos 0 <ℤ x.q → AreMet rows x ↔ TextHolds x t

-- ---- when a text has no rows

-- no term goes on with the token at this byte
abbrev pub IsSyntaxText : Scope → List ℕ → ℕ → Type 0
IsSyntaxText s text at = IsSyntaxFault TermTokens (tokens_of_text s text) (length text) at

-- the text is a term, and its first bad number is at this byte
abbrev pub IsLiteralText : Scope → List ℕ → ℕ → Type 0
IsLiteralText s text at = TermTokens (tokens_in (tokens_of_text s text)) × IsLiteralFault (tokens_of_text s text) at

-- the text is a term without a bad number, and its first unknown name is at this byte
abbrev pub IsUnknownText : Scope → List ℕ → ℕ → Type 0
IsUnknownText s text at =
    TermTokens (tokens_in (tokens_of_text s text)) × AreLiterals (tokens_of_text s text) × IsUnknownFault (tokens_of_text s text) at

-- the text is a term whose numbers and names are read, and its first faulty bar pair opens at this byte
pub record IsNotLinearText (s : Scope) (text : List ℕ) (at : ℕ) : Type 0 where
  pub term : Term
  pub is_term_of : IsTermOf s text term
  pub not_linear : IsNotLinear term (tokens_of_text s text) at

-- the text is a term without another fault, and an operation passes 126 bits
pub record IsWideText (s : Scope) (text : List ℕ) : Type 0 where
  pub term : Term
  pub is_term_of : IsTermOf s text term
  pub is_linear : IsLinear term
  pub wide : term_rows (length s.names) term ≡ Err (record {})

-- ---- what the reader computes

abbrev pub as_wide : Wide → TermFault
as_wide wide = F.Wide

-- the rows of pieces, or the byte where their first faulty bar pair opens; each pair has its opening bar
abbrev pub rows_answer : ℕ → List Placed → List Piece → Result (List Row) TermFault
rows_answer names placed pieces = given (told_as as_wide (rows_in names pieces)) (first_true (piece_faults pieces))
    (λ pair. given (Err F.Wide) (slice_get (openings true placed) pair) (λ at. Err (F.NotLinear at)))

-- the pieces of a term's tokens, where no number and then no name is refused
abbrev pub pieces_answer : ℕ → List Placed → Result (List Piece) TermFault
pieces_answer end placed = and_then (told_as as_term (parsed end term_start placed))
    (λ pieces. given (given (Ok pieces) (unknown_fault placed) (λ at. Err (F.UnknownName at))) (literal_fault placed) (λ at. Err (F.Literal at)))

abbrev pub tokens_answer : ℕ → ℕ → List Placed → Result (List Row) TermFault
tokens_answer names end placed = and_then (pieces_answer end placed) (rows_answer names placed)

-- the rows of a text, or its first fault
abbrev pub term_answer : Scope → List ℕ → Result (List Row) TermFault
term_answer s text = tokens_answer (length s.names) (length text) (tokens_of_text s text)
