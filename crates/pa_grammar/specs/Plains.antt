-- What a plain's text says: over the names that it mentions, whole numbers over one denominator. First what has to be believed, then what the
-- reader computes.
use Rattle.std.specs.Prelude.{◌≡◌, ◌&&◌, ℕ, suc, ℤ, pos, ◌<ℤ◌, List, [], ◌∷◌, ◌++◌, length, map, take, drop, All, Bool, true, false, Result, Ok, Err}
use Rattle.std.specs.Prelude.{if◌then◌else◌}
use Rattle.std.specs.Ordering.{int_eq}
use Rattle.std.specs.Str.{bytes_eq}
use Rattle.pa_ring.specs.Sums.{number_at}
use Rattle.pa_math.specs.Answers.{and_then, told_as, given}
use Rattle.pa_math.specs.Lists.{with_new}
use Rattle.pa_math.specs.Rational.{ℚ}
use Rattle.pa_names.specs.Names.{is_name}
use Rattle.pa_frac.specs.Width.{Fits}
use Rattle.pa_frac.specs.declared.wide.Wide.{Wide}
use Rattle.pa_meaning.specs.Rows.{Point}
-- `(c[0] x[0] + c[1] x[1] + .. + b) / q`, a number for each name
pub use Rattle.pa_meaning.specs.Bounds.{Goal as Linear}
use Rattle.pa_row.specs.Fractions.{point_in}
use Rattle.pa_grammar.specs.declared.fault.TermFault.{TermFault}
use Rattle.pa_grammar.specs.declared.fault.TermFault.TheVariants as F
use Rattle.pa_grammar.specs.declared.token.Placed.{Placed}
use Rattle.pa_grammar.specs.declared.token.Token.{Token}
use Rattle.pa_grammar.specs.declared.token.Token.TheVariants.{Signed, Star, Slash, Open, Close, Bar, Relates, Named, Number, Const, Bad}
use Rattle.pa_grammar.specs.declared.machine.Piece.{Piece}
use Rattle.pa_grammar.specs.Grammar.{Items, IsPlain, PlainTokens, tokens_of}
use Rattle.pa_grammar.specs.Lexer.{plain_scope, tokens_of_text, word_len}
use Rattle.pa_grammar.specs.Machine.{plain_start}
use Rattle.pa_grammar.specs.Parsed.{parsed, tokens_in, IsSyntaxFault}
use Rattle.pa_grammar.specs.Pieces.{vector_in}
use Rattle.pa_grammar.specs.Read.{as_term, bare_tokens, AreLiterals}
use Rattle.pa_grammar.specs.Refused.{IsLiteralFault, literal_fault}
use Rattle.pa_grammar.specs.Texts.{as_wide}
use Rattle.pa_grammar.specs.Values.{parts_of, side_of}

-- ---- the names that a text mentions

abbrev pub is_named : Token → Bool
is_named (Named x) = true
is_named (Number n) = false
is_named (Const c) = false
is_named (Signed s) = false
is_named Star = false
is_named Slash = false
is_named Open = false
is_named Close = false
is_named Bar = false
is_named (Relates r) = false
is_named Bad = false

-- the word that begins at a byte
abbrev pub word_at : List ℕ → ℕ → List ℕ
word_at text at = take (word_len (drop at text)) (drop at text)

-- a token's name, where it is one and does not stand there yet
abbrev pub with_name : List ℕ → List (List ℕ) → Placed → List (List ℕ)
with_name text names p = if is_named p.token && is_name (word_at text p.at) then with_new bytes_eq names (word_at text p.at) else names

abbrev pub with_names : List ℕ → List (List ℕ) → List Placed → List (List ℕ)
with_names text names [] = names
with_names text names (p ∷ ps) = with_names text (with_name text names p) ps

-- the names in the order of first mention
abbrev pub mentioned : List ℕ → List (List ℕ)
mentioned text = with_names text [] (bare_tokens text)

-- the tokens over these names
abbrev pub plain_tokens : List ℕ → List Placed
plain_tokens text = tokens_of_text (plain_scope (mentioned text)) text

-- ---- sums over one denominator

-- a number for each name, a denominator of at least 1, and each number within 126 bits
pub record IsNarrowLinear (l : Linear) : Type 0 where
  pub columns : length l.c ≡ length l.names
  pub positive : pos 0 <ℤ l.q
  pub numbers : All (Fits 126) l.c
  pub constant : Fits 126 l.b
  pub denominator : Fits 126 l.q

-- one more name, and its number, where the number is not 0
abbrev pub with_kept : List (List ℕ) → List ℕ → ℤ → List (List ℕ)
with_kept names name n = if int_eq n (pos 0) then names else with_new bytes_eq names name

abbrev pub with_number : List ℤ → ℤ → List ℤ
with_number ns n = if int_eq n (pos 0) then ns else ns ++ n ∷ []

-- the names from a place on whose number is not 0
abbrev pub names_from : ℕ → List (List ℕ) → List ℤ → List (List ℕ)
names_from i [] ns = []
names_from i (x ∷ xs) ns = if int_eq (number_at ns i) (pos 0) then names_from (suc i) xs ns else x ∷ names_from (suc i) xs ns

-- these numbers
abbrev pub numbers_from : ℕ → List (List ℕ) → List ℤ → List ℤ
numbers_from i [] ns = []
numbers_from i (x ∷ xs) ns = if int_eq (number_at ns i) (pos 0) then numbers_from (suc i) xs ns else number_at ns i ∷ numbers_from (suc i) xs ns

abbrev pub kept_names : List (List ℕ) → List ℤ → List (List ℕ)
kept_names names ns = names_from 0 names ns

abbrev pub kept_numbers : List (List ℕ) → List ℤ → List ℤ
kept_numbers names ns = numbers_from 0 names ns

-- the number behind those of the names is the constant
abbrev pub linear_with : List (List ℕ) → Point → Linear
linear_with names x = record { names = kept_names names x.p; c = kept_numbers names x.p; b = number_at x.p (length names); q = x.q }

-- the fractions of names and of the constant, over the least common multiple of their denominators
abbrev pub linear_of : List (List ℕ) → List ℚ → Result Linear Wide
linear_of names v = and_then (point_in (map parts_of v)) (λ x. Ok (linear_with names x))

-- the items' sum, by fractions of at most 126 bits
abbrev pub items_linear : List (List ℕ) → Items → Result Linear Wide
items_linear names items = and_then (side_of (length names) items) (λ side. linear_of names side.vector)

-- ---- what a text says

-- the text is this plain, and no number of it is refused
pub record IsPlainOf (text : List ℕ) (items : Items) : Type 0 where
  pub is_plain : IsPlain items
  pub tokens_are : tokens_of items ≡ tokens_in (plain_tokens text)
  pub literals : AreLiterals (plain_tokens text)

-- the sum is that of a plain that the text is
pub record IsLinearOf (text : List ℕ) (l : Linear) : Type 0 where
  pub items : Items
  pub is_plain_of : IsPlainOf text items
  pub linear_is : items_linear (mentioned text) items ≡ Ok l

-- no plain goes on with the token at this byte
abbrev pub IsSyntaxPlain : List ℕ → ℕ → Type 0
IsSyntaxPlain text at = IsSyntaxFault PlainTokens (plain_tokens text) (length text) at

-- the text is a plain, and its first bad number is at this byte
abbrev pub IsLiteralPlain : List ℕ → ℕ → Type 0
IsLiteralPlain text at = PlainTokens (tokens_in (plain_tokens text)) × IsLiteralFault (plain_tokens text) at

-- the text is a plain without a bad number, and an operation passes 126 bits
pub record IsWidePlain (text : List ℕ) : Type 0 where
  pub items : Items
  pub is_plain_of : IsPlainOf text items
  pub wide : items_linear (mentioned text) items ≡ Err (record {})

-- ---- what the reader computes

abbrev pub pieces_linear : List (List ℕ) → List Piece → Result Linear Wide
pieces_linear names pieces = and_then (vector_in (length names) pieces) (linear_of names)

-- the pieces of a plain's tokens, where no number is refused
abbrev pub plain_pieces_answer : ℕ → List Placed → Result (List Piece) TermFault
plain_pieces_answer end placed = and_then (told_as as_term (parsed end plain_start placed))
    (λ pieces. given (Ok pieces) (literal_fault placed) (λ at. Err (F.Literal at)))

abbrev pub plain_answer : List ℕ → Result Linear TermFault
plain_answer text = and_then (plain_pieces_answer (length text) (plain_tokens text)) (λ pieces. told_as as_wide (pieces_linear (mentioned text) pieces))
