-- Bad numbers and unknown names, the order of the faults, and constants: worked texts from the bytes, by the definitions.
use Rattle.std.proofs.Common.{◌≡◌, ℕ, List, [], ◌∷◌, Some, None, Result, Err, length, refl}
use Rattle.std.specs.Prelude.{pos, codes}
use Rattle.pa_grammar.specs.declared.machine.Mode.TheVariants.{Want}
use Rattle.pa_grammar.specs.declared.parse.ParseFault.{ParseFault}
use Rattle.pa_grammar.specs.declared.parse.ParseFault.TheVariants.{Syntax}
use Rattle.pa_grammar.specs.declared.token.Placed.{Placed}
use Rattle.pa_grammar.specs.declared.token.Token.TheVariants as K
use Rattle.pa_grammar.specs.declared.value.Value.{Value}
use Rattle.pa_grammar.specs.Lexer.{Scope, scope, plain_scope, tokens_of_text}
use Rattle.pa_grammar.specs.Machine.{term_start}
use Rattle.pa_grammar.specs.Parsed.{parsed, tokens_in}
use Rattle.pa_grammar.specs.Refused.{literal_fault, unknown_fault}
use Rattle.pa_grammar.specs.Value.{value_parsed}

abbrev placed : List ℕ → List Placed
placed text = tokens_of_text (plain_scope (codes "x" ∷ codes "y" ∷ [])) text

-- ---- worked texts

many_digits : literal_fault (placed (codes "1234567890123456789 x <= 1")) ≡ Some 0
many_digits = refl

denominator_zero : literal_fault (placed (codes "1/0 x <= 1")) ≡ Some 2
denominator_zero = refl

unknown_name : unknown_fault (placed (codes "x + z <= 1")) ≡ Some 4
unknown_name = refl

-- ---- further literals and names

name_behind_a_number : unknown_fault (placed (codes "2e <= z")) ≡ Some 1
name_behind_a_number = refl

zeros_counted : literal_fault (placed (codes "1.000000000000000000 <= x")) ≡ Some 0
zeros_counted = refl

nineteen_behind : literal_fault (placed (codes "x <= 0.0000000000000000000")) ≡ Some 5
nineteen_behind = refl

zero_with_exponent : literal_fault (placed (codes "0e19 <= x")) ≡ Some 0
zero_with_exponent = refl

padded : literal_fault (placed (codes "0000000000000000000000 x <= 1e0018")) ≡ None
padded = refl

first_of_two : literal_fault (placed (codes "1e19 <= 1/0")) ≡ Some 0
first_of_two = refl

zeros_below : literal_fault (placed (codes "1/00 <= z")) ≡ Some 2
zeros_below = refl

before_the_name : unknown_fault (placed (codes "1/00 <= z")) ≡ Some 8
before_the_name = refl

all_known : unknown_fault (placed (codes "2 x - 3 (y) >= 1")) ≡ None
all_known = refl

-- ---- constants: `cap` is 3/2

abbrev with_cap : Scope
with_cap = scope (codes "x" ∷ []) (codes "cap" ∷ []) ((pos 3, pos 2) ∷ [])

constant : tokens_in (tokens_of_text with_cap (codes "cap x")) ≡ K.Const (record { num = pos 3; den = pos 2 }) ∷ K.Named (Some 0) ∷ []
constant = refl

two_factors : parsed 10 term_start (tokens_of_text with_cap (codes "2 cap <= x")) ≡ Err (Syntax 2)
two_factors = refl

constant_behind : parsed 10 term_start (tokens_of_text with_cap (codes "x cap <= 1")) ≡ Err (Syntax 2)
constant_behind = refl

constant_over : parsed 10 term_start (tokens_of_text with_cap (codes "cap/2 <= x")) ≡ Err (Syntax 3)
constant_over = refl

-- ---- values

abbrev value : List ℕ → Result Value ParseFault
value text = value_parsed (length text) (Want None) (placed text)

name_behind : value (codes "2x") ≡ Err (Syntax 1)
name_behind = refl

decimal_over : value (codes "0.5/2") ≡ Err (Syntax 3)
decimal_over = refl

bracket : value (codes "(1)") ≡ Err (Syntax 0)
bracket = refl

cut_short : value (codes "1/") ≡ Err (Syntax 2)
cut_short = refl
