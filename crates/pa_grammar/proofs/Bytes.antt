-- Texts read from their bytes by the definitions.
use Rattle.std.proofs.Common.{◌≡◌, ℕ, List, [], ◌∷◌, Some, None, true, false, Result, Err, length, refl}
use Rattle.std.specs.Prelude.{pos, negsuc, codes}
use Rattle.pa_grammar.specs.declared.token.Relation.TheVariants.{AtLeast}
use Rattle.pa_grammar.specs.declared.token.Token.TheVariants as K
use Rattle.pa_grammar.specs.declared.machine.Piece.{Piece}
use Rattle.pa_grammar.specs.declared.parse.ParseFault.{ParseFault}
use Rattle.pa_grammar.specs.declared.parse.ParseFault.TheVariants.{Syntax}
use Rattle.pa_grammar.specs.Lexer.{plain_scope, tokens_of_text, numeral_at}
use Rattle.pa_grammar.specs.Machine.{term_start}
use Rattle.pa_grammar.specs.Parsed.{parsed, tokens_in}

abbrev names : List (List ℕ)
names = codes "x" ∷ codes "y" ∷ []

abbrev read : List ℕ → Result (List Piece) ParseFault
read text = parsed (length text) term_start (tokens_of_text (plain_scope names) text)

-- `1e-3 x >= 1`
thousandth : tokens_in (tokens_of_text (plain_scope names) (codes "1e-3 x >= 1"))
    ≡ K.Number (record { plain = false; value = Some (record { digits = 1; power = negsuc 2 }) }) ∷ K.Named (Some 0) ∷ K.Relates AtLeast
    ∷ K.Number (record { plain = true; value = Some (record { digits = 1; power = pos 0 }) }) ∷ []
thousandth = refl

half : numeral_at (codes "0.5 x") ≡ record { plain = false; value = Some (record { digits = 5; power = negsuc 0 }) }
half = refl

nineteen_digits : numeral_at (codes "1234567890123456789 x <= 1") ≡ record { plain = true; value = None }
nineteen_digits = refl

padded_exponent : numeral_at (codes "1e0018") ≡ record { plain = false; value = Some (record { digits = 1; power = pos 18 }) }
padded_exponent = refl

unknown : tokens_in (tokens_of_text (plain_scope names) (codes "2e z"))
    ≡ K.Number (record { plain = true; value = Some (record { digits = 2; power = pos 0 }) }) ∷ K.Named None ∷ K.Named None ∷ []
unknown = refl

bad_word : tokens_in (tokens_of_text (plain_scope names) (codes "2keep <= x"))
    ≡ K.Number (record { plain = true; value = Some (record { digits = 2; power = pos 0 }) }) ∷ K.Bad ∷ []
bad_word = refl

two_names : read (codes "2 x y <= 1") ≡ Err (Syntax 4)
two_names = refl

no_relation : read (codes "x < 1") ≡ Err (Syntax 2)
no_relation = refl

empty : read [] ≡ Err (Syntax 0)
empty = refl

third_pair : read (codes "|x| + |y| + 2|x| <= 1") ≡ Err (Syntax 13)
third_pair = refl

fraction_of_decimal : read (codes "0.5/2 <= x") ≡ Err (Syntax 3)
fraction_of_decimal = refl

cut_short : read (codes "x <= ") ≡ Err (Syntax 5)
cut_short = refl
