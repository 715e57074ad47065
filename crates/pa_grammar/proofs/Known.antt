-- Where no name of a text is unknown, each variable of its tree has a column.
use Rattle.std.proofs.Common.{◌≡◌, ◌<◌, ℕ, zero, suc, ◌-◌, ◌+◌, Bool, true, false, List, [], ◌∷◌, ◌++◌, length, take, Option, Some, None, refl, ap, sym}
use Rattle.std.proofs.Common.{subst, arith}
use Rattle.std.specs.Prelude.{slice_get, position, if◌then◌else◌, ◌==◌, ◌&&◌}
use Rattle.std.specs.List.{position_from}
use Rattle.std.specs.Str.{bytes_eq}
use Rattle.std.specs.Char.{is_ascii_digit}
use Rattle.std.proofs.lemmas.Bool.{cond_both}
use Rattle.std.proofs.lemmas.Iterator.Adapters.{position_from-zero}
use Rattle.pa_math.specs.Answers.{given}
use Rattle.pa_names.specs.Names.{is_name, begins_name}
use Rattle.pa_grammar.specs.declared.token.Sign.{Sign}
use Rattle.pa_grammar.specs.declared.token.Fixed.{Fixed}
use Rattle.pa_grammar.specs.declared.token.Relation.{Relation}
use Rattle.pa_grammar.specs.declared.token.Token.{Token}
use Rattle.pa_grammar.specs.declared.token.Token.TheVariants.{Signed, Star, Slash, Open, Close, Bar, Relates, Named, Number, Const, Bad}
use Rattle.pa_grammar.specs.declared.machine.Factor.{Factor}
use Rattle.pa_grammar.specs.Grammar.{Items, End, Constant, Variable, Bracket, BarPair, Term}
use Rattle.pa_grammar.specs.Grammar.{sign_tokens, factor_tokens, scale_tokens, tokens_of, others_tokens, term_tokens}
use Rattle.pa_grammar.specs.Lexer.{Scope, Lexeme, constant_value, word_token, word_len, follows_equal, sign_at, lexeme_at, is_blank, is_bad, tokens_from}
use Rattle.pa_grammar.specs.Met.{AreKnown, AllKnown}
use Rattle.pa_grammar.specs.Parsed.{tokens_in}

-- ---- the places of names

-- the place is within a list, or there is none
abbrev IsWithin : ℕ → Option ℕ → Type 0
IsWithin n None = Unit {0}
IsWithin n (Some j) = j < n

abbrev IsBelow : ℕ → Token → Type 0
IsBelow n (Named x) = IsWithin n x
IsBelow n (Number m) = Unit {0}
IsBelow n (Const c) = Unit {0}
IsBelow n (Signed s) = Unit {0}
IsBelow n Star = Unit {0}
IsBelow n Slash = Unit {0}
IsBelow n Open = Unit {0}
IsBelow n Close = Unit {0}
IsBelow n Bar = Unit {0}
IsBelow n (Relates r) = Unit {0}
IsBelow n Bad = Unit {0}

abbrev AreBelow : ℕ → List Token → Type 0
AreBelow n [] = Unit {0}
AreBelow n (t ∷ ts) = IsBelow n t × AreBelow n ts

within_from : {A : Type 0} (test : A → Bool) (i n : ℕ) (xs : List A) → i + length xs ≡ n → IsWithin n (position_from test i xs)
within_from test i n [] is = tt
within_from test i n (x ∷ xs) is =
    cond_both (test x) (Some i) (position_from test (i + 1) xs) (IsWithin n) (λ _. omega (arith, is)) (λ _. within_from test (i + 1) n xs (omega (arith, is)))

found_within : {A : Type 0} (test : A → Bool) (xs : List A) → IsWithin (length xs) (position test xs)
found_within test xs =
    subst (IsWithin (length xs)) (sym (position_from-zero test xs)) (within_from test 0 (length xs) xs (let e : 0 + length xs ≡ length xs = omega arith in e))

given_below : (n : ℕ) (o : Option Fixed) (x : Option ℕ) → IsWithin n x → IsBelow n (given (Named x) o Const)
given_below n None x is = is
given_below n (Some c) x is = tt

word_below : (s : Scope) (word : List ℕ) → IsBelow (length s.names) (word_token s word)
word_below s word = cond_both (is_name word) _ Bad (IsBelow (length s.names))
    (λ _. given_below (length s.names) (constant_value s.constants s.values word) (position (bytes_eq word) s.names) (found_within (bytes_eq word) s.names))
    (λ _. tt)

abbrev Below : ℕ → Lexeme → Type 0
Below n l = IsBelow n l.token

either : (n : ℕ) (b : Bool) (x y : Lexeme) → Below n x → Below n y → Below n (if b then x else y)
either n true x y hx hy = hx
either n false x y hx hy = hy

sign_below : (n b : ℕ) (bs : List ℕ) → Below n (sign_at b bs)
sign_below n b bs =
    either n (b == 43) _ _ tt (either n (b == 45) _ _ tt (either n (b == 42) _ _ tt (either n (b == 47) _ _ tt (either n (b == 40) _ _ tt
    (either n (b == 41) _ _ tt (either n (b == 124) _ _ tt (either n (b == 61) _ _ tt (either n (b == 60 && follows_equal bs) _ _ tt
    (either n (b == 62 && follows_equal bs) _ _ tt tt)))))))))

lexeme_below : (s : Scope) (b : ℕ) (bs : List ℕ) → Below (length s.names) (lexeme_at s b bs)
lexeme_below s b bs =
    either (length s.names) (is_ascii_digit b) _ _ tt
    (either (length s.names) (begins_name b) _ _ (word_below s (take (word_len (b ∷ bs)) (b ∷ bs))) (sign_below (length s.names) b bs))

-- each name of a text that is known has a place in the list
pub tokens_below : (s : Scope) (skip at : ℕ) (text : List ℕ) → AreBelow (length s.names) (tokens_in (tokens_from s skip at text))
tokens_below s skip at [] = tt
tokens_below s (suc skip) at (b ∷ bs) = tokens_below s skip (suc at) bs
tokens_below s zero at (b ∷ bs) =
    let l : Lexeme = lexeme_at s b bs in
    cond_both (is_blank b) _ _ (λ placed. AreBelow (length s.names) (tokens_in placed))
    (λ _. tokens_below s zero (suc at) bs)
    (λ _. (
      lexeme_below s b bs,
      cond_both (is_bad l.token) [] _ (λ placed. AreBelow (length s.names) (tokens_in placed)) (λ _. tt)
          (λ _. tokens_below s (l.len - 1) (suc at) bs),
    ))

-- ---- no name without a place

abbrev HasPlace : ℕ → Option ℕ → Type 0
HasPlace n None = ⊥
HasPlace n (Some j) = j < n

abbrev IsKnown : ℕ → Token → Type 0
IsKnown n (Named x) = HasPlace n x
IsKnown n (Number m) = Unit {0}
IsKnown n (Const c) = Unit {0}
IsKnown n (Signed s) = Unit {0}
IsKnown n Star = Unit {0}
IsKnown n Slash = Unit {0}
IsKnown n Open = Unit {0}
IsKnown n Close = Unit {0}
IsKnown n Bar = Unit {0}
IsKnown n (Relates r) = Unit {0}
IsKnown n Bad = Unit {0}

abbrev pub AreKnownTokens : ℕ → List Token → Type 0
AreKnownTokens n [] = Unit {0}
AreKnownTokens n (t ∷ ts) = IsKnown n t × AreKnownTokens n ts

place_known : (n : ℕ) (x : Option ℕ) → IsWithin n x → ¬ (Named x ≡ Named None) → HasPlace n x
place_known n None is other = absurd (other refl)
place_known n (Some j) is other = is

known_token : (n : ℕ) (t : Token) → IsBelow n t → ¬ (t ≡ Named None) → IsKnown n t
known_token n (Named x) is other = place_known n x is other
known_token n (Number m) is other = tt
known_token n (Const c) is other = tt
known_token n (Signed s) is other = tt
known_token n Star is other = tt
known_token n Slash is other = tt
known_token n Open is other = tt
known_token n Close is other = tt
known_token n Bar is other = tt
known_token n (Relates r) is other = tt
known_token n Bad is other = tt

pub known_tokens : (n : ℕ) (tokens : List Token) → AreBelow n tokens → ((place : ℕ) → ¬ (slice_get tokens place ≡ Some (Named None)))
    → AreKnownTokens n tokens
known_tokens n [] below names = tt
known_tokens n (t ∷ ts) below names =
    (known_token n t below.0 (λ is. names 0 (ap Some is)), known_tokens n ts below.1 (λ place is. names (suc place) is))

front_known : (n : ℕ) (xs ys : List Token) → AreKnownTokens n (xs ++ ys) → AreKnownTokens n xs
front_known n [] ys known = tt
front_known n (x ∷ xs) ys known = (known.0, front_known n xs ys known.1)

rest_known : (n : ℕ) (xs ys : List Token) → AreKnownTokens n (xs ++ ys) → AreKnownTokens n ys
rest_known n [] ys known = known
rest_known n (x ∷ xs) ys known = rest_known n xs ys known.1

-- behind an item's sign and factor
tail_known : (n : ℕ) (s : Option Sign) (front rest : List Token) → AreKnownTokens n (sign_tokens s ++ (front ++ rest)) → AreKnownTokens n rest
tail_known n s front rest known = rest_known n front rest (rest_known n (sign_tokens s) (front ++ rest) known)

variable_known : (n : ℕ) (s : Option Sign) (f : Option Factor) (star : Bool) (x : Option ℕ) (rest : Items) → HasPlace n x → AreKnown n rest
    → AreKnown n (Variable s f star x rest)
variable_known n s f star None rest has known = absurd has
variable_known n s f star (Some j) rest has known = (has, known)

pub items_known : (n : ℕ) (items : Items) → AreKnownTokens n (tokens_of items) → AreKnown n items
items_known n End known = tt
items_known n (Constant s f rest) known = items_known n rest (tail_known n s (factor_tokens f) (tokens_of rest) known)
items_known n (Variable s f star x rest) known =
    let own = tail_known n s (scale_tokens f star) (Named x ∷ tokens_of rest) known in
    variable_known n s f star x rest own.0 (items_known n rest own.1)
items_known n (Bracket s f star inner rest) known =
    let own = tail_known n s (scale_tokens f star) (Open ∷ (tokens_of inner ++ (Close ∷ tokens_of rest))) known in (
      items_known n inner (front_known n (tokens_of inner) (Close ∷ tokens_of rest) own.1),
      items_known n rest (rest_known n (tokens_of inner) (Close ∷ tokens_of rest) own.1).1,
    )
items_known n (BarPair s f star inner rest) known =
    let own = tail_known n s (scale_tokens f star) (Bar ∷ (tokens_of inner ++ (Bar ∷ tokens_of rest))) known in (
      items_known n inner (front_known n (tokens_of inner) (Bar ∷ tokens_of rest) own.1),
      items_known n rest (rest_known n (tokens_of inner) (Bar ∷ tokens_of rest) own.1).1,
    )

pub others_known : (n : ℕ) (r : Relation) (others : List Items) → AreKnownTokens n (others_tokens r others) → AllKnown n others
others_known n r [] known = tt
others_known n r (side ∷ sides) known = (
  items_known n side (front_known n (tokens_of side) (others_tokens r sides) known.1),
  others_known n r sides (rest_known n (tokens_of side) (others_tokens r sides) known.1),
)

pub term_known : (n : ℕ) (t : Term) → AreKnownTokens n (term_tokens t) → AreKnown n t.side × AllKnown n t.others
term_known n t known = (
  items_known n t.side (front_known n (tokens_of t.side) (others_tokens t.relation t.others) known),
  others_known n t.relation t.others (rest_known n (tokens_of t.side) (others_tokens t.relation t.others) known),
)
