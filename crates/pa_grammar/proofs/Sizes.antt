-- The numbers of the lexer's tokens are within the limits.
use Rattle.std.proofs.Common.{◌≡◌, ℕ, zero, suc, ◌-◌, ◌≤◌, Bool, true, false, List, [], ◌∷◌, ◌++◌, take, drop, length, Option, Some, None, ap, ◌∙◌, arith}
use Rattle.std.specs.Prelude.{ℤ, pos, negsuc, neg_ℤ, ◌+ℤ◌, ◌≤ℤ◌, nat_le, ◌^◌, unsigned_abs, All, slice_get, position, option_map, option_and_then}
use Rattle.std.specs.Prelude.{if◌then◌else◌, ◌==◌, ◌&&◌}
use Rattle.std.specs.List.{AllPass}
use Rattle.std.specs.Str.{bytes_eq}
use Rattle.std.specs.Str.Parse.{digits_value}
use Rattle.std.specs.Char.{is_ascii_digit}
use Rattle.std.proofs.lemmas.Bool.{cond_both, and_parts, leb-true, eqb-true}
use Rattle.std.proofs.lemmas.Int.{ints}
use Rattle.std.proofs.lemmas.List.Elements.{All-head, All-tail}
use Rattle.pa_math.specs.Answers.{given}
use Rattle.pa_frac.specs.Width.{Fits}
use Rattle.pa_names.specs.Names.{is_name, begins_name}
use Rattle.pa_grammar.specs.declared.token.Token.TheVariants.{Named, Const, Bad}
use Rattle.pa_grammar.specs.Limits.{IsPower, IsFixed}
use Rattle.pa_grammar.specs.Lexer.{Scope, Lexeme, digits_len, point_len, exponent_len, whole_digits, behind_whole, behind_point, fraction_digits}
use Rattle.pa_grammar.specs.Lexer.{exponent_text, number_len, is_plain, exponent_digits, exponent_value, begins_minus, decimal_with, numeral_at, significant}
use Rattle.pa_grammar.specs.Lexer.{fixed, word_token, word_len, follows_equal, sign_at, lexeme_at, is_blank, is_bad, tokens_from}
use Rattle.pa_grammar.specs.Parsed.{tokens_in}
use Rattle.pa_grammar.specs.Texts.{IsConstant}
use Rattle.pa_grammar.specs.Sized.{IsSizedValue, IsSized, AreSized, AreFixed}
use Rattle.pa_grammar.proofs.Decimals.{whole_passes, fraction_passes, both_pass, few_digits}

-- ---- powers

power_in : (z : ℤ) → neg_ℤ (pos 36) ≤ℤ z → z ≤ℤ pos 18 → IsPower z
power_in (pos n) least most = omega (arith, ints, most)
power_in (negsuc n) least most = omega (arith, ints, least)

power_sized : (e : ℤ) (k : ℕ) → neg_ℤ (pos 18) ≤ℤ e → e ≤ℤ pos 18 → k ≤ 18 → IsPower (e +ℤ neg_ℤ (pos k))
power_sized e k least most few = power_in (e +ℤ neg_ℤ (pos k)) (omega (arith, ints, least, few)) (omega (arith, ints, most, few))

abbrev InRange : Option ℤ → Type 0
InRange None = Unit {0}
InRange (Some e) = (neg_ℤ (pos 18) ≤ℤ e) × (e ≤ℤ pos 18)

signed_range : (minus : Bool) (n : ℕ) → n ≤ 18 → (neg_ℤ (pos 18) ≤ℤ (if minus then neg_ℤ (pos n) else pos n))
    × ((if minus then neg_ℤ (pos n) else pos n) ≤ℤ pos 18)
signed_range true n few = (omega (arith, ints, few), omega (arith, ints, few))
signed_range false n few = (omega (arith, ints, few), omega (arith, ints, few))

exponent_range : (text : List ℕ) → InRange (exponent_value text)
exponent_range text =
    let n : ℕ = digits_value 10 (exponent_digits text) in
    cond_both (nat_le n 18) (Some n) None (λ o. InRange (option_map (λ k. if begins_minus text then neg_ℤ (pos k) else pos k) o))
    (λ few. signed_range (begins_minus text) n (leb-true n 18 few)) (λ _. tt)

-- ---- decimals

some_is : (a b : ℤ) → Some a ≡ Some b → a ≡ b
some_is a b is = cc

alone_power : (e : ℤ) (fraction : List ℕ) → fraction ≡ [] → e ≡ pos 0 → e +ℤ neg_ℤ (pos (length fraction)) ≡ pos 0
alone_power e fraction none zero_is = ap (λ xs. e +ℤ neg_ℤ (pos (length xs))) none ∙ ap (λ z. z +ℤ neg_ℤ (pos 0)) zero_is

decimal_sized : (plain : Bool) (whole fraction : List ℕ) (o : Option ℤ) → AllPass is_ascii_digit whole → AllPass is_ascii_digit fraction → InRange o
    → (plain ≡ true → (fraction ≡ []) × (o ≡ Some (pos 0))) → IsSizedValue plain (decimal_with whole fraction o)
decimal_sized plain whole fraction None w f range alone = tt
decimal_sized plain whole fraction (Some e) w f range alone =
    cond_both (nat_le (length (significant (whole ++ fraction))) 18 && nat_le (length fraction) 18)
    (Some (record { digits = digits_value 10 (whole ++ fraction); power = e +ℤ neg_ℤ (pos (length fraction)) })) None (λ o. IsSizedValue plain o)
    (λ few. let parts = and_parts _ _ few in (
      few_digits (whole ++ fraction) (both_pass whole fraction w f) (leb-true _ 18 parts.0),
      power_sized e (length fraction) range.0 range.1 (leb-true _ 18 parts.1),
      λ yes. alone_power e fraction (alone yes).0 (some_is e (pos 0) (alone yes).1),
    ))
    (λ _. tt)

plain_parts : (bytes : List ℕ) → is_plain bytes ≡ true → (fraction_digits bytes ≡ []) × (exponent_value (exponent_text bytes) ≡ Some (pos 0))
plain_parts bytes plain =
    let same : number_len bytes ≡ digits_len bytes = eqb-true (number_len bytes) (digits_len bytes) plain in
    let no_point : point_len (behind_whole bytes) ≡ 0 = omega (arith, same) in
    let no_exponent : exponent_len (behind_point bytes) ≡ 0 = omega (arith, same) in
    (ap (λ n. drop 1 (take n (behind_whole bytes))) no_point, ap (λ n. exponent_value (drop 1 (take n (behind_point bytes)))) no_exponent)

pub numeral_sized : (bytes : List ℕ) → IsSizedValue (is_plain bytes) (numeral_at bytes).value
numeral_sized bytes = decimal_sized (is_plain bytes) (whole_digits bytes) (fraction_digits bytes) (exponent_value (exponent_text bytes))
    (whole_passes bytes) (fraction_passes (behind_whole bytes)) (exponent_range (exponent_text bytes)) (plain_parts bytes)

-- ---- tokens

abbrev IsFixedOption : Option (ℤ × ℤ) → Type 0
IsFixedOption None = Unit {0}
IsFixedOption (Some v) = IsFixed (fixed v)

fixed_at : (values : List (ℤ × ℤ)) (j : ℕ) → AreFixed values → IsFixedOption (slice_get values j)
fixed_at [] zero are = tt
fixed_at [] (suc j) are = tt
fixed_at (v ∷ vs) zero are = are.0
fixed_at (v ∷ vs) (suc j) are = fixed_at vs j are.1

value_sized : (o : Option (ℤ × ℤ)) (name : Option ℕ) → IsFixedOption o → IsSized (given (Named name) (option_map fixed o) Const)
value_sized None name is = tt
value_sized (Some v) name is = is

found_sized : (values : List (ℤ × ℤ)) (place : Option ℕ) (name : Option ℕ) → AreFixed values
    → IsSized (given (Named name) (option_map fixed (option_and_then (slice_get values) place)) Const)
found_sized values None name are = tt
found_sized values (Some j) name are = value_sized (slice_get values j) name (fixed_at values j are)

word_sized : (s : Scope) (word : List ℕ) → AreFixed s.values → IsSized (word_token s word)
word_sized s word are = cond_both (is_name word) _ Bad IsSized
    (λ _. found_sized s.values (position (bytes_eq word) s.constants) (position (bytes_eq word) s.names) are) (λ _. tt)

abbrev Sized : Lexeme → Type 0
Sized l = IsSized l.token

either : (b : Bool) (x y : Lexeme) → Sized x → Sized y → Sized (if b then x else y)
either true x y hx hy = hx
either false x y hx hy = hy

sign_sized : (b : ℕ) (bs : List ℕ) → Sized (sign_at b bs)
sign_sized b bs =
    either (b == 43) _ _ tt (either (b == 45) _ _ tt (either (b == 42) _ _ tt (either (b == 47) _ _ tt (either (b == 40) _ _ tt
    (either (b == 41) _ _ tt (either (b == 124) _ _ tt (either (b == 61) _ _ tt (either (b == 60 && follows_equal bs) _ _ tt (either (b == 62 &&
    follows_equal bs) _ _ tt tt)))))))))

lexeme_sized : (s : Scope) (b : ℕ) (bs : List ℕ) → AreFixed s.values → Sized (lexeme_at s b bs)
lexeme_sized s b bs are =
    either (is_ascii_digit b) _ _ (numeral_sized (b ∷ bs)) (either (begins_name b) _ _ (word_sized s (take (word_len (b ∷ bs)) (b ∷ bs)) are) (sign_sized b bs))

-- each token of a text
pub tokens_sized : (s : Scope) (skip at : ℕ) (text : List ℕ) → AreFixed s.values → AreSized (tokens_in (tokens_from s skip at text))
tokens_sized s skip at [] are = tt
tokens_sized s (suc skip) at (b ∷ bs) are = tokens_sized s skip (suc at) bs are
tokens_sized s zero at (b ∷ bs) are =
    let l : Lexeme = lexeme_at s b bs in
    cond_both (is_blank b) _ _ (λ placed. AreSized (tokens_in placed))
    (λ _. tokens_sized s zero (suc at) bs are)
    (λ _. (
      lexeme_sized s b bs are,
      cond_both (is_bad l.token) [] _ (λ placed. AreSized (tokens_in placed)) (λ _. tt) (λ _. tokens_sized s (l.len - 1) (suc
          at) bs are),
    ))

-- ---- constants

small : (z : ℤ) → unsigned_abs z ≤ 10 ^ 36 → Fits 126 z
small z h = omega (arith, h)

-- 126 bits hold constants of at most 10^36
pub constants_fixed : (values : List (ℤ × ℤ)) → All IsConstant values → AreFixed values
constants_fixed [] all = tt
constants_fixed (v ∷ vs) all =
    let own = All-head IsConstant v vs all in
    ((own.reduced, small v.0 own.numerator, small v.1 own.denominator), constants_fixed vs (All-tail IsConstant v vs all))
