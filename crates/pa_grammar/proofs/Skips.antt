-- One byte more of the lexer's loop.
use Rattle.std.proofs.Common.{◌≡◌, ◌≤◌, ◌<◌, ℕ, suc, ◌+◌, ◌-◌, true, false, List, [], ◌∷◌, ◌++◌, drop, length, get_or, ap, sym, ◌∙◌, append_assoc, arith}
use Rattle.std.specs.Prelude.{slice_index, if◌then◌else◌}
use Rattle.std.proofs.lemmas.Bool.{cond-true, cond-false}
use Rattle.std.proofs.lemmas.List.{drop_more, length-drop}
use Rattle.pa_grammar.specs.declared.token.Token.{Token}
use Rattle.pa_grammar.specs.declared.token.Placed.{Placed}
use Rattle.pa_grammar.specs.Lexer.{Lexeme, Scope, tokens_from, lexeme_at, is_blank, is_bad, most_text}

abbrev placed : ℕ → Token → Placed
placed at token = record { at = at; token = token }

-- a byte of a token that is read already
pub skipped : (scope : Scope) (text : List ℕ) (at next : ℕ) → at < length text → at < next
    → tokens_from scope (next - at) at (drop at text) ≡ tokens_from scope (next - (at + 1)) (at + 1) (drop (at + 1) text)
skipped scope text at next within before =
    let n : next - at ≡ suc (next - (at + 1)) = omega (arith, before) in
    let m : at + 1 ≡ suc at = omega arith in
    ap (λ k. tokens_from scope k at (drop at text)) n
    ∙ ap (tokens_from scope (suc (next - (at + 1))) at) (drop_more text at 0 within)
    ∙ ap (λ k. tokens_from scope (next - (at + 1)) k (drop (at + 1) text)) (sym m)

-- a blank
pub blank_skipped : (scope : Scope) (text : List ℕ) (at next : ℕ) → at < length text → next ≤ at → is_blank (get_or text at 0) ≡ true
    → tokens_from scope (next - at) at (drop at text) ≡ tokens_from scope (next - (at + 1)) (at + 1) (drop (at + 1) text)
blank_skipped scope text at next within behind blank =
    let n : next - at ≡ 0 = omega (arith, behind) in
    let z : next - (at + 1) ≡ 0 = omega (arith, behind) in
    let m : at + 1 ≡ suc at = omega arith in
    ap (λ k. tokens_from scope k at (drop at text)) n
    ∙ ap (tokens_from scope 0 at) (drop_more text at 0 within)
    ∙ cond-true (is_blank (get_or text at 0)) (tokens_from scope 0 (suc at) (drop (at + 1) text)) _ blank
    ∙ ap (λ k. tokens_from scope 0 k (drop (at + 1) text)) (sym m) ∙ ap (λ k. tokens_from scope k (at + 1) (drop (at + 1) text)) (sym z)

-- a token begins
token_here : (scope : Scope) (text : List ℕ) (at next : ℕ) (l : Lexeme) → at < length text → next ≤ at → is_blank (get_or text at 0) ≡ false
    → l ≡ lexeme_at scope (slice_index (drop at text) 0) (drop 1 (drop at text))
    → tokens_from scope (next - at) at (drop at text) ≡ placed at l.token ∷ (if is_bad l.token then [] else tokens_from scope (l.len - 1) (suc at) (drop
    (at + 1) text))
token_here scope text at next l within behind blank is =
    let n : next - at ≡ 0 = omega (arith, behind) in
    let here : l ≡ lexeme_at scope (get_or text at 0) (drop (at + 1) text) = is ∙ ap (λ xs. lexeme_at scope (slice_index xs 0) (drop 1 xs)) (drop_more text
    at 0 within) in
    ap (λ k. tokens_from scope k at (drop at text)) n
    ∙ ap (tokens_from scope 0 at) (drop_more text at 0 within)
    ∙ cond-false (is_blank (get_or text at 0)) (tokens_from scope 0 (suc at) (drop (at + 1) text)) _ blank
    ∙ ap (λ m. placed at m.token ∷ (if is_bad m.token then [] else tokens_from scope (m.len - 1) (suc at) (drop (at + 1) text))) (sym here)

-- a token is read
pub token_read : (scope : Scope) (text : List ℕ) (at next : ℕ) (l : Lexeme) (before after all : List Placed) → at < length text → next ≤ at
    → is_blank (get_or text at 0) ≡ false
    → l ≡ lexeme_at scope (slice_index (drop at text) 0) (drop 1 (drop at text)) → is_bad l.token ≡ false → after ≡ before ++ (placed at l.token ∷ [])
    → before ++ tokens_from scope (next - at) at (drop at text) ≡ all → after ++ tokens_from scope (at + l.len - (at + 1)) (at + 1) (drop (at + 1) text) ≡ all
token_read scope text at next l before after all within behind blank is good is_after so_far =
    let n : at + l.len - (at + 1) ≡ l.len - 1 = omega arith in
    let m : at + 1 ≡ suc at = omega arith in
    let rest : List Placed = tokens_from scope (l.len - 1) (suc at) (drop (at + 1) text) in
    let now : tokens_from scope (at + l.len - (at + 1)) (at + 1) (drop (at + 1) text) ≡ rest =
    ap (λ k. tokens_from scope k (at + 1) (drop (at + 1) text)) n ∙ ap (λ k. tokens_from scope (l.len - 1) k (drop (at + 1) text)) m in
    let here : tokens_from scope (next - at) at (drop at text) ≡ placed at l.token ∷ rest =
    token_here scope text at next l within behind blank is ∙ ap (λ xs. placed at l.token ∷ xs) (cond-false (is_bad l.token) [] rest good) in
    ap (λ xs. after ++ xs) now ∙ ap (λ xs. xs ++ rest) is_after ∙ append_assoc before (placed at l.token ∷ []) rest ∙ ap (λ xs. before ++ xs) (sym here)
    ∙ so_far

-- a bad byte ends the tokens
pub bad_read : (scope : Scope) (text : List ℕ) (at next : ℕ) (l : Lexeme) (before after all : List Placed) → at < length text → next ≤ at
    → is_blank (get_or text at 0) ≡ false
    → l ≡ lexeme_at scope (slice_index (drop at text) 0) (drop 1 (drop at text)) → is_bad l.token ≡ true → after ≡ before ++ (placed at l.token ∷ [])
    → before ++ tokens_from scope (next - at) at (drop at text) ≡ all → after ≡ all
bad_read scope text at next l before after all within behind blank is bad is_after so_far =
    let here : tokens_from scope (next - at) at (drop at text) ≡ placed at l.token ∷ [] =
    token_here scope text at next l within behind blank is ∙ ap (λ xs. placed at l.token ∷ xs) (cond-true (is_bad l.token) [] _ bad) in
    is_after ∙ ap (λ xs. before ++ xs) (sym here) ∙ so_far

-- the end of a token is not far behind the loop's place
pub near_next : (len at : ℕ) (rest text : List ℕ) → rest ≡ drop at text → len ≤ length rest → length text ≤ most_text → at + len ≤ at + 1 + most_text
near_next len at rest text is within short = omega (arith, within, ap length is, length-drop at text, short)

pub lexeme_from : (scope : Scope) (l : Lexeme) (rest text : List ℕ) (at : ℕ) → rest ≡ drop at text → l ≡ lexeme_at scope (slice_index rest 0) (drop 1 rest)
    → l ≡ lexeme_at scope (slice_index (drop at text) 0) (drop 1 (drop at text))
lexeme_from scope l rest text at is h = h ∙ ap (λ xs. lexeme_at scope (slice_index xs 0) (drop 1 xs)) is
