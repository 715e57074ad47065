-- A line feed behind a printed text changes nothing of what is read.
use Rattle.std.proofs.Common.{◌≡◌, ℕ, Bool, true, false, cond, ◌&&◌, List, [], ◌∷◌, ◌++◌, refl, sym, ap, ap₂, ◌∙◌, append_assoc, append-nil, rules}
use Rattle.std.specs.Prelude.{IsUtf8}
use Rattle.std.proofs.lemmas.Str.{IsUtf8-append, IsUtf8-from_ascii}
use Rattle.json.specs.Token.{Token, begin_object, end_object, begin_array, end_array, key, string, number, boolean, null, bad}
use Rattle.json.specs.Word.{ends_word, word}
use Rattle.json.specs.Lex.{token, comma, colon, string_token, lex, between, fresh, punctuate, tokens}
use Rattle.json.specs.Print.{escape, quoted, token_text, begins, ends, separator, print_from, print, IsPrintableOrBad, ArePrintableOrBad}
use Rattle.json.proofs.Numbered.{ArePrintableOrBad-tokens}
use Rattle.json.proofs.Printed.Strings.{content-escape, lex-escape}
use Rattle.json.proofs.Printed.Numbers.{lex-number, in_word-ended}
use Rattle.serde_json.specs.Read.{read, of_json, max_depth}
use Rattle.json.specs.Json as json
use Rattle.std.specs.Prelude.{option_and_then}

abbrev pub feed : List ℕ
feed = 10 ∷ []

-- what stands behind a value ends a word, if what stands behind the tokens does
value_ends : (ts : List Token) (r : List ℕ) → ends_word r ≡ true → ends_word (print_from true ts ++ r) ≡ true
unfolding print_from
value_ends [] r ended = ended
value_ends (begin_object ∷ ts) r ended = refl
value_ends (end_object ∷ ts) r ended = refl
value_ends (begin_array ∷ ts) r ended = refl
value_ends (end_array ∷ ts) r ended = refl
value_ends (key s ∷ ts) r ended = refl
value_ends (string s ∷ ts) r ended = refl
value_ends (number s ∷ ts) r ended = refl
value_ends (boolean b ∷ ts) r ended = refl
value_ends (null ∷ ts) r ended = refl
value_ends (bad ∷ ts) r ended = refl

lex-quoted : (s r : List ℕ) → lex between (quoted s ++ r) ≡ token (string s) ∷ lex between r
unfolding lex
lex-quoted s r =
    ap (λ l. lex between (34 ∷ l)) (append_assoc (escape s) (34 ∷ []) r)
    ∙ ap₂ (λ o l. token (string_token o) ∷ l) (content-escape s r) (lex-escape s r)

-- the text of a token before two texts that have the same lexemes
lex-token : (t : Token) (r q : List ℕ) → IsPrintableOrBad t → (ends t ≡ true → ends_word r ≡ true) → (ends t ≡ true → ends_word q ≡ true)
    → lex between r ≡ lex between q → lex between (token_text t ++ r) ≡ lex between (token_text t ++ q)
unfolding lex word
lex-token begin_object r q fits first second same = ap (λ l. token begin_object ∷ l) same
lex-token end_object r q fits first second same = ap (λ l. token end_object ∷ l) same
lex-token begin_array r q fits first second same = ap (λ l. token begin_array ∷ l) same
lex-token end_array r q fits first second same = ap (λ l. token end_array ∷ l) same
lex-token (key s) r q fits first second same =
    ap (lex between) (append_assoc (quoted s) (58 ∷ []) r) ∙ lex-quoted s (58 ∷ r) ∙ ap (λ l. token (string s) ∷ colon ∷ l) same
    ∙ sym (ap (lex between) (append_assoc (quoted s) (58 ∷ []) q) ∙ lex-quoted s (58 ∷ q))
lex-token (string s) r q fits first second same = lex-quoted s r ∙ ap (λ l. token (string s) ∷ l) same ∙ sym (lex-quoted s q)
lex-token (number s) r q fits first second same =
    lex-number s r fits (first refl) ∙ ap (λ l. token (number s) ∷ l) same ∙ sym (lex-number s q fits (second refl))
lex-token (boolean true) r q fits first second same =
    ap₂ (λ b l. token (cond b (boolean true) bad) ∷ l) (first refl ∙ sym (second refl))
    (in_word-ended r (first refl) ∙ same ∙ sym (in_word-ended q (second refl)))
lex-token (boolean false) r q fits first second same =
    ap₂ (λ b l. token (cond b (boolean false) bad) ∷ l) (first refl ∙ sym (second refl))
    (in_word-ended r (first refl) ∙ same ∙ sym (in_word-ended q (second refl)))
lex-token null r q fits first second same =
    ap₂ (λ b l. token (cond b null bad) ∷ l) (first refl ∙ sym (second refl)) (in_word-ended r (first refl) ∙ same ∙ sym (in_word-ended q (second refl)))
lex-token bad r q fits first second same = same

lex-separator : (b : Bool) (r q : List ℕ) → lex between r ≡ lex between q → lex between (cond b (44 ∷ []) [] ++ r) ≡ lex between (cond b (44 ∷ []) [] ++ q)
unfolding lex
lex-separator true r q same = ap (λ l. comma ∷ l) same
lex-separator false r q same = same

lex-feed : (c : Bool) (ts : List Token) → ArePrintableOrBad ts → lex between (print_from c ts ++ feed) ≡ lex between (print_from c ts)
unfolding lex print_from
lex-feed c [] fit = refl
lex-feed c (t ∷ ts) fit =
    let r = print_from (ends t) ts ++ feed in
    let q = print_from (ends t) ts in
    let front : (separator c t ++ (token_text t ++ q)) ++ feed ≡ separator c t ++ (token_text t ++ r) =
    append_assoc (separator c t) (token_text t ++ q) feed ∙ ap (λ l. separator c t ++ l) (append_assoc (token_text t) q feed) in
    ap (lex between) front
    ∙ lex-separator (c && begins t) (token_text t ++ r) (token_text t ++ q)
    (lex-token t r q fit.0 (λ e. ap (λ b. ends_word (print_from b ts ++ feed)) e ∙ value_ends ts feed refl)
    (λ e. ap (λ b. ends_word (print_from b ts)) e ∙ ap ends_word (sym (append-nil (print_from true ts))) ∙ value_ends ts [] refl) (lex-feed (ends t) ts fit.1))

-- a printed text with a line feed reads as the text
pub read_feed : (text : List ℕ) → text ≡ print (tokens text) → read (text ++ feed) ≡ read text
read_feed text printed =
    let ts = tokens text in
    let same : lex between (text ++ feed) ≡ lex between text =
    ap (λ t. lex between (t ++ feed)) printed ∙ lex-feed false ts (ArePrintableOrBad-tokens text) ∙ ap (lex between) (sym printed) in
    ap (λ ls. option_and_then of_json (option_and_then (λ p. json.if_last p.0 p.1) (json.value max_depth (punctuate fresh ls)))) same

pub utf8_feed : (text : List ℕ) → IsUtf8 text → IsUtf8 (text ++ feed)
utf8_feed text is = IsUtf8-append text feed is (IsUtf8-from_ascii feed (search rules))
