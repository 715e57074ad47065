-- The lexer takes the longest token.
use Rattle.std.proofs.Common.{◌≡◌, ◌⊎◌, inl, inr, ⊎_elim, ℕ, zero, suc, ◌+◌, ◌≤◌, Bool, true, false, List, [], ◌∷◌, ◌++◌, take, drop, length, refl, ap, sym}
use Rattle.std.proofs.Common.{◌∙◌, append_assoc, arith, subst}
use Rattle.std.specs.Prelude.{if◌then◌else◌, nat_le, codes, ◌==◌, ◌&&◌, ◌||◌}
use Rattle.std.specs.List.{AllPass, prefix_len, list_any}
use Rattle.std.specs.Char.{is_ascii_digit, is_ascii_alphabetic, is_ascii_alphanumeric}
use Rattle.std.specs.Int.{is_in_range}
use Rattle.std.proofs.lemmas.Bool.{cond_both, and_parts, or_cases, or_left, or_right, or_from, cond-true, cond-false, le-leb, leb-true, eqb-true}
use Rattle.std.proofs.lemmas.List.{take-append-drop, length-append, length-take, length-drop}
use Rattle.std.proofs.lemmas.List.Elements.{All-head, All-tail}
use Rattle.std.proofs.lemmas.List.Sums.{prefix_len-le-length}
use Rattle.pa_names.specs.Names.{begins_name, continues_name}
use Rattle.pa_grammar.specs.declared.token.Token.TheVariants.{Bad}
use Rattle.pa_grammar.specs.Lexer.{Lexeme, digits_len, point_len, sign_len, exponent_len, number_len, behind_whole, behind_point, word_len, follows_equal}
use Rattle.pa_grammar.specs.Lexer.{sign_at}
use Rattle.pa_grammar.specs.TokenTexts.{AreDigits, IsPoint, IsSignText, IsExponent, IsNumberText, IsWordText, IsSymbolText, IsTokenText, IsLongest}
use Rattle.pa_grammar.specs.TokenTexts.{TakesLongest}
use Rattle.pa_grammar.proofs.Decimals.{front_passes, take_nothing}

-- ---- fronts

one_more : (n : ℕ) → 1 + n ≡ suc n
one_more n = omega arith

-- bytes that pass are in the front
front_least : (test : ℕ → Bool) (xs ys : List ℕ) → AllPass test xs → length xs ≤ prefix_len test (xs ++ ys)
front_least test [] ys pass = omega arith
front_least test (x ∷ xs) ys pass =
    let first : test x ≡ true = All-head (λ c. test c ≡ true) x xs pass in
    omega (arith, cond-true (test x) (1 + prefix_len test (xs ++ ys)) 0 first, front_least test xs ys (All-tail (λ c. test c ≡ true) x xs pass))

-- and where the next one fails, they are the front
front_exact : (test : ℕ → Bool) (xs : List ℕ) (y : ℕ) (ys : List ℕ) → AllPass test xs → test y ≡ false → prefix_len test (xs ++ (y ∷ ys)) ≡ length xs
front_exact test [] y ys pass stops = cond-false (test y) (1 + prefix_len test ys) 0 stops
front_exact test (x ∷ xs) y ys pass stops =
    let first : test x ≡ true = All-head (λ c. test c ≡ true) x xs pass in
    cond-true (test x) (1 + prefix_len test (xs ++ (y ∷ ys))) 0 first ∙ ap (λ n. 1 + n) (front_exact test xs y ys (All-tail (λ c. test c ≡ true) x xs pass)
    stops) ∙ one_more (length xs)

behind_front : (xs ys : List ℕ) → drop (length xs) (xs ++ ys) ≡ ys
behind_front [] ys = refl
behind_front (x ∷ xs) ys = behind_front xs ys

digits_least : (xs ys : List ℕ) → AreDigits xs → length xs ≤ digits_len (xs ++ ys)
digits_least xs ys are = front_least is_ascii_digit xs ys are.1

-- ---- exponents

not_sign : (d : ℕ) (ds : List ℕ) → is_ascii_digit d ≡ true → (d == 43 || d == 45) ≡ true → sign_len (d ∷ ds) ≡ 0
not_sign d ds digit sign = cond_both {A = Bool} (d == 43) true (d == 45) (λ _. sign_len (d ∷ ds) ≡ 0)
    (λ plus. let other : false ≡ true = ap is_ascii_digit (sym (eqb-true d 43 plus)) ∙ digit in cc other)
    (λ no_plus. let minus : (d == 45) ≡ true = ap (λ t. t || (d == 45)) (sym no_plus) ∙ sign in
    let other : false ≡ true = ap is_ascii_digit (sym (eqb-true d 45 minus)) ∙ digit in cc other)

digit_unsigned : (d : ℕ) (ds : List ℕ) → is_ascii_digit d ≡ true → sign_len (d ∷ ds) ≡ 0
digit_unsigned d ds digit = cond_both {A = ℕ} (d == 43 || d == 45) 1 0 (λ _. sign_len (d ∷ ds) ≡ 0)
    (λ sign. not_sign d ds digit sign) (λ other. cond-false (d == 43 || d == 45) 1 0 other)

no_sign : (digits rest : List ℕ) → AreDigits digits → sign_len (digits ++ rest) ≡ 0
no_sign [] rest are = absurd (omega (arith, are.0))
no_sign (d ∷ ds) rest are = digit_unsigned d (ds ++ rest) (All-head (λ c. is_ascii_digit c ≡ true) d ds are.1)

-- a sign and digits in front of a text: how long they are at least
signed_least : (sign digits rest : List ℕ) → IsSignText sign → AreDigits digits
    → (sign_len ((sign ++ digits) ++ rest) ≡ length sign) × (length digits ≤ digits_len (drop (sign_len ((sign ++ digits) ++ rest)) ((sign ++ digits) ++ rest)))
signed_least [] digits rest is are =
    let none : sign_len (digits ++ rest) ≡ 0 = no_sign digits rest are in
    (none, subst (λ n. length digits ≤ digits_len (drop n (digits ++ rest))) (sym none) (digits_least digits rest are))
signed_least (b ∷ (c ∷ bs)) digits rest is are = cc is.1
signed_least (b ∷ []) digits rest is are =
    let one : sign_len (b ∷ (digits ++ rest)) ≡ 1 = ⊎_elim (λ plus. ap (λ x. sign_len (x ∷ (digits ++ rest))) plus) (λ minus. ap (λ x. sign_len (x ∷
    (digits ++ rest))) minus) is.0 in
    (one, subst (λ n. length digits ≤ digits_len (drop n (b ∷ (digits ++ rest)))) (sym one) (digits_least digits rest are))

abbrev is_e : ℕ → Bool
is_e b = b == 101 || b == 69

e_is : (b : ℕ) → (b ≡ 101) ⊎ (b ≡ 69) → is_e b ≡ true
e_is b (inl low) = ap is_e low
e_is b (inr high) = ap is_e high

-- an exponent in front of a text
exponent_least : (exponent rest : List ℕ) → IsExponent exponent → length exponent ≤ exponent_len (exponent ++ rest)
exponent_least [] rest is = omega arith
exponent_least (b ∷ bs) rest is =
    let all : List ℕ = bs ++ rest in
    let same : bs ++ rest ≡ (is.1.0 ++ is.1.1) ++ rest = ap (λ xs. xs ++ rest) is.1.4 in
    let parts = signed_least is.1.0 is.1.1 rest is.1.2 is.1.3 in
    let signs : sign_len all ≡ length is.1.0 = ap sign_len same ∙ parts.0 in
    let digits : length is.1.1 ≤ digits_len (drop (sign_len all) all) = subst (λ xs. length is.1.1 ≤ digits_len (drop (sign_len xs) xs)) (sym same) parts.1 in
    let some : nat_le 1 (digits_len (drop (sign_len all) all)) ≡ true = le-leb 1 (digits_len (drop (sign_len all) all)) (omega (arith, digits, is.1.3.0)) in
    let due : (is_e b && nat_le 1 (digits_len (drop (sign_len all) all))) ≡ true = ap (λ t. t && nat_le 1 (digits_len (drop (sign_len all) all))) (e_is b
    is.0) ∙ some in
    omega (
      arith,
      cond-true (is_e b && nat_le 1 (digits_len (drop (sign_len all) all))) (1 + sign_len all + digits_len (drop (sign_len all) all)) 0 due,
      signs,
      digits,
      ap length is.1.4,
      length-append is.1.0 is.1.1,
    )

-- ---- numbers

-- where a number goes on behind digits, no digit follows them
e_no_digit : (b : ℕ) → (b ≡ 101) ⊎ (b ≡ 69) → (is_ascii_digit b ≡ false) × ((b == 46) ≡ false)
e_no_digit b (inl low) = (ap is_ascii_digit low, ap (λ x. x == 46) low)
e_no_digit b (inr high) = (ap is_ascii_digit high, ap (λ x. x == 46) high)

no_point : (b : ℕ) (bs : List ℕ) → (b == 46) ≡ false → point_len (b ∷ bs) ≡ 0
no_point b bs other = cond-false (b == 46 && nat_le 1 (digits_len bs)) (1 + digits_len bs) 0 (ap (λ t. t && nat_le 1 (digits_len bs)) other)

-- the point and the exponent behind the digits
abbrev tail_len : List ℕ → ℕ
tail_len rest = point_len rest + exponent_len (drop (point_len rest) rest)

exponent_tail : (e : ℕ) (es rest : List ℕ) → IsExponent (e ∷ es) → length (e ∷ es) ≤ tail_len ((e ∷ es) ++ rest)
exponent_tail e es rest is =
    let none : point_len ((e ∷ es) ++ rest) ≡ 0 = no_point e (es ++ rest) (e_no_digit e is.0).1 in
    subst (λ n. length (e ∷ es) ≤ n + exponent_len (drop n ((e ∷ es) ++ rest))) (sym none) (omega (arith, exponent_least (e ∷ es) rest is))

point_is : (p : ℕ) (ps more : List ℕ) → p ≡ 46 → AreDigits ps → point_len (p ∷ (ps ++ more)) ≡ 1 + digits_len (ps ++ more)
point_is p ps more is are =
    let some : nat_le 1 (digits_len (ps ++ more)) ≡ true = le-leb 1 (digits_len (ps ++ more)) (omega (arith, digits_least ps more are, are.0)) in
    cond-true (p == 46 && nat_le 1 (digits_len (ps ++ more))) (1 + digits_len (ps ++ more)) 0 (ap (λ x. (x == 46) && nat_le 1 (digits_len (ps ++ more))) is
    ∙ some)

point_tail : (p : ℕ) (ps exponent rest : List ℕ) → p ≡ 46 → AreDigits ps → IsExponent exponent
    → length (p ∷ ps) + length exponent ≤ tail_len (p ∷ (ps ++ (exponent ++ rest)))
point_tail p ps [] rest is are fits = omega (arith, point_is p ps rest is are, digits_least ps rest are)
point_tail p ps (e ∷ es) rest is are fits =
    let all : List ℕ = p ∷ (ps ++ ((e ∷ es) ++ rest)) in
    let len : point_len all ≡ suc (length ps) = point_is p ps ((e ∷ es) ++ rest) is are ∙ ap (λ n. 1 + n) (front_exact is_ascii_digit ps e (es ++ rest)
    are.1 (e_no_digit e fits.0).0) ∙ one_more (length ps) in
    let left : drop (point_len all) all ≡ (e ∷ es) ++ rest = ap (λ n. drop n all) len ∙ behind_front ps ((e ∷ es) ++ rest) in
    omega (arith, len, ap exponent_len left, exponent_least (e ∷ es) rest fits)

-- the number's length, from that of its digits
number_tail : (bytes rest : List ℕ) (n : ℕ) → digits_len bytes ≡ n → drop n bytes ≡ rest → number_len bytes ≡ n + tail_len rest
number_tail bytes rest n len left =
    let behind : behind_whole bytes ≡ rest = ap (λ k. drop k bytes) len ∙ left in
    omega (arith, len, ap tail_len behind)

whole_least : (whole point exponent rest : List ℕ) → AreDigits whole → IsPoint point → IsExponent exponent
    → length whole + (length point + length exponent) ≤ number_len (whole ++ (point ++ (exponent ++ rest)))
whole_least whole [] [] rest w p e = omega (arith, digits_least whole rest w)
whole_least whole [] (b ∷ bs) rest w p e =
    let stops = e_no_digit b e.0 in
    let len : digits_len (whole ++ ((b ∷ bs) ++ rest)) ≡ length whole = front_exact is_ascii_digit whole b (bs ++ rest) w.1 stops.0 in
    omega (
      arith,
      number_tail (whole ++ ((b ∷ bs) ++ rest)) ((b ∷ bs) ++ rest) (length whole) len (behind_front whole ((b ∷ bs) ++ rest)),
      exponent_tail b
          bs rest e,
    )
whole_least whole (q ∷ qs) exponent rest w p e =
    let len : digits_len (whole ++ (q ∷ (qs ++ (exponent ++ rest)))) ≡ length whole = front_exact is_ascii_digit whole q (qs ++ (exponent ++ rest)) w.1 (ap
    is_ascii_digit p.0) in
    omega (
      arith,
      number_tail (whole ++ (q ∷ (qs ++ (exponent ++ rest)))) (q ∷ (qs ++ (exponent ++ rest))) (length whole) len (behind_front whole (q ∷ (qs ++ (exponent
          ++ rest)))),
      point_tail q qs exponent rest p.0 p.1 e,
    )

regroup : (a b c d : List ℕ) → (a ++ (b ++ c)) ++ d ≡ a ++ (b ++ (c ++ d))
regroup a b c d = simp append_assoc

-- a number in front of a text is no longer than the one that is taken
pub number_longest : (text : List ℕ) (n : ℕ) → n ≤ length text → IsNumberText (take n text) → n ≤ number_len text
number_longest text n within t =
    let rest : List ℕ = drop n text in
    let same : text ≡ t.whole ++ (t.point ++ (t.exponent ++ rest)) = sym (take-append-drop n text) ∙ ap (λ xs. xs ++ rest) t.bytes_are
    ∙ regroup t.whole t.point t.exponent rest in
    let least = whole_least t.whole t.point t.exponent rest t.are_digits t.is_point t.is_exponent in
    omega (
      arith,
      ap number_len same,
      least,
      ap length t.bytes_are,
      length-append t.whole (t.point ++ t.exponent),
      length-append t.point t.exponent,
      length-take n text,
      within,
    )

-- ---- what is taken is a number

take_add : (a k : ℕ) (xs : List ℕ) → take (a + k) xs ≡ take a xs ++ take k (drop a xs)
take_add zero k xs = let same : 0 + k ≡ k = omega arith in ap (λ n. take n xs) same
take_add (suc a) k [] = let same : suc a + k ≡ suc (a + k) = omega arith in ap (λ n. take {A = ℕ} n []) same ∙ sym (take_nothing k)
take_add (suc a) k (x ∷ xs) = let same : suc a + k ≡ suc (a + k) = omega arith in ap (λ n. take n (x ∷ xs)) same ∙ ap (λ ys. x ∷ ys) (take_add a k xs)

front_digits : (xs : List ℕ) → 1 ≤ digits_len xs → AreDigits (take (digits_len xs) xs)
front_digits xs some = (omega (arith, some, length-take (digits_len xs) xs, prefix_len-le-length is_ascii_digit xs), front_passes is_ascii_digit xs)

point_taken : (xs : List ℕ) → IsPoint (take (point_len xs) xs)
point_taken [] = tt
point_taken (c ∷ cs) = cond_both (c == 46 && nat_le 1 (digits_len cs)) (1 + digits_len cs) 0 (λ n. IsPoint (take n (c ∷ cs)))
    (λ due. let both = and_parts _ _ due in
    subst (λ n. IsPoint (take n (c ∷ cs))) (sym (one_more (digits_len cs))) (eqb-true c 46 both.0, front_digits cs (leb-true 1 (digits_len cs) both.1)))
    (λ _. tt)

sign_either : (x : ℕ) → (x == 43 || x == 45) ≡ true → (x ≡ 43) ⊎ (x ≡ 45)
sign_either x is = cond_both {A = Bool} (x == 43) true (x == 45) (λ _. (x ≡ 43) ⊎ (x ≡ 45))
    (λ plus. inl (eqb-true x 43 plus)) (λ no_plus. inr (eqb-true x 45 (ap (λ t. t || (x == 45)) (sym no_plus) ∙ is)))

e_either : (x : ℕ) → is_e x ≡ true → (x ≡ 101) ⊎ (x ≡ 69)
e_either x is = cond_both {A = Bool} (x == 101) true (x == 69) (λ _. (x ≡ 101) ⊎ (x ≡ 69))
    (λ low. inl (eqb-true x 101 low)) (λ no_low. inr (eqb-true x 69 (ap (λ t. t || (x == 69)) (sym no_low) ∙ is)))

sign_taken : (xs : List ℕ) → IsSignText (take (sign_len xs) xs)
sign_taken [] = tt
sign_taken (x ∷ xs) = cond_both (x == 43 || x == 45) 1 0 (λ n. IsSignText (take n (x ∷ xs))) (λ sign. (sign_either x sign, refl)) (λ _. tt)

exponent_taken : (xs : List ℕ) → IsExponent (take (exponent_len xs) xs)
exponent_taken [] = tt
exponent_taken (c ∷ cs) =
    let s : ℕ = sign_len cs in
    let d : ℕ = digits_len (drop (sign_len cs) cs) in
    let more : 1 + s + d ≡ suc (s + d) = omega arith in
    cond_both (is_e c && nat_le 1 d) (1 + s + d) 0 (λ n. IsExponent (take n (c ∷ cs)))
    (λ due. let both = and_parts _ _ due in
    subst (λ n. IsExponent (take n (c ∷ cs))) (sym more)
    (e_either c both.0, (take s cs, take d (drop s cs), sign_taken cs, front_digits (drop s cs) (leb-true 1 d both.1), take_add s d cs)))
    (λ _. tt)

number_parts_taken : (text : List ℕ) → take (number_len text) text
    ≡ take (digits_len text) text ++ (take (point_len (behind_whole text)) (behind_whole text) ++ take (exponent_len (behind_point text)) (behind_point text))
number_parts_taken text =
    let a : ℕ = digits_len text in
    let p : ℕ = point_len (behind_whole text) in
    let e : ℕ = exponent_len (behind_point text) in
    let grouped : a + p + e ≡ a + (p + e) = omega arith in
    ap (λ n. take n text) grouped ∙ take_add a (p + e) text ∙ ap (λ xs. take a text ++ xs) (take_add p e (behind_whole text))

digit_some : (b : ℕ) (bs : List ℕ) → is_ascii_digit b ≡ true → 1 ≤ digits_len (b ∷ bs)
digit_some b bs digit = omega (arith, cond-true (is_ascii_digit b) (1 + digits_len bs) 0 digit)

number_taken : (b : ℕ) (bs : List ℕ) → is_ascii_digit b ≡ true → IsNumberText (take (number_len (b ∷ bs)) (b ∷ bs))
number_taken b bs digit = record {
  whole = take (digits_len (b ∷ bs)) (b ∷ bs);
  point = take (point_len (behind_whole (b ∷ bs))) (behind_whole (b ∷ bs));
  exponent = take (exponent_len (behind_point (b ∷ bs))) (behind_point (b ∷ bs));
  bytes_are = number_parts_taken (b ∷ bs);
  are_digits = front_digits (b ∷ bs) (digit_some b bs digit);
  is_point = point_taken (behind_whole (b ∷ bs));
  is_exponent = exponent_taken (behind_point (b ∷ bs));
}

point_within : (xs : List ℕ) → point_len xs ≤ length xs
point_within [] = omega arith
point_within (c ∷ cs) = cond_both (c == 46 && nat_le 1 (digits_len cs)) (1 + digits_len cs) 0 (λ n. n ≤ length (c ∷ cs))
    (λ _. omega (arith, prefix_len-le-length is_ascii_digit cs)) (λ _. omega arith)

sign_within : (xs : List ℕ) → sign_len xs ≤ length xs
sign_within [] = omega arith
sign_within (x ∷ xs) = cond_both (x == 43 || x == 45) 1 0 (λ n. n ≤ length (x ∷ xs)) (λ _. omega arith) (λ _. omega arith)

exponent_within : (xs : List ℕ) → exponent_len xs ≤ length xs
exponent_within [] = omega arith
exponent_within (c ∷ cs) =
    let s : ℕ = sign_len cs in
    let d : ℕ = digits_len (drop s cs) in
    cond_both (is_e c && nat_le 1 d) (1 + s + d) 0 (λ n. n ≤ length (c ∷ cs))
    (λ _. omega (arith, prefix_len-le-length is_ascii_digit (drop s cs), length-drop s cs, sign_within cs)) (λ _. omega arith)

number_within : (text : List ℕ) → number_len text ≤ length text
number_within text = omega (
  arith,
  prefix_len-le-length is_ascii_digit text,
  point_within (behind_whole text),
  exponent_within (behind_point text),
  length-drop (digits_len text) text,
  length-drop (point_len (behind_whole text)) (behind_whole text),
)

-- ---- the first byte tells what a token is

abbrev head_of : List ℕ → ℕ
head_of [] = 0
head_of (x ∷ xs) = x

number_first : (n b : ℕ) (bs whole rest : List ℕ) → take n (b ∷ bs) ≡ whole ++ rest → AreDigits whole → is_ascii_digit b ≡ true
number_first n b bs [] rest is are = absurd (omega (arith, are.0))
number_first zero b bs (w ∷ ws) rest is are = cc is
number_first (suc n) b bs (w ∷ ws) rest is are =
    let same : b ≡ w = ap head_of is in
    ap is_ascii_digit same ∙ All-head (λ c. is_ascii_digit c ≡ true) w ws are.1

word_first : (n b : ℕ) (bs : List ℕ) → IsWordText (take n (b ∷ bs)) → begins_name b ≡ true
word_first zero b bs is = absurd is
word_first (suc n) b bs is = is.0

-- the bytes that symbols begin with
abbrev symbols : List ℕ
symbols = codes "+-*/()|=<>="

any_more : (b : ℕ) (ks ls : List ℕ) → list_any (λ k. b == k) ks ≡ true → list_any (λ k. b == k) (ks ++ ls) ≡ true
any_more b [] ls is = cc is
any_more b (k ∷ ks) ls is = ⊎_elim (λ here. or_left (b == k) (list_any (λ j. b == j) (ks ++ ls)) here)
    (λ there. or_right (b == k) (list_any (λ j. b == j) (ks ++ ls)) (any_more b ks ls there)) (or_cases (b == k) (list_any (λ j. b == j) ks) is)

any_behind : (b : ℕ) (ks ls : List ℕ) → list_any (λ k. b == k) ls ≡ true → list_any (λ k. b == k) (ks ++ ls) ≡ true
any_behind b [] ls is = is
any_behind b (k ∷ ks) ls is = or_right (b == k) (list_any (λ j. b == j) (ks ++ ls)) (any_behind b ks ls is)

-- what holds of each byte of a list holds of one that is in it
abbrev Each : (ℕ → Type 0) → List ℕ → Type 0
Each P [] = Unit {0}
Each P (k ∷ ks) = P k × Each P ks

one_of : (P : ℕ → Type 0) (b : ℕ) (ks : List ℕ) → Each P ks → list_any (λ k. b == k) ks ≡ true → P b
one_of P b [] each is = cc is
one_of P b (k ∷ ks) each is = ⊎_elim (λ here. subst P (sym (eqb-true b k here)) each.0) (λ there. one_of P b ks each.1 there) (or_cases (b == k) (list_any
    (λ j. b == j) ks) is)

abbrev IsOther : ℕ → Type 0
IsOther b = (is_ascii_digit b ≡ false) × (begins_name b ≡ false)

symbol_other : (b : ℕ) → list_any (λ k. b == k) symbols ≡ true → IsOther b
symbol_other b is = one_of IsOther b symbols (
  (refl, refl),
  (
    (refl, refl),
    (
      (refl, refl),
      (
        (refl, refl),
        (
          (refl, refl),
          (
            (refl, refl),
            (
              (refl, refl),
              ((refl, refl), ((refl, refl), ((refl, refl), ((refl, refl), tt)))),
            ),
          ),
        ),
      ),
    ),
  ),
) is

symbol_first : (bytes : List ℕ) → IsSymbolText bytes → list_any (λ k. head_of bytes == k) symbols ≡ true
symbol_first [] is = absurd is
symbol_first (b ∷ []) is = any_more b (codes "+-*/()|=") (codes "<>=") is
symbol_first (b ∷ (c ∷ [])) is = any_behind b (codes "+-*/()|=") (codes "<>=") is.0
symbol_first (b ∷ (c ∷ (d ∷ bs))) is = absurd is

symbol_head : (n b : ℕ) (bs : List ℕ) → IsSymbolText (take n (b ∷ bs)) → IsOther b
symbol_head zero b bs is = absurd is
symbol_head (suc n) b bs is = symbol_other b (symbol_first (b ∷ take n bs) is)

-- a digit begins no word
word_no_digit : (b : ℕ) → begins_name b ≡ true → is_ascii_digit b ≡ true → ⊥
word_no_digit b word digit =
    let range = and_parts (nat_le 48 b) (nat_le b 57) digit in
    let most : b ≤ 57 = leb-true b 57 range.1 in
    ⊎_elim (λ letter. ⊎_elim (λ upper. let least : 65 ≤ b = leb-true 65 b (and_parts (nat_le 65 b) (nat_le b 90) upper).0 in absurd (omega (
      arith,
      least,
      most,
    )))
    (λ lower. let least : 97 ≤ b = leb-true 97 b (and_parts (nat_le 97 b) (nat_le b 122) lower).0 in absurd (omega (arith, least, most)))
    (or_cases (is_in_range 65 90 b) (is_in_range 97 122 b) letter))
    (λ line. let same : b ≡ 95 = eqb-true b 95 line in absurd (omega (arith, same, most))) (or_cases (is_ascii_alphabetic b) (b == 95) word)

-- what begins a word goes on with it
letter_goes_on : (b : ℕ) → is_ascii_alphabetic b ≡ true → is_ascii_alphanumeric b ≡ true
letter_goes_on b letter = ⊎_elim
    (λ upper. or_left (is_in_range 48 57 b || is_in_range 65 90 b) (is_in_range 97 122 b) (or_right (is_in_range 48 57 b) (is_in_range 65 90 b) upper))
    (λ lower. or_right (is_in_range 48 57 b || is_in_range 65 90 b) (is_in_range 97 122 b) lower)
    (or_cases (is_in_range 65 90 b) (is_in_range 97 122 b) letter)

word_goes_on : (b : ℕ) → begins_name b ≡ true → continues_name b ≡ true
word_goes_on b word = ⊎_elim (λ letter. or_left (is_ascii_alphanumeric b) (b == 95) (letter_goes_on b letter)) (λ line. or_right (is_ascii_alphanumeric b)
    (b == 95) line)
    (or_cases (is_ascii_alphabetic b) (b == 95) word)

-- ---- the longest token

number_case : (b : ℕ) (bs : List ℕ) → is_ascii_digit b ≡ true → IsLongest (b ∷ bs) (number_len (b ∷ bs))
number_case b bs digit = record {
  within = number_within (b ∷ bs);
  is_token = inl (number_taken b bs digit);
  longest = λ n within token. ⊎_elim (λ number. number_longest (b ∷ bs) n within number)
      (λ other. ⊎_elim (λ word. absurd (word_no_digit b (word_first n b bs word) digit)) (λ symbol. let not_digit = (symbol_head n b bs symbol).0 in cc
      (digit, not_digit)) other) token;
}

word_taken : (b : ℕ) (bs : List ℕ) → begins_name b ≡ true → word_len (b ∷ bs) ≡ suc (prefix_len continues_name bs)
word_taken b bs word = cond-true (continues_name b) (1 + prefix_len continues_name bs) 0 (word_goes_on b word) ∙ one_more (prefix_len continues_name bs)

word_longest : (n b : ℕ) (bs : List ℕ) → n ≤ length (b ∷ bs) → IsWordText (take n (b ∷ bs)) → n ≤ suc (prefix_len continues_name bs)
word_longest zero b bs within is = omega arith
word_longest (suc n) b bs within is =
    let least : length (take n bs) ≤ prefix_len continues_name (take n bs ++ drop n bs) = front_least continues_name (take n bs) (drop n bs) is.1 in
    omega (arith, least, ap (prefix_len continues_name) (take-append-drop n bs), length-take n bs, within)

no_number : (n b : ℕ) (bs : List ℕ) → is_ascii_digit b ≡ false → ¬ IsNumberText (take n (b ∷ bs))
no_number n b bs other number = cc (number_first n b bs number.whole (number.point ++ number.exponent) number.bytes_are number.are_digits, other)

word_case : (b : ℕ) (bs : List ℕ) → is_ascii_digit b ≡ false → begins_name b ≡ true → IsLongest (b ∷ bs) (word_len (b ∷ bs))
word_case b bs other word =
    let len = word_taken b bs word in
    record {
      within = prefix_len-le-length continues_name (b ∷ bs);
      is_token = inr (inl (subst (λ n. IsWordText (take n (b ∷ bs))) (sym len) (word, front_passes continues_name bs)));
      longest = λ n within token. ⊎_elim (λ number. absurd (no_number n b bs other number))
          (λ rest. ⊎_elim (λ is. omega (arith, len, word_longest n b bs within is)) (λ symbol. let not_word = (symbol_head n b bs symbol).1 in cc (
            word,
            not_word,
          )) rest) token;
    }

-- ---- symbols

abbrev single : ℕ → Bool
single b = list_any (λ k. b == k) (codes "+-*/()|=")

abbrev pairs_up : ℕ → Bool
pairs_up b = list_any (λ k. b == k) (codes "<>=")

two_of : (b c : ℕ) (ds : List ℕ) → IsSymbolText (b ∷ (c ∷ ds)) → (pairs_up b ≡ true) × (c ≡ 61)
two_of b c [] is = is
two_of b c (d ∷ ds) is = absurd is

-- only a symbol begins with such a byte
only_symbol : (n b : ℕ) (bs : List ℕ) → IsOther b → IsTokenText (take n (b ∷ bs)) → IsSymbolText (take n (b ∷ bs))
only_symbol n b bs other (inl number) = absurd (no_number n b bs other.0 number)
only_symbol n b bs other (inr (inl word)) = cc (word_first n b bs word, other.1)
only_symbol n b bs other (inr (inr symbol)) = symbol

single_most : (n b : ℕ) (bs : List ℕ) → (pairs_up b && follows_equal bs) ≡ false → n ≤ length (b ∷ bs) → IsSymbolText (take n (b ∷ bs)) → n ≤ 1
single_most zero b bs alone within is = omega arith
single_most (suc zero) b bs alone within is = omega arith
single_most (suc (suc n)) b [] alone within is = absurd (omega (arith, within))
single_most (suc (suc n)) b (c ∷ cs) alone within is =
    let two = two_of b c (take n cs) is in
    let both : (pairs_up b && follows_equal (c ∷ cs)) ≡ true = ap (λ t. t && (c == 61)) two.0 ∙ ap (λ x. x == 61) two.1 in
    cc (both, alone)

single_longest : (b : ℕ) (bs : List ℕ) → IsOther b → single b ≡ true → (pairs_up b && follows_equal bs) ≡ false → IsLongest (b ∷ bs) 1
single_longest b bs other is alone = record {
  within = omega arith;
  is_token = inr (inr is);
  longest = λ n within token. single_most n b bs alone within (only_symbol n b bs other token);
}

pair_most : (n b c : ℕ) (cs : List ℕ) → n ≤ length (b ∷ (c ∷ cs)) → IsSymbolText (take n (b ∷ (c ∷ cs))) → n ≤ 2
pair_most zero b c cs within is = omega arith
pair_most (suc zero) b c cs within is = omega arith
pair_most (suc (suc zero)) b c cs within is = omega arith
pair_most (suc (suc (suc n))) b c [] within is = absurd (omega (arith, within))
pair_most (suc (suc (suc n))) b c (d ∷ ds) within is = absurd is

pair_longest : (b : ℕ) (bs : List ℕ) → IsOther b → pairs_up b ≡ true → follows_equal bs ≡ true → IsLongest (b ∷ bs) 2
pair_longest b [] other is follows = cc follows
pair_longest b (c ∷ cs) other is follows = record {
  within = omega arith;
  is_token = inr (inr (is, eqb-true c 61 follows));
  longest = λ n within token. pair_most n b c cs within (only_symbol n b (c ∷ cs) other token);
}

no_symbol : (n b : ℕ) (bs : List ℕ) → single b ≡ false → (pairs_up b && follows_equal bs) ≡ false → ¬ IsSymbolText (take n (b ∷ bs))
no_symbol zero b bs other alone is = is
no_symbol (suc zero) b bs other alone is = cc (is, other)
no_symbol (suc (suc n)) b [] other alone is = cc (is, other)
no_symbol (suc (suc n)) b (c ∷ cs) other alone is =
    let two = two_of b c (take n cs) is in
    let both : (pairs_up b && follows_equal (c ∷ cs)) ≡ true = ap (λ t. t && (c == 61)) two.0 ∙ ap (λ x. x == 61) two.1 in
    cc (both, alone)

abbrev Takes : ℕ → List ℕ → Lexeme → Type 0
Takes b bs l = IsLongest (b ∷ bs) l.len ⊎ ((l.token ≡ Bad) × ((n : ℕ) → ¬ IsTokenText (take n (b ∷ bs))))

-- a byte that is a symbol by itself alone
one_byte : (k b : ℕ) (bs : List ℕ) → IsOther k → single k ≡ true → pairs_up k ≡ false → (b == k) ≡ true → IsLongest (b ∷ bs) 1
one_byte k b bs other is alone same =
    subst (λ x. IsLongest (x ∷ bs) 1) (sym (eqb-true b k same)) (single_longest k bs other is (ap (λ t. t && follows_equal bs) alone))

equal_sign : (bs : List ℕ) → IsLongest (61 ∷ bs) (if follows_equal bs then 2 else 1)
equal_sign bs = cond_both (follows_equal bs) 2 1 (λ n. IsLongest (61 ∷ bs) n)
    (λ follows. pair_longest 61 bs (refl, refl) refl follows) (λ other. single_longest 61 bs (refl, refl) refl other)

two_bytes : (k b : ℕ) (bs : List ℕ) → IsOther k → pairs_up k ≡ true → (b == k && follows_equal bs) ≡ true → IsLongest (b ∷ bs) 2
two_bytes k b bs other is both =
    let parts = and_parts (b == k) (follows_equal bs) both in
    subst (λ x. IsLongest (x ∷ bs) 2) (sym (eqb-true b k parts.0)) (pair_longest k bs other is parts.1)

not_both : (x y z f : Bool) → (x && f) ≡ false → (y && f) ≡ false → z ≡ false → ((x || (y || (z || false))) && f) ≡ false
not_both true y z f hx hy hz = hx
not_both false true z f hx hy hz = hy
not_both false false true f hx hy hz = cc hz
not_both false false false f hx hy hz = refl

symbol_case : (b : ℕ) (bs : List ℕ) → IsOther b → Takes b bs (sign_at b bs)
symbol_case b bs other =
    let P : Lexeme → Type 0 = λ l. Takes b bs l in
    cond_both (b == 43) _ _ P (λ is. inl (one_byte 43 b bs (refl, refl) refl refl is)) (λ n43.
    cond_both (b == 45) _ _ P (λ is. inl (one_byte 45 b bs (refl, refl) refl refl is)) (λ n45.
    cond_both (b == 42) _ _ P (λ is. inl (one_byte 42 b bs (refl, refl) refl refl is)) (λ n42.
    cond_both (b == 47) _ _ P (λ is. inl (one_byte 47 b bs (refl, refl) refl refl is)) (λ n47.
    cond_both (b == 40) _ _ P (λ is. inl (one_byte 40 b bs (refl, refl) refl refl is)) (λ n40.
    cond_both (b == 41) _ _ P (λ is. inl (one_byte 41 b bs (refl, refl) refl refl is)) (λ n41.
    cond_both (b == 124) _ _ P (λ is. inl (one_byte 124 b bs (refl, refl) refl refl is)) (λ n124.
    cond_both (b == 61) _ _ P (λ is. inl (subst (λ x. IsLongest (x ∷ bs) (if follows_equal bs then 2 else 1)) (sym (eqb-true b 61 is)) (equal_sign bs))) (λ n61.
    cond_both (b == 60 && follows_equal bs) _ _ P (λ is. inl (two_bytes 60 b bs (refl, refl) refl is)) (λ n60.
    cond_both (b == 62 && follows_equal bs) _ _ P (λ is. inl (two_bytes 62 b bs (refl, refl) refl is)) (λ n62.
    let none : single b ≡ false = or_from (b == 43) _ n43 (or_from (b == 45) _ n45 (or_from (b == 42) _ n42 (or_from (b == 47) _ n47
    (or_from (b == 40) _ n40 (or_from (b == 41) _ n41 (or_from (b == 124) _ n124 (or_from (b == 61) _ n61 refl))))))) in
    let alone : (pairs_up b && follows_equal bs) ≡ false = not_both (b == 60) (b == 62) (b == 61) (follows_equal bs) n60 n62 n61 in
    inr (refl, λ n token. no_symbol n b bs none alone (only_symbol n b bs other token))))))))))))

pub takes_longest : TakesLongest
takes_longest s b bs =
    let P : Lexeme → Type 0 = λ l. Takes b bs l in
    cond_both (is_ascii_digit b) _ _ P (λ digit. inl (number_case b bs digit)) (λ other.
    cond_both (begins_name b) _ _ P (λ word. inl (word_case b bs other word)) (λ no_word. symbol_case b bs (other, no_word)))
