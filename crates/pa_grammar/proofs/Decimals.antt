-- Digits and the numbers that they are.
use Rattle.std.proofs.Common.{◌≡◌, ℕ, zero, suc, ◌+◌, ◌-◌, ◌*◌, ◌^◌, ◌<◌, ◌≤◌, Bool, true, false, List, [], ◌∷◌, ◌++◌, take, drop, length, get_or, refl, ap}
use Rattle.std.proofs.Common.{sym, ◌∙◌, arith, subst, Some, None}
use Rattle.std.specs.Prelude.{nat_le, ◌==◌, ◌||◌}
use Rattle.std.specs.List.{AllPass, prefix_len}
use Rattle.std.specs.Char.{is_ascii_digit, digit_value}
use Rattle.std.specs.Str.Parse.{digits_value, digits_value_after, AllDigits}
use Rattle.std.proofs.Math.Nat.{pow-le-pow_right}
use Rattle.std.proofs.lemmas.Bool.{and_parts, leb-true, lt-leb, cond_both, cond-true, cond-false, eqb-true}
use Rattle.std.proofs.lemmas.Int.Digits.{digits_value-lt}
use Rattle.std.proofs.lemmas.List.{drop_more, length-append, length-take, length-drop}
use Rattle.std.proofs.lemmas.List.Elements.{All-nil, All-cons, All-head, All-tail, All-get_or, All-drop}
use Rattle.std.proofs.lemmas.Str.{digit_value_digit}
use Rattle.pa_grammar.specs.Lexer.{is_zero, significant, digits_len, point_len, sign_len, exponent_len, exponent_digits, whole_digits, power_of}

-- ---- digits are digits

digit_in_range : (c : ℕ) → is_ascii_digit c ≡ true → (48 ≤ c) × (c ≤ 57)
digit_in_range c digit =
    let parts = and_parts _ _ digit in
    (leb-true 48 c parts.0, leb-true c 57 parts.1)

all_digits : (digits : List ℕ) → AllPass is_ascii_digit digits → AllDigits 10 digits
all_digits [] each = tt
all_digits (c ∷ cs) each =
    let range = digit_in_range c (All-head (λ b. is_ascii_digit b ≡ true) c cs each) in
    (omega (arith, range, digit_value_digit c range), all_digits cs (All-tail (λ b. is_ascii_digit b ≡ true) c cs each))

pub front_passes : (test : ℕ → Bool) (bytes : List ℕ) → AllPass test (take (prefix_len test bytes) bytes)
front_passes test [] = All-nil (λ b. test b ≡ true)
front_passes test (b ∷ bs) = cond_both (test b) (1 + prefix_len test bs) 0 (λ n. AllPass test (take n (b ∷ bs)))
    (λ passes. let more : 1 + prefix_len test bs ≡ suc (prefix_len test bs) = omega arith in
    subst (λ n. AllPass test (take n (b ∷ bs))) (sym more) (All-cons (λ c. test c ≡ true) b (take (prefix_len test bs) bs) passes (front_passes test bs)))
    (λ _. All-nil (λ c. test c ≡ true))

pub whole_passes : (bytes : List ℕ) → AllPass is_ascii_digit (whole_digits bytes)
whole_passes bytes = front_passes is_ascii_digit bytes

pub fraction_passes : (bytes : List ℕ) → AllPass is_ascii_digit (drop 1 (take (point_len bytes) bytes))
fraction_passes [] = All-nil (λ c. is_ascii_digit c ≡ true)
fraction_passes (b ∷ bs) =
    let more : 1 + digits_len bs ≡ suc (digits_len bs) = omega arith in
    cond_both _ (1 + digits_len bs) 0 (λ n. AllPass is_ascii_digit (drop 1 (take n (b ∷ bs))))
    (λ _. subst (λ n. AllPass is_ascii_digit (drop 1 (take n (b ∷ bs)))) (sym more) (front_passes is_ascii_digit bs))
    (λ _. All-nil (λ c. is_ascii_digit c ≡ true))

unsigned : (n b : ℕ) (bs : List ℕ) → (b == 43 || b == 45) ≡ false → exponent_digits (take n (b ∷ bs)) ≡ take n (b ∷ bs)
unsigned zero b bs other = refl
unsigned (suc n) b bs other = ap (λ m. drop m (b ∷ take n bs)) (cond-false _ 1 0 other)

pub take_nothing : (n : ℕ) → take {A = ℕ} n [] ≡ []
take_nothing zero = refl
take_nothing (suc n) = refl

-- the digits behind an exponent's sign
behind_sign : (n : ℕ) (bs : List ℕ) → exponent_digits (take (sign_len bs + n) bs) ≡ take n (drop (sign_len bs) bs)
behind_sign n [] = ap exponent_digits (take_nothing (0 + n)) ∙ sym (take_nothing n)
behind_sign n (b ∷ bs) = cond_both (b == 43 || b == 45) 1 0 (λ k. drop (sign_len (take (k + n) (b ∷ bs))) (take (k + n) (b ∷ bs)) ≡ take n (drop k (b ∷ bs)))
    (λ yes. let more : 1 + n ≡ suc n = omega arith in
    ap (λ m. drop (sign_len (take m (b ∷ bs))) (take m (b ∷ bs))) more ∙ ap (λ m. drop m (b ∷ take n bs)) (cond-true _ 1 0 yes))
    (λ other. ap (λ m. exponent_digits (take m (b ∷ bs))) (omega arith) ∙ unsigned n b bs other)

signed_passes : (bs : List ℕ) → AllPass is_ascii_digit (exponent_digits (take (sign_len bs + digits_len (drop (sign_len bs) bs)) bs))
signed_passes bs = subst (λ xs. AllPass is_ascii_digit xs) (sym (behind_sign (digits_len (drop (sign_len bs) bs)) bs)) (front_passes is_ascii_digit (drop
    (sign_len bs) bs))

pub exponent_passes : (bytes : List ℕ) → AllPass is_ascii_digit (exponent_digits (drop 1 (take (exponent_len bytes) bytes)))
exponent_passes [] = All-nil (λ c. is_ascii_digit c ≡ true)
exponent_passes (b ∷ bs) =
    let more : 1 + sign_len bs + digits_len (drop (sign_len bs) bs) ≡ suc (sign_len bs + digits_len (drop (sign_len bs) bs)) = omega arith in
    cond_both _ (1 + sign_len bs + digits_len (drop (sign_len bs) bs)) 0 (λ n. AllPass is_ascii_digit (exponent_digits (drop 1 (take n (b ∷ bs)))))
    (λ _. subst (λ n. AllPass is_ascii_digit (exponent_digits (drop 1 (take n (b ∷ bs))))) (sym more) (signed_passes bs))
    (λ _. All-nil (λ c. is_ascii_digit c ≡ true))

-- ---- values

-- further digits make no number smaller
value_after_ge : (n : ℕ) (digits : List ℕ) → n ≤ digits_value_after 10 n digits
value_after_ge n [] = omega arith
value_after_ge n (c ∷ cs) = omega (arith, value_after_ge (n * 10 + digit_value c) cs)

value_after_append : (n : ℕ) (xs ys : List ℕ) → digits_value_after 10 n (xs ++ ys) ≡ digits_value_after 10 (digits_value_after 10 n xs) ys
value_after_append n [] ys = refl
value_after_append n (x ∷ xs) ys = value_after_append (n * 10 + digit_value x) xs ys

-- one digit more
pub digit_taken : (digits : List ℕ) (i value total : ℕ) → AllPass is_ascii_digit digits → i < length digits
    → digits_value_after 10 value (drop i digits) ≡ total
    → (48 ≤ get_or digits i 0) × (get_or digits i 0 ≤ 57) × (value * 10 + (get_or digits i 0 - 48) ≤ total)
    × (digits_value_after 10 (value * 10 + (get_or digits i 0 - 48)) (drop (i + 1) digits) ≡ total)
digit_taken digits i value total each within so_far =
    let c : ℕ = get_or digits i 0 in
    let range = digit_in_range c (All-get_or (λ b. is_ascii_digit b ≡ true) digits i 0 within each) in
    let is : digit_value c ≡ c - 48 = omega (arith, digit_value_digit c range) in
    let now : digits_value_after 10 (value * 10 + (c - 48)) (drop (i + 1) digits) ≡ total =
    ap (λ d. digits_value_after 10 (value * 10 + d) (drop (i + 1) digits)) (sym is) ∙ ap (digits_value_after 10 value) (sym (drop_more digits i 0 within))
    ∙ so_far in
    (range.0, range.1, omega (arith, value_after_ge (value * 10 + (c - 48)) (drop (i + 1) digits), now), now)

-- leading zeros add nothing
pub leading_zeros : (digits : List ℕ) → digits_value 10 (significant digits) ≡ digits_value 10 digits
leading_zeros [] = refl
leading_zeros (c ∷ cs) = cond_both (is_zero c) (1 + prefix_len is_zero cs) 0 (λ n. digits_value 10 (drop n (c ∷ cs)) ≡ digits_value 10 (c ∷ cs))
    (λ is. let more : 1 + prefix_len is_zero cs ≡ suc (prefix_len is_zero cs) = omega arith in
    let same : digits_value 10 (48 ∷ cs) ≡ digits_value 10 (c ∷ cs) = ap (λ b. digits_value 10 (b ∷ cs)) (sym (eqb-true c 48 is)) in
    ap (λ n. digits_value 10 (drop n (c ∷ cs))) more ∙ leading_zeros cs ∙ same)
    (λ _. refl)

-- at most 18 digits from the first one that is not 0 are a number below `10 ^ 18`
pub few_digits : (digits : List ℕ) → AllPass is_ascii_digit digits → length (significant digits) ≤ 18 → digits_value 10 digits < 10 ^ 18
few_digits digits each few =
    let power : 10 ^ length (significant digits) ≤ 10 ^ 18 = pow-le-pow_right {n = 10} (omega arith) few in
    let own : AllPass is_ascii_digit (significant digits) = All-drop (λ b. is_ascii_digit b ≡ true) (prefix_len is_zero digits) digits each in
    omega (arith, digits_value-lt 10 (significant digits) (all_digits (significant digits) own), power, leading_zeros digits)

-- ---- digits before and behind a point

zero_skipped : (c : ℕ) (cs : List ℕ) → is_zero c ≡ true → significant (c ∷ cs) ≡ significant cs
zero_skipped c cs is =
    let more : 1 + prefix_len is_zero cs ≡ suc (prefix_len is_zero cs) = omega arith in
    ap (λ n. drop n (c ∷ cs)) (cond-true (is_zero c) (1 + prefix_len is_zero cs) 0 is ∙ more)

digit_kept : (c : ℕ) (cs : List ℕ) → is_zero c ≡ false → significant (c ∷ cs) ≡ c ∷ cs
digit_kept c cs other = ap (λ n. drop n (c ∷ cs)) (cond-false (is_zero c) (1 + prefix_len is_zero cs) 0 other)

-- zeros in front of the point are left out, and then those behind it
pub significant_none : (whole fraction : List ℕ) → length (significant whole) ≡ 0 → significant (whole ++ fraction) ≡ significant fraction
significant_none [] fraction none = refl
significant_none (c ∷ cs) fraction none = cond_both {A = ℕ} (is_zero c) 1 0 (λ _. significant (c ∷ (cs ++ fraction)) ≡ significant fraction)
    (λ is. zero_skipped c (cs ++ fraction) is ∙ significant_none cs fraction (ap length (sym (zero_skipped c cs is)) ∙ none))
    (λ other. let some : length (c ∷ cs) ≡ 0 = ap length (sym (digit_kept c cs other)) ∙ none in absurd (omega (arith, some)))

pub significant_some : (whole fraction : List ℕ) → 0 < length (significant whole) → length (significant (whole ++ fraction)) ≡ length (significant whole) +
    length fraction
significant_some [] fraction some = absurd (omega (arith, some))
significant_some (c ∷ cs) fraction some = cond_both {A = ℕ} (is_zero c) 1 0 (λ _. length (significant (c ∷ (cs ++ fraction))) ≡ length (significant (c ∷
    cs)) + length fraction)
    (λ is. let own = zero_skipped c cs is in
    ap length (zero_skipped c (cs ++ fraction) is) ∙ significant_some cs fraction (omega (arith, some, ap length own))
    ∙ ap (λ xs. length xs + length fraction) (sym own))
    (λ other. omega (arith, ap length (digit_kept c (cs ++ fraction) other), ap length (digit_kept c cs other), length-append cs fraction))

pub both_pass : (whole fraction : List ℕ) → AllPass is_ascii_digit whole → AllPass is_ascii_digit fraction → AllPass is_ascii_digit (whole ++ fraction)
both_pass [] fraction w f = f
both_pass (c ∷ cs) fraction w f = All-cons (λ b. is_ascii_digit b ≡ true) c (cs ++ fraction) (All-head (λ b. is_ascii_digit b ≡ true) c cs w) (both_pass cs
    fraction (All-tail (λ b. is_ascii_digit b ≡ true) c cs w) f)

-- the number before the point, and with what is behind it
pub number_parts : (whole fraction : List ℕ) → AllPass is_ascii_digit whole → AllPass is_ascii_digit fraction → length (significant (whole ++ fraction)) ≤ 18
    → (digits_value_after 10 (digits_value 10 whole) fraction ≡ digits_value 10 (whole ++ fraction))
    × (digits_value_after 10 (digits_value 10 whole) fraction < 10 ^ 18) × (digits_value 10 whole < 10 ^ 18)
number_parts whole fraction w f few =
    let same : digits_value 10 (whole ++ fraction) ≡ digits_value_after 10 (digits_value 10 whole) fraction = value_after_append 0 whole fraction in
    let below : digits_value 10 (whole ++ fraction) < 10 ^ 18 = few_digits (whole ++ fraction) (both_pass whole fraction w f) few in
    (sym same, omega (arith, same, below), omega (arith, same, below, value_after_ge (digits_value 10 whole) fraction))

-- the exponent passes 18
pub too_large : (digits : List ℕ) (i value : ℕ) → AllPass is_ascii_digit digits → i < length digits
    → digits_value_after 10 value (drop i digits) ≡ digits_value 10 digits
    → 18 < value * 10 + (get_or digits i 0 - 48) → power_of digits ≡ None
too_large digits i value each within so_far large =
    let taken = digit_taken digits i value (digits_value 10 digits) each within so_far in
    cond-false (nat_le (digits_value 10 digits) 18) (Some (digits_value 10 digits)) None (lt-leb (digits_value 10 digits) 18 (omega (arith, taken.2, large)))

-- the parts of a number are no longer than its text
pub fraction_short : (bytes : List ℕ) → length (drop 1 (take (point_len bytes) bytes)) ≤ length bytes
fraction_short bytes = omega (arith, length-drop 1 (take (point_len bytes) bytes), length-take (point_len bytes) bytes)
