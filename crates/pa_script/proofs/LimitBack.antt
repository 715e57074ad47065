-- The digits of a limit's number are read back.
use Rattle.std.proofs.Common.{◌≡◌, ℕ, ◌<◌, ◌≤◌, List, [], ◌∷◌, get_or, refl, ap, ◌∙◌, Bool, true, false, Some, None, arith}
use Rattle.std.specs.Prelude.{◌&&◌, ◌==◌, codes, decimal, nat_le, nat_eq, not, option_and_then, if◌then◌else◌}
use Rattle.std.specs.Char.{is_ascii_digit}
use Rattle.std.specs.Str.{all_ascii_digits}
use Rattle.std.specs.List.{AllPass, list_all, starts_with}
use Rattle.std.specs.Str.Parse.{digits_value}
use Rattle.std.proofs.lemmas.Bool.{and_parts, cond-true, cond-false, le-leb, ne_eqb}
use Rattle.std.proofs.lemmas.Fmt.{digits_decimal, digits_value-decimal, decimal_nonempty, first_decimal}
use Rattle.std.proofs.lemmas.Str.Parse.{IsNumeralModel, numerals_by_value, tells_all_ascii_digits}
use Rattle.std.proofs.lemmas.List.Elements.{All-nil, All-cons}
use Rattle.std.proofs.lemmas.List.Sums.{list_all-from_AllPass}
use Rattle.pa_script.specs.declared.values.TheConstants.{MOST_LIMIT}
use Rattle.pa_script.specs.Values.{small_number, limit_in}
use Rattle.pa_script.proofs.Cursor.{IsWord, all_in_word}

own : IsNumeralModel (λ ds. all_ascii_digits ds ≡ true) (digits_value 10)
own = numerals_by_value (λ ds. all_ascii_digits ds ≡ true) tells_all_ascii_digits

each_digit : (ds : List ℕ) → all_ascii_digits ds ≡ true → AllPass is_ascii_digit ds
each_digit [] is = All-nil (λ b. is_ascii_digit b ≡ true)
each_digit (c ∷ cs) is =
    let parts = and_parts (is_ascii_digit c) (all_ascii_digits cs) is in
    All-cons (λ b. is_ascii_digit b ≡ true) c cs parts.0 (each_digit cs parts.1)

decimal_digits : (n : ℕ) → n ≤ MOST_LIMIT → AllPass is_ascii_digit (decimal n)
decimal_digits n le = each_digit (decimal n) (digits_decimal own n (omega (arith, le)))

pub decimal_word : (n : ℕ) → n ≤ MOST_LIMIT → IsWord (decimal n)
decimal_word n le = record {
  there = omega (arith, decimal_nonempty n (omega (arith, le)));
  each = all_in_word is_ascii_digit refl refl (decimal n) (decimal_digits n le);
}

no_zero : (ds : List ℕ) → 48 < get_or ds 0 0 → starts_with nat_eq ds (codes "0") ≡ false
no_zero [] first = refl
no_zero (c ∷ cs) first = ap (λ b. b && starts_with nat_eq cs []) (ne_eqb 48 c (λ same. omega (arith, first, same)))

small_back : (n : ℕ) → n ≤ MOST_LIMIT → small_number (decimal n) ≡ Some n
small_back n le =
    ap (λ v. if nat_le v MOST_LIMIT then Some v else None) (digits_value-decimal own n (omega (arith, le)))
    ∙ cond-true (nat_le n MOST_LIMIT) (Some n) None (le-leb n MOST_LIMIT le)

abbrev digits_alone : List ℕ → Bool
digits_alone ds = list_all is_ascii_digit ds && not (starts_with nat_eq ds (codes "0"))

is_alone : (n : ℕ) → 1 ≤ n → n ≤ MOST_LIMIT → digits_alone (decimal n) ≡ true
is_alone n least le =
    ap (λ b. b && not (starts_with nat_eq (decimal n) (codes "0"))) (list_all-from_AllPass is_ascii_digit (decimal n) (decimal_digits n le))
    ∙ ap (λ b. true && not b) (no_zero (decimal n) (first_decimal n (omega (arith, least)) (omega (arith, le))))

pub limit_in_back : (n : ℕ) → 1 ≤ n → n ≤ MOST_LIMIT → limit_in (decimal n) ≡ Some n
limit_in_back n least le =
    cond-true (digits_alone (decimal n)) (option_and_then (λ m. if m == 0 then None else Some m) (small_number (decimal n))) None (is_alone n least le)
    ∙ ap (option_and_then (λ m. if m == 0 then None else Some m)) (small_back n le)
    ∙ cond-false (n == 0) None (Some n) (ne_eqb n 0 (λ same. omega (arith, least, same)))
