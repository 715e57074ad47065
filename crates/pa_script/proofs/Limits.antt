-- The number of a limit.
use Rattle.std.proofs.Common.{◌≡◌, ℕ, ◌+◌, ◌-◌, ◌*◌, ◌<◌, List, drop, length, get_or, arith, Some, None}
use Rattle.std.specs.Prelude.{nat_le}
use Rattle.std.specs.List.{AllPass}
use Rattle.std.specs.Char.{is_ascii_digit}
use Rattle.std.specs.Str.Parse.{digits_value, digits_value_after}
use Rattle.std.proofs.lemmas.Bool.{lt-leb, cond-false}
use Rattle.pa_grammar.proofs.Decimals.{digit_taken}
use Rattle.pa_script.specs.Values.{small_number}

-- the number passes 4,096
pub too_large : (digits : List ℕ) (i value : ℕ) → AllPass is_ascii_digit digits → i < length digits
    → digits_value_after 10 value (drop i digits) ≡ digits_value 10 digits
    → 4096 < value * 10 + (get_or digits i 0 - 48) → small_number digits ≡ None
too_large digits i value each within so_far large =
    let taken = digit_taken digits i value (digits_value 10 digits) each within so_far in
    cond-false (nat_le (digits_value 10 digits) 4096) (Some (digits_value 10 digits)) None (lt-leb (digits_value 10 digits) 4096 (omega (
      arith,
      taken.2,
      large,
    )))
