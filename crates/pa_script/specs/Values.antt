-- The number of a limit.
use Rattle.std.specs.Prelude.{ℕ, ◌&&◌, ◌==◌, List, codes, nat_le, nat_eq, not, Option, Some, None, option_and_then, if◌then◌else◌}
use Rattle.std.specs.Char.{is_ascii_digit}
use Rattle.std.specs.List.{list_all, starts_with}
use Rattle.std.specs.Str.Parse.{digits_value}
use Rattle.pa_script.specs.declared.values.TheConstants.{MOST_LIMIT}

-- the number that digits are, where it is no larger than a limit may be
abbrev pub small_number : List ℕ → Option ℕ
small_number digits = if nat_le (digits_value 10 digits) MOST_LIMIT then Some (digits_value 10 digits) else None

-- the number of a limit: digits without a leading 0, from 1 to 4,096
abbrev pub limit_in : List ℕ → Option ℕ
limit_in word = if list_all is_ascii_digit word && not (starts_with nat_eq word (codes "0"))
    then option_and_then (λ n. if n == 0 then None else Some n) (small_number word) else None
