-- Nominal values of names.
use Rattle.std.specs.Prelude.{◌≡◌, List, length, ℤ, pos, All, position, slice_index_or}
use Rattle.std.specs.Str.{bytes_eq}
use Rattle.pa_math.specs.Answers.{given}
use Rattle.pa_meaning.specs.Contracts.{Name}
use Rattle.pa_row.specs.Fractions.{IsFraction}

-- names, and a fraction for each
pub record Nominal : Type 0 where
  pub names : List Name
  pub values : List (ℤ × ℤ)

-- there is one value for each name, in lowest terms
pub record IsNominal (n : Nominal) : Type 0 where
  pub each : length n.values ≡ length n.names
  pub fractions : All IsFraction n.values

-- the value of a name, 0 where the name is not there
abbrev pub value_of : Nominal → Name → ℤ × ℤ
value_of n name = given (pos 0, pos 1) (position (bytes_eq name) n.names) (λ place. slice_index_or n.values place (pos 0, pos 1))
