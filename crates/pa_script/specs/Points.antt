-- The point that the words `x=V ..` give: a fraction for each, over their least common denominator.
use Rattle.std.specs.Prelude.{ℕ, ℤ, ◌==◌, List, [], ◌∷◌, ◌++◌, length, take, drop, nat_lt, Bool, not, Result, Ok}
use Rattle.std.specs.List.{prefix_len}
use Rattle.pa_math.specs.Answers.{and_then, told_as}
use Rattle.pa_meaning.specs.Rows.{Point}
use Rattle.pa_row.specs.Fractions.{point_in}
use Rattle.pa_grammar.specs.Read.{value_answer}
use Rattle.pa_script.specs.declared.fault.ScriptFault.{ScriptFault}
use Rattle.pa_script.specs.declared.fault.ScriptFault.TheVariants.{Line}
use Rattle.pa_script.specs.declared.fault.LineKind.TheVariants as kind
use Rattle.pa_script.specs.Steps.{each}

-- what stands before the first `=` of a word, and what behind it
abbrev pub is_before_equals : ℕ → Bool
is_before_equals b = not (b == 61)

abbrev pub has_equals : List ℕ → Bool
has_equals word = nat_lt (prefix_len is_before_equals word) (length word)

abbrev pub name_part : List ℕ → List ℕ
name_part word = take (prefix_len is_before_equals word) word

abbrev pub value_part : List ℕ → List ℕ
value_part word = drop 1 (drop (prefix_len is_before_equals word) word)

-- the fraction of the value behind the `=`
abbrev pub fraction_at : ℕ → List ℕ → Result (ℤ × ℤ) ScriptFault
fraction_at number word = told_as (λ fault. Line number kind.Number) (value_answer (value_part word))

abbrev pub with_fraction : ℕ → List (ℤ × ℤ) → List ℕ → Result (List (ℤ × ℤ)) ScriptFault
with_fraction number fractions word = and_then (fraction_at number word) (λ fraction. Ok (fractions ++ fraction ∷ []))

abbrev pub fractions_at : ℕ → List (List ℕ) → Result (List (ℤ × ℤ)) ScriptFault
fractions_at number words = each (with_fraction number) [] words

-- the point of the fractions
abbrev pub common_point : ℕ → List (ℤ × ℤ) → Result Point ScriptFault
common_point number fractions = told_as (λ wide. Line number kind.Number) (point_in fractions)

abbrev pub point_at : ℕ → List (List ℕ) → Result Point ScriptFault
point_at number words = and_then (fractions_at number words) (common_point number)
