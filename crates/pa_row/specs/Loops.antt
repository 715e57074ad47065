-- Parts of the sums, as the private functions make them. No public clause names one of these.
use Rattle.std.specs.Prelude.{ℕ, zero, ℤ, ◌+ℤ◌, ◌-ℤ◌, ◌*ℤ◌, List, length, Bool, Result, Ok, pos}
use Rattle.std.specs.List.{list_all}
use Rattle.std.specs.Ordering.{int_eq}
use Rattle.std.specs.Cmp.Lexicographic.{pointwise}
use Rattle.pa_math.specs.Answers.{and_then}
use Rattle.pa_frac.specs.declared.wide.Wide.{Wide}
use Rattle.pa_frac.specs.Width.{within}
use Rattle.pa_meaning.specs.Rows.{Row}
use Rattle.pa_meaning.specs.Weights.{Weights}
use Rattle.pa_row.specs.Sums.{dot_in, times_in, numerators, in_column, bounds_at, columns_in, differences_in, sums_in}

-- one product, and the sum after it
abbrev pub next_sum_in : ℤ → ℤ → ℤ → Result ℤ Wide
next_sum_in sum a b = and_then (within 126 (a *ℤ b)) (λ product. within 126 (sum +ℤ product))

-- one product, and the difference after it
abbrev pub less_next_in : ℤ → ℤ → ℤ → Result ℤ Wide
less_next_in left a b = and_then (within 126 (a *ℤ b)) (λ product. within 126 (left -ℤ product))

-- whether the weighted sum of a column is this number times the denominator, and whether it is 0
abbrev pub column_compared : List Row → List (ℕ × ℤ) → ℤ → ℕ → ℤ → Result (Bool × Bool) Wide
column_compared rows parts den column c = and_then (dot_in (numerators parts) (in_column rows column parts)) (λ sum.
    and_then {B = Bool × Bool} (within 126 (den *ℤ c)) (λ scaled. Ok (int_eq sum scaled, int_eq sum (pos 0))))

-- whether the weighted sums of the columns are these coefficients times the denominator, and whether they are all 0
abbrev pub columns_compared : List Row → List (ℕ × ℤ) → ℤ → List ℤ → Result (Bool × Bool) Wide
columns_compared rows parts den cs = and_then (columns_in rows parts zero (length cs)) (λ sums.
    and_then (times_in den cs) (λ scaled. Ok (pointwise int_eq sums scaled, list_all (λ z. int_eq z (pos 0)) sums)))

-- a number times the denominator, less a sum
abbrev pub scaled_less_in : ℤ → ℤ → ℤ → Result ℤ Wide
scaled_less_in den number sum = and_then (within 126 (den *ℤ number)) (λ scaled. within 126 (scaled -ℤ sum))

-- a coefficient times the denominator, less the weighted sum of its column
abbrev pub column_shifted : List Row → Weights → ℕ → ℤ → Result ℤ Wide
column_shifted rows w column c = and_then (dot_in (numerators w.parts) (in_column rows column w.parts)) (λ sum. scaled_less_in w.den c sum)

-- these coefficients times the denominator, less the weighted sums of the columns
abbrev pub columns_shifted : List Row → Weights → List ℤ → Result (List ℤ) Wide
columns_shifted rows w cs = and_then (columns_in rows w.parts zero (length cs)) (λ sums. and_then (times_in w.den cs) (λ scaled. differences_in scaled sums))

-- the bound times the denominator, less the weighted sum of the bounds
abbrev pub bound_shifted : List Row → Weights → ℤ → Result ℤ Wide
bound_shifted rows w b = and_then (dot_in (numerators w.parts) (bounds_at rows w.parts)) (λ sum. scaled_less_in w.den b sum)

-- the term times the denominator, less the weighted sum of the rows
abbrev pub less_weighted_in : Row → List Row → Weights → Result Row Wide
less_weighted_in term rows w = and_then (columns_shifted rows w term.c) (λ c. and_then (bound_shifted rows w term.b) (λ b. Ok (record { c = c; b = b })))

-- a number and another one, each times its factor, added up
abbrev pub pair_sum_in : ℤ → ℤ → ℤ → ℤ → Result ℤ Wide
pair_sum_in m a l b = and_then (within 126 (m *ℤ a)) (λ left. and_then (within 126 (l *ℤ b)) (λ right. within 126 (left +ℤ right)))

-- the numbers of two lists, each list times its factor, added up
abbrev pub pair_sums_in : ℤ → List ℤ → ℤ → List ℤ → Result (List ℤ) Wide
pair_sums_in m ps l ns = and_then (times_in m ps) (λ left. and_then (times_in l ns) (λ right. sums_in left right))

-- two rows, each times its factor, added up
abbrev pub pair_row_in : ℤ → Row → ℤ → Row → Result Row Wide
pair_row_in m p l n = and_then (pair_sums_in m p.c l n.c) (λ c. and_then (pair_sum_in m p.b l n.b) (λ b. Ok (record { c = c; b = b })))
