-- The tests of the value of a goal.
use Rattle.std.specs.Prelude.{ℕ, suc, List, [], ◌∷◌, length, ℤ, ◌+ℤ◌, ◌*ℤ◌, Bool, true, Result, Ok}
use Rattle.std.specs.Ordering.{int_eq}
use Rattle.pa_math.specs.Answers.{and_then}
use Rattle.pa_frac.specs.declared.wide.Wide.{Wide}
use Rattle.pa_frac.specs.Width.{within}
use Rattle.pa_meaning.specs.Rows.{Row, Point}
use Rattle.pa_meaning.specs.Weights.{Weights}
use Rattle.pa_row.specs.Sums.{dot_in, numerators, in_column, bounds_at}
use Rattle.pa_holds.specs.Bounded.{turned}
use Rattle.pa_check.specs.Tests.{both}
use Rattle.pa_check.specs.Proofs.{are_below}

-- the sum with `b` times the number, times `den`: the bracket first
abbrev pub left_in : ℤ → ℤ → ℤ → ℤ → Result ℤ Wide
left_in sum b den by = and_then (within 126 (b *ℤ by)) (λ product. and_then (within 126 (sum +ℤ product)) (λ bracket. within 126 (den *ℤ bracket)))

abbrev pub right_in : ℤ → ℤ → ℤ → Result ℤ Wide
right_in q num by = and_then (within 126 (num *ℤ q)) (λ product. within 126 (product *ℤ by))

-- whether the sum with `b` times the number is the value `num / den`, over `q` times the number
abbrev pub value_in : ℤ → ℤ → ℤ → ℤ → ℤ → ℤ → Result Bool Wide
value_in sum b q num den by = and_then (left_in sum b den by) (λ left. and_then (right_in q num by) (λ right. Ok (int_eq left right)))

-- whether the weighted sum of a column is the goal's number there times the denominator, turned where the least is sought
abbrev pub column_in : List Row → Weights → Bool → ℕ → ℤ → Result Bool Wide
column_in rows w least column c =
    and_then (dot_in (numerators w.parts) (in_column rows column w.parts))
    (λ sum. and_then (within 126 (w.den *ℤ c)) (λ scaled. Ok (int_eq sum (turned least scaled))))

-- the same of each column, from this one on
abbrev pub columns_in : List Row → Weights → Bool → ℕ → List ℤ → Result Bool Wide
columns_in rows w least column [] = Ok true
columns_in rows w least column (c ∷ cs) = both (column_in rows w least column c) (columns_in rows w least (suc column) cs)

-- whether the weighted bounds have the value
abbrev pub bound_in : List Row → Weights → ℤ → ℤ → Bool → ℤ → ℤ → Result Bool Wide
bound_in rows w b q least num den = and_then (dot_in (numerators w.parts) (bounds_at rows w.parts)) (λ sum. value_in (turned least sum) b q num den w.den)

-- whether the weights bound the goal by the value: their places, then column by column, then the value
abbrev pub weights_in : List Row → List ℤ → ℤ → ℤ → Bool → ℤ → ℤ → Weights → Result Bool Wide
weights_in rows goals b q least num den w =
    both (Ok (are_below (length rows) w.parts)) (both (columns_in rows w least 0 goals) (bound_in rows w b q least num den))

-- whether the goal has the value at the point
abbrev pub point_in : List ℤ → ℤ → ℤ → ℤ → ℤ → Point → Result Bool Wide
point_in goals b q num den x = and_then (dot_in goals x.p) (λ sum. value_in sum b q num den x.q)
