-- An equality in a list of rows: a row and its negative.
use Rattle.std.specs.Prelude.{ℕ, suc, List, [], ◌∷◌, map, pos, neg_ℤ, int_lt, Bool, if◌then◌else◌, Option, Some, None}
use Rattle.std.specs.Ordering.{int_eq, on, eq_of_both}
use Rattle.std.specs.Cmp.Lexicographic.{pointwise}
use Rattle.pa_ring.specs.Sums.{number_at}
use Rattle.pa_math.specs.Answers.{given}
use Rattle.pa_meaning.specs.Rows.{Row}

-- the same coefficients, column by column, and the same bound
abbrev pub same_row : Row → Row → Bool
same_row = eq_of_both (on (λ r. r.c) (pointwise int_eq)) (on (λ r. r.b) int_eq)

-- the row times -1
abbrev pub negative : Row → Row
negative r = record { c = map neg_ℤ r.c; b = neg_ℤ r.b }

-- each number of s is the negative of r's, the bound included: together they say that r's sum is its bound
abbrev pub is_opposite : Row → Row → Bool
is_opposite r s = same_row (negative r) s

-- the place of the first row that passes a test, where the list begins at place i
abbrev pub place_from : (Row → Bool) → ℕ → List Row → Option ℕ
place_from test i [] = None
place_from test i (r ∷ rows) = if test r then Some i else place_from test (suc i) rows

-- the place of the first row that is r's negative
abbrev pub opposite_of : List Row → Row → Option ℕ
opposite_of rows r = place_from (is_opposite r) 0 rows

-- the places of a row that is positive in column k and of its negative: the least place of the first among these later
-- rows, which begin at place i, and then the least of the second among all rows
abbrev pub equality_from : ℕ → List Row → ℕ → List Row → Option (ℕ × ℕ)
equality_from k rows i [] = None
equality_from k rows i (r ∷ later) =
    if int_lt (pos 0) (number_at r.c k) then given (equality_from k rows (suc i) later) (opposite_of rows r) (λ j. Some (i, j))
    else equality_from k rows (suc i) later

-- the same among all rows
abbrev pub equality_of : ℕ → List Row → Option (ℕ × ℕ)
equality_of k rows = equality_from k rows 0 rows
