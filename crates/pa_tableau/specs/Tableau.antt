-- The tableau of the simplex method and its pivot (G. B. Dantzig, Linear Programming and Extensions, 1963).
use Rattle.std.specs.Prelude.{◌≡◌, ℕ, ◌+◌, List, [], length, replicate, Bool, false, All, Result, Ok, if◌then◌else◌, ◌==◌, pos}
use Rattle.std.specs.List.{slice_index_or, slice_set, range_with_len}
use Rattle.pa_math.specs.Answers.{and_then, told_as}
use Rattle.pa_math.specs.Rational.{ℚ, whole}
use Rattle.pa_frac.specs.declared.wide.Wide.{Wide}
use Rattle.pa_tableau.specs.declared.wide_at.WideAt.{WideAt}
use Rattle.pa_tableau.specs.Arithmetic.{Arithmetic, each}

-- Lines of cells, of which the last two are the cost rows. Each other line has a basic column and a sign, which is -1 where it is turned.
pub record Tableau : Type 0 where
  pub lines : List (List ℚ)
  pub basis : List ℕ
  pub turned : List Bool

-- the number at a place, or 0 past the end
abbrev pub number_at : List ℚ → ℕ → ℚ
number_at line j = slice_index_or line j (whole (pos 0))

-- a line, which is empty past the end
abbrev pub line_at : Tableau → ℕ → List ℚ
line_at t i = slice_index_or t.lines i []

-- a cell
abbrev pub cell : Tableau → ℕ → ℕ → ℚ
cell t i j = number_at (line_at t i) j

-- n lines of m columns of their own, n artificial ones and the value column, and the two cost rows
pub record HasShape (n m : ℕ) (t : Tableau) : Type 0 where
  pub lines : length t.lines ≡ n + 2
  pub columns : All (λ line. length line ≡ n + m + 1) t.lines
  pub basis : length t.basis ≡ n
  pub turned : length t.turned ≡ n

-- n lines with 0 in all cells, where the columns are m of the lines' own, n artificial ones and the value column; the artificial columns
-- are basic
abbrev pub cleared : ℕ → ℕ → Tableau
cleared n m = record { lines = replicate (n + 2) (replicate (n + m + 1) (whole (pos 0))); basis = range_with_len m n; turned = replicate n false }

-- an operation for a cell in a pivot; where it is refused, the place is told
abbrev pub told_at : {A : Type 0} → ℕ → ℕ → ℕ → Result A Wide → Result A WideAt
told_at pivot row column answer = told_as (λ wide. record { pivot = pivot; row = row; column = column }) answer

-- a line divided by the pivot cell, column by column
abbrev pub divided : Arithmetic → ℕ → ℕ → ℚ → List ℚ → Result (List ℚ) WideAt
divided A pivot row p line = each (λ j x. told_at pivot row j (A.quotient x p)) 0 line

-- a number less f times the number of the pivot line
abbrev pub reduced : Arithmetic → ℚ → ℚ → ℚ → Result ℚ Wide
reduced A x f p = and_then (A.product f p) (λ y. A.difference x y)

-- a line less f times the pivot line, column by column
abbrev pub line_reduced : Arithmetic → ℕ → ℕ → ℚ → List ℚ → List ℚ → Result (List ℚ) WideAt
line_reduced A pivot row f ps line = each (λ j x. told_at pivot row j (reduced A x f (number_at ps j))) 0 line

-- a line after the pivot line was divided: the pivot line stays, and another one has it taken away
abbrev pub other_reduced : Arithmetic → ℕ → ℕ → ℕ → List ℚ → ℕ → List ℚ → Result (List ℚ) WideAt
other_reduced A pivot l c ps i line = if i == l then Ok line else line_reduced A pivot i (number_at line c) ps line

-- The lines after a pivot: the pivot line is divided by its cell, and then taken from each other line in order as often as makes the
-- column 0 there.
abbrev pub lines_pivoted : Arithmetic → ℕ → ℕ → ℕ → List (List ℚ) → Result (List (List ℚ)) WideAt
lines_pivoted A pivot l c lines =
    and_then (divided A pivot l (number_at (slice_index_or lines l []) c) (slice_index_or lines l []))
    (λ ps. each (other_reduced A pivot l c ps) 0 (slice_set lines l ps))

-- The pivot on a line and a column, which becomes the basic one of the line.
abbrev pub pivoted : Arithmetic → ℕ → ℕ → ℕ → Tableau → Result Tableau WideAt
pivoted A pivot l c t = and_then (lines_pivoted A pivot l c t.lines) (λ lines. Ok (record t { lines = lines; basis = slice_set t.basis l c }))
