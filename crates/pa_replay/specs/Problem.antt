-- The problem of least cost, and the tableau that it is loaded into.
use Rattle.std.specs.Prelude.{◌≡◌, ◌≤◌, All, ℕ, ◌+◌, ℤ, pos, neg_ℤ, int_lt, List, [], ◌∷◌, ◌++◌, length}
use Rattle.std.specs.Prelude.{map, replicate, Bool, Result, Ok, if◌then◌else◌, ◌==◌, nat_lt}
use Rattle.std.specs.List.{range_with_len}
use Rattle.pa_ring.specs.Sums.{number_at}
use Rattle.pa_math.specs.Answers.{and_then}
use Rattle.pa_math.specs.Rational.{ℚ, whole, neg_ℚ}
use Rattle.pa_frac.specs.Width.{Fits}
use Rattle.pa_meaning.specs.Rows.{Row}
use Rattle.pa_tableau.specs.declared.wide_at.WideAt.{WideAt}
use Rattle.pa_tableau.specs.Arithmetic.{Arithmetic, each}
use Rattle.pa_tableau.specs.Tableau.{Tableau, told_at}
use Rattle.pa_tableau.specs.Tableau as tableau

-- which weights, none negative, combine the rows to the target's coefficients at the least sum of weighted bounds
pub record Problem : Type 0 where
  pub rows : List Row
  pub target : List ℤ

-- at most 4,096 rows of at most 128 numbers each, of which the target has as many, and its numbers have at most 126 bits
pub record IsPosed (p : Problem) : Type 0 where
  pub few : length p.rows ≤ 4096
  pub short : length p.target ≤ 128
  pub columns : All (λ (row : Row). length row.c ≡ length p.target) p.rows
  pub narrow : All (Fits 126) p.target

-- a line whose target is negative is turned, so that its value is not
abbrev pub is_turned : List ℤ → ℕ → Bool
is_turned target i = int_lt (number_at target i) (pos 0)

abbrev pub turned_number : List ℤ → ℕ → ℤ → ℤ
turned_number target i z = if is_turned target i then neg_ℤ z else z

-- the numbers of a line: the rows' numbers in this column
abbrev pub line_numbers : Problem → ℕ → List ℤ
line_numbers p i = map (λ row. turned_number p.target i (number_at row.c i)) p.rows

-- the bounds of the rows
abbrev pub bounds : Problem → List ℤ
bounds p = map (λ (row : Row). row.b) p.rows

-- the whole numbers that a line begins with; behind the lines of the columns and cost row 1 comes the one of the bounds
abbrev pub numbers_of : Problem → ℕ → List ℤ
numbers_of p i = if nat_lt i (length p.target) then line_numbers p i else bounds p

-- whole numbers as the first fractions of a line
abbrev pub loaded_numbers : Arithmetic → ℕ → List ℤ → Result (List ℚ) WideAt
loaded_numbers A row numbers = each (λ j z. told_at 0 row j (A.fraction (whole z))) 0 numbers

-- the i-th one of n artificial columns has 1
abbrev pub unit_numbers : ℕ → ℕ → List ℚ
unit_numbers n i = map (λ k. if k == i then whole (pos 1) else whole (pos 0)) (range_with_len 0 n)

-- a line: the rows' numbers, the artificial columns, and the target's number
abbrev pub loaded_line : Arithmetic → Problem → ℕ → Result (List ℚ) WideAt
loaded_line A p i =
    and_then (loaded_numbers A i (line_numbers p i)) (λ own.
    and_then (told_at 0 i (length p.target + length p.rows) (A.fraction (whole (turned_number p.target i (number_at p.target i))))) (λ value.
    Ok (own ++ unit_numbers (length p.target) i ++ value ∷ [])))

-- the running sum of a column, from the first line to the last
abbrev pub running_sum : Arithmetic → ℕ → ℕ → ℚ → List (List ℚ) → Result ℚ WideAt
running_sum A row column sum [] = Ok sum
running_sum A row column sum (line ∷ lines) =
    and_then (told_at 0 row column (A.sum sum (tableau.number_at line column))) (λ next. running_sum A row column next lines)

-- cost row 1 in one column: minus the sum of the lines
abbrev pub cost_in : Arithmetic → ℕ → List (List ℚ) → ℕ → Result ℚ WideAt
cost_in A n lines j = and_then (running_sum A n j (whole (pos 0)) lines) (λ sum. Ok (neg_ℚ sum))

-- cost row 1, which has 0 in the artificial columns
abbrev pub first_costs : Arithmetic → ℕ → ℕ → List (List ℚ) → Result (List ℚ) WideAt
first_costs A n m lines =
    and_then (each (λ i j. cost_in A n lines j) 0 (range_with_len 0 m)) (λ own.
    and_then (cost_in A n lines (n + m)) (λ value.
    Ok (own ++ replicate n (whole (pos 0)) ++ value ∷ [])))

-- The tableau of the problem: a line for each column of the rows, then cost row 1 and cost row 2. The artificial columns are basic.
abbrev pub loaded : Arithmetic → Problem → Result Tableau WideAt
loaded A p =
    let n : ℕ = length p.target in
    let m : ℕ = length p.rows in
    and_then (each (λ i row. loaded_line A p i) 0 (range_with_len 0 n)) (λ lines.
    and_then (loaded_numbers A (n + 1) (bounds p)) (λ costs.
    and_then (first_costs A n m lines) (λ first. Ok (record {
      lines = lines ++ first ∷ (costs ++ replicate (n + 1) (whole (pos 0))) ∷ [];
      basis = range_with_len m n;
      turned = map (is_turned p.target) (range_with_len 0 n);
    }))))
