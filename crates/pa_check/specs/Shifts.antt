-- The tests of shifts, and the rows that they leave.
use Rattle.std.specs.Prelude.{◌≡◌, ℕ, List, [], ◌∷◌, ◌++◌, length, drop, pos, ℤ, Bool, Option, Some, None, Result, Ok, if◌then◌else◌}
use Rattle.std.specs.List.{list_all}
use Rattle.std.specs.Ordering.{int_eq}
use Rattle.pa_math.specs.Answers.{and_then, given}
use Rattle.pa_frac.specs.declared.wide.Wide.{Wide}
use Rattle.pa_meaning.specs.Rows.{Row, front_row}
use Rattle.pa_meaning.specs.Weights.{Weights}
use Rattle.pa_witness.specs.Shifts.{ShiftsHold, shifted_rows}
use Rattle.pa_row.specs.Sums.{shifted_in}
use Rattle.pa_check.specs.Proofs.{are_below}

-- whether the row has 0 in each column behind the first n
abbrev pub is_gone : ℕ → Row → Bool
is_gone n row = list_all (λ z. int_eq z (pos 0)) (drop n row.c)

-- the row over its first n columns, where it has 0 behind them
abbrev pub left_over : ℕ → Row → Option Row
left_over n row = if is_gone n row then Some (front_row n row) else None

-- what the weights leave of the term over the first n columns, where their places are in range and nothing is left behind
abbrev pub shift_in : ℕ → List Row → Row → Weights → Result (Option Row) Wide
shift_in n rows t w = if are_below (length rows) w.parts then and_then (shifted_in t rows w) (λ row. Ok (left_over n row)) else Ok None

-- these rows, and then what the weights leave of each term, where there are weights for each, and no more
abbrev pub shifts_from : List Row → ℕ → List Row → List Row → List Weights → Result (Option (List Row)) Wide
shifts_from made n rows [] [] = Ok (Some made)
shifts_from made n rows [] (w ∷ ws) = Ok None
shifts_from made n rows (t ∷ ts) [] = Ok None
shifts_from made n rows (t ∷ ts) (w ∷ ws) = and_then (shift_in n rows t w) (λ left. given (Ok None) left (λ row. shifts_from (made ++ row ∷ []) n rows ts ws))

abbrev pub shifts_in : ℕ → List Row → List Row → List Weights → Result (Option (List Row)) Wide
shifts_in n rows ts ws = shifts_from [] n rows ts ws

-- the shifts hold and these rows are left, or they do not hold
abbrev pub IsShifted : ℕ → List Row → List Row → List Weights → Option (List Row) → Type 0
IsShifted n rows ts ws (Some left) = ShiftsHold n rows ts ws × (left ≡ shifted_rows n rows ts ws)
IsShifted n rows ts ws None = ¬ ShiftsHold n rows ts ws
