-- What is read at the end of a run: in exact fractions, and then in whole numbers of at most 126 bits over a common denominator.
use Rattle.std.specs.Prelude.{◌<◌, ◌≤◌, ◌<ℤ◌, ℕ, ◌+◌, ◌==◌, ℤ, pos, List, [], ◌∷◌, map, flat_map, Bool, if◌then◌else◌, Option, Result, Ok}
use Rattle.std.specs.List.{slice_index_or, range_with_len}
use Rattle.pa_math.specs.Answers.{and_then, given}
use Rattle.pa_math.specs.Rational.{ℚ, den, whole, ◌-ℚ◌, neg_ℚ}
use Rattle.pa_frac.specs.declared.wide.Wide.{Wide}
use Rattle.pa_frac.specs.Operations.{is_zero, difference_in}
use Rattle.pa_meaning.specs.Weights.{Weights}
use Rattle.pa_row.specs.Fractions.{WeightPart, weights_in, direction_in}
use Rattle.pa_tableau.specs.Arithmetic.{each}
use Rattle.pa_tableau.specs.Tableau.{Tableau, cell}
use Rattle.pa_replay.specs.Replay.{basic, first_from}

-- the sign of a line
abbrev pub signed : Tableau → ℕ → ℚ → ℚ
signed t i q = if slice_index_or t.turned i Bool.false then neg_ℚ q else q

-- the point of the least end: minus cost row 2 in the artificial columns, by the signs
abbrev pub point_read : ℕ → ℕ → Tableau → List ℚ
point_read n m t = map (λ i. neg_ℚ (signed t i (cell t (n + 1) (m + i)))) (range_with_len 0 n)

-- its value: minus the value column of cost row 2
abbrev pub value_read : ℕ → ℕ → Tableau → ℚ
value_read n m t = neg_ℚ (cell t (n + 1) (n + m))

-- the direction where no weights exist: 1 less cost row 1 in the artificial columns, by the signs
abbrev pub direction_read : ℕ → ℕ → Tableau → List ℚ
direction_read n m t = map (λ i. signed t i (whole (pos 1) -ℚ cell t n (m + i))) (range_with_len 0 n)

-- the two numbers of a fraction
abbrev pub numbers_in : ℚ → ℤ × ℤ
numbers_in q = (q.num, den q)

-- the weight of a row, which is left out where it is 0
abbrev pub weight_at : ℕ → ℚ → List WeightPart
weight_at j q = if is_zero q then [] else (j, q.num, den q) ∷ []

-- the line in which a column is basic
abbrev pub line_of : ℕ → Tableau → ℕ → Option ℕ
line_of n t j = first_from (λ k. basic t k == j) 0 n

-- the last weight of a row: the value of the line in which its column is basic
abbrev pub last_at : ℕ → ℕ → Tableau → ℕ → List WeightPart
last_at n m t j = given [] (line_of n t j) (λ k. weight_at j (cell t k (n + m)))

-- the last weights, by place
abbrev pub weights_read : ℕ → ℕ → Tableau → List WeightPart
weights_read n m t = flat_map (last_at n m t) (range_with_len 0 m)

-- what the ray of an endless column has at a place: 1 at the column, and minus the column's cell where a column is basic
abbrev pub ray_at : ℕ → ℕ → Tableau → ℕ → List WeightPart
ray_at n c t j = if j == c then weight_at j (whole (pos 1)) else given [] (line_of n t j) (λ k. weight_at j (neg_ℚ (cell t k c)))

-- the ray, by place
abbrev pub ray_read : ℕ → ℕ → ℕ → Tableau → List WeightPart
ray_read n m c t = flat_map (ray_at n c t) (range_with_len 0 m)

-- positive weights at ascending places from a on and below z
abbrev pub IsAscending : ℕ → ℕ → List WeightPart → Type 0
IsAscending a z [] = Unit {0}
IsAscending a z (part ∷ parts) = (a ≤ part.0) × (part.0 < z) × (pos 0 <ℤ part.1) × IsAscending (part.0 + 1) z parts

-- ---- what is answered. `Wide` comes exactly where a number that is formed passes 126 bits.
-- at the least end: the weights, the point and its value
pub record LeastRead : Type 0 where
  pub weights : Weights
  pub point : List (ℤ × ℤ)
  pub value : ℤ × ℤ

abbrev pub least_answer : ℕ → ℕ → Tableau → Result LeastRead Wide
least_answer n m t =
    and_then (weights_in (weights_read n m t))
    (λ weights. Ok (record { weights = weights; point = map numbers_in (point_read n m t); value = numbers_in (value_read n m t) }))

-- where no weights exist: each difference from 1 in the order of the lines, by its sign, and then the direction in whole numbers
abbrev pub difference_at : ℕ → ℕ → Tableau → ℕ → Result (ℤ × ℤ) Wide
difference_at n m t k = and_then (difference_in 126 (whole (pos 1)) (cell t n (m + k))) (λ d. Ok (numbers_in (signed t k d)))

abbrev pub differences_read : ℕ → ℕ → Tableau → Result (List (ℤ × ℤ)) Wide
differences_read n m t = each (λ i k. difference_at n m t k) 0 (range_with_len 0 n)

abbrev pub direction_answer : ℕ → ℕ → Tableau → Result (List ℤ) Wide
direction_answer n m t = and_then (differences_read n m t) direction_in

-- at an endless column: the ray, and then the last weights
pub record EndlessRead : Type 0 where
  pub ray : Weights
  pub last : Weights

abbrev pub endless_answer : ℕ → ℕ → ℕ → Tableau → Result EndlessRead Wide
endless_answer n m c t =
    and_then (weights_in (ray_read n m c t)) (λ ray. and_then (weights_in (weights_read n m t)) (λ last. Ok (record { ray = ray; last = last })))
