-- The steps by which a problem is loaded, with names of their own.
use Rattle.std.proofs.Common.{ℕ, ◌+◌, List, [], ◌∷◌, ◌++◌, length, map, replicate, Result, Ok, pos}
use Rattle.std.specs.List.{range_with_len}
use Rattle.pa_math.specs.Answers.{and_then}
use Rattle.pa_math.specs.Rational.{ℚ, whole}
use Rattle.pa_tableau.specs.declared.wide_at.WideAt.{WideAt}
use Rattle.pa_tableau.specs.Arithmetic.{Arithmetic}
use Rattle.pa_tableau.specs.Tableau.{Tableau}
use Rattle.pa_replay.specs.Problem.{Problem, bounds, cost_in, first_costs, is_turned, loaded_line, loaded_numbers}

-- the step of a line
abbrev pub line_step : Arithmetic → Problem → ℕ → ℕ → Result (List ℚ) WideAt
line_step A p i row = loaded_line A p i

-- the step of a column of cost row 1
abbrev pub cost_step : Arithmetic → ℕ → List (List ℚ) → ℕ → ℕ → Result ℚ WideAt
cost_step A n lines i j = cost_in A n lines j

-- what comes after the lines, and after cost row 2
abbrev pub tableau_of : Problem → List (List ℚ) → List ℚ → List ℚ → Tableau
tableau_of p lines costs first = record {
  lines = lines ++ first ∷ (costs ++ replicate (length p.target + 1) (whole (pos 0))) ∷ [];
  basis = range_with_len (length p.rows) (length p.target);
  turned = map (is_turned p.target) (range_with_len 0 (length p.target));
}

abbrev pub after_costs : Arithmetic → Problem → List (List ℚ) → Result (List ℚ) WideAt → Result Tableau WideAt
after_costs A p lines costs = and_then costs (λ costs. and_then (first_costs A (length p.target) (length p.rows) lines)
    (λ first. Ok (tableau_of p lines costs first)))

abbrev pub after_lines : Arithmetic → Problem → Result (List (List ℚ)) WideAt → Result Tableau WideAt
after_lines A p lines = and_then lines (λ lines. after_costs A p lines (loaded_numbers A (length p.target + 1) (bounds p)))
