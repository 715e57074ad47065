-- Which answer on a term that is brought to other columns is given exactly, and where a fault stands: the costs at the nominal point, the problem
-- in the columns that go, and the sums that are formed before it is answered.
use Rattle.std.specs.Prelude.{ℕ, ℤ, pos, List, [], ◌∷◌, ◌++◌, length, take, drop, Bool, Result, Ok, if◌then◌else◌}
use Rattle.std.specs.List.{list_all}
use Rattle.std.specs.Ordering.{int_eq}
use Rattle.pa_math.specs.Answers.{and_then, told_as}
use Rattle.pa_frac.specs.declared.wide.Wide.{Wide}
use Rattle.pa_meaning.specs.Rows.{Row, Point}
use Rattle.pa_meaning.specs.Weights.{Weights}
use Rattle.pa_row.specs.declared.place.Task.{Task}
use Rattle.pa_row.specs.declared.place.Sub.TheVariants.{Main}
use Rattle.pa_row.specs.declared.place.Spot.TheVariants.{Load, Check}
use Rattle.pa_row.specs.declared.place.Halt.{Halt}
use Rattle.pa_row.specs.Sums.{dot_in, shifted_in, slack_in}
use Rattle.pa_bland.specs.declared.answer.Answer.{Answer}
use Rattle.pa_bland.specs.declared.answer.Answer.TheVariants.{Least, NoWeights, Endless}
use Rattle.pa_farkas.specs.Answered.{solved_for, wide_in}
use Rattle.pa_shift.specs.declared.shifting.Shifted.{Shifted}
use Rattle.pa_shift.specs.declared.shifting.Shifted.TheVariants.{Term, Ray}

-- rows that are given, and a nominal point: its columns stay, and those behind them go
pub record Premises : Type 0 where
  pub nominal : Point
  pub rows : List Row

-- the first list, with the second one from this place on
abbrev pub with_between : {A : Type 0} → ℕ → List A → List A → List A
with_between place others xs = take place xs ++ others ++ drop place xs

-- ---- the problem
-- what a row costs: its slack at the nominal point, over the columns that stay
abbrev pub cost_in : Point → Row → Result ℤ Wide
cost_in x row = slack_in x.q row.b row.c x.p

-- the row over the columns that go, with its cost as its bound
abbrev pub costed_row : Point → Row → Result Row Wide
costed_row x row = and_then (cost_in x row) (λ cost. Ok (record { c = drop (length x.p) row.c; b = cost }))

-- each of the rows so, in order
abbrev pub costed_in : Point → List Row → Result (List Row) Wide
costed_in x [] = Ok []
costed_in x (row ∷ rows) = and_then (costed_row x row) (λ first. and_then (costed_in x rows) (λ others. Ok (first ∷ others)))

-- what weights have to make of the rows: the term's numbers in the columns that go
abbrev pub target_of : Point → Row → List ℤ
target_of x t = drop (length x.p) t.c

abbrev pub are_zero : List ℤ → Bool
are_zero numbers = list_all (λ z. int_eq z (pos 0)) numbers

-- ---- the answer
-- no rows have weights
abbrev pub no_weights : Weights
no_weights = record { den = pos 1; parts = [] }

-- the term less the weighted rows, once its sums were formed
abbrev pub left_by : List Row → Row → Task → Weights → Result Shifted Halt
left_by rows t task w = told_as (wide_in task Main Check) (and_then (shifted_in t rows w) (λ row. Ok (Term row w)))

-- the sum of the direction with each row, in order, and then with the target
abbrev pub rise_in : List ℤ → List ℤ → List Row → Result ℤ Wide
rise_in d target [] = dot_in target d
rise_in d target (row ∷ rows) = and_then (dot_in row.c d) (λ sum. rise_in d target rows)

-- the direction, once these sums were formed
abbrev pub ray_by : List Row → List ℤ → Task → List ℤ → Result Shifted Halt
ray_by costed target task d = told_as (wide_in task Main Check) (and_then (rise_in d target costed) (λ rise. Ok (Ray d)))

-- by the end of the problem: the weights of the least cost, or those of the last tableau where the cost falls without end
abbrev pub by_answer : Premises → List Row → Row → Task → Answer → Result Shifted Halt
by_answer given costed t task (Least a) = left_by given.rows t task a.weights
by_answer given costed t task (Endless a) = left_by given.rows t task a.last
by_answer given costed t task (NoWeights d) = ray_by costed (target_of given.nominal t) task d

-- by the problem
abbrev pub by_problem : Premises → Row → ℕ → Task → List Row → Result Shifted Halt
by_problem given t most task costed = and_then (solved_for task Main costed (target_of given.nominal t) most) (by_answer given costed t task)

-- by the costs, of which none may be too wide
abbrev pub by_costs : Premises → Row → ℕ → Task → Result Shifted Halt
by_costs given t most task = and_then (told_as (wide_in task Main Load) (costed_in given.nominal given.rows)) (by_problem given t most task)

-- what is left of the term over these rows, or a direction that shows that no weights exist. Where the term has nothing in the columns that go,
-- no row is weighted and no cost is formed.
abbrev pub shifted_of : Premises → Row → ℕ → Task → Result Shifted Halt
shifted_of given t most task =
    if are_zero (target_of given.nominal t) then left_by given.rows t task no_weights
    else by_costs given t most task
