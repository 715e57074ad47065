-- Which bound is given exactly, and where a fault stands.
use Rattle.std.specs.Prelude.{ℕ, List, length, map, ℤ, neg_ℤ, nat_lt, Bool, true, false, Result, Ok, Err, if◌then◌else◌}
use Rattle.pa_math.specs.Answers.{and_then, given, told_as}
use Rattle.pa_math.specs.Rational.{ℚ, over, whole, neg_ℚ}
use Rattle.pa_frac.specs.declared.wide.Wide.{Wide}
use Rattle.pa_frac.specs.Operations.{sum_in, quotient_in}
use Rattle.pa_meaning.specs.Rows.{Row, Point}
use Rattle.pa_meaning.specs.Weights.{Weights, impossible}
use Rattle.pa_meaning.specs.Contracts.{Contract, ports}
use Rattle.pa_meaning.specs.Bounds.{Goal}
use Rattle.pa_row.specs.declared.place.Task.TheVariants as task
use Rattle.pa_row.specs.declared.place.Sub.TheVariants.{Main, Base}
use Rattle.pa_row.specs.declared.place.Spot.TheVariants.{Read, Check}
use Rattle.pa_row.specs.declared.place.Halt.{Halt}
use Rattle.pa_row.specs.declared.place.Halt.TheVariants as halt
use Rattle.pa_row.specs.Fractions.{point_in}
use Rattle.pa_replay.specs.Readings.{LeastRead, numbers_in}
use Rattle.pa_bland.specs.declared.answer.Answer.{Answer}
use Rattle.pa_bland.specs.declared.answer.Answer.TheVariants.{Least, NoWeights, Endless}
use Rattle.pa_contract.specs.Merge.{row_count, most_rows}
use Rattle.pa_holds.specs.Bounded.{all_rows, goal_row}
use Rattle.pa_holds.specs.Refusals.{first_missing}
use Rattle.pa_check.specs.Proofs.{proof_in}
use Rattle.pa_check.specs.Points.{all_met_in}
use Rattle.pa_check.specs.Goals.{weights_in, point_in as value_at_point}
use Rattle.pa_check.specs.Directions.{improves_in}
use Rattle.pa_farkas.specs.declared.base.Feasibility.{Feasibility}
use Rattle.pa_farkas.specs.declared.base.Feasibility.TheVariants as feasible
use Rattle.pa_farkas.specs.Answered.{feasible_of, solved_for, wide_in}
use Rattle.pa_refine.specs.declared.answer.Bounded.{Bounded}
use Rattle.pa_refine.specs.declared.answer.Bounded.TheVariants.{Value, Unbounded, Nothing}
use Rattle.pa_refine.specs.declared.fault.BoundFault.{BoundFault}
use Rattle.pa_refine.specs.declared.fault.BoundFault.TheVariants as fault

-- a goal over the columns of rows, with its constant and its denominator, and whether its least value is sought, else its greatest
pub record Asked : Type 0 where
  pub rows : List Row
  pub goals : List ℤ
  pub b : ℤ
  pub q : ℤ
  pub least : Bool

-- a goal over a contract's ports, with the assumptions and then the guarantees
abbrev pub asked_of : Contract → Goal → Bool → Asked
asked_of c goal least = record { rows = all_rows c; goals = goal_row c goal; b = goal.b; q = goal.q; least = least }

-- what weights have to make of the rows: the goal's coefficients, or their negatives where the least value is sought
abbrev pub target_of : Bool → List ℤ → List ℤ
target_of true goals = map neg_ℤ goals
target_of false goals = goals

-- ---- the value
abbrev pub turned_value : Bool → ℚ → ℚ
turned_value true v = neg_ℚ v
turned_value false v = v

abbrev pub over_denominator : ℚ → ℤ → Result ℚ Wide
over_denominator sum q = quotient_in 126 sum (whole q)

-- the least value of the target's problem, or its negative where the least value of the goal is sought; with the constant, over the denominator
abbrev pub value_of : Bool → ℤ → ℤ → LeastRead → Result ℚ Wide
value_of least b q a = and_then (sum_in 126 (turned_value least (over a.value.0 a.value.1)) (whole b)) (λ sum. over_denominator sum q)

-- its two numbers
abbrev pub value_numbers : Asked → LeastRead → Result (ℤ × ℤ) Wide
value_numbers asked a = and_then (value_of asked.least asked.b asked.q a) (λ value. Ok (numbers_in value))

-- the value's two numbers, and then the point
abbrev pub value_read : Asked → LeastRead → Result ((ℤ × ℤ) × Point) Wide
value_read asked a = and_then (value_numbers asked a) (λ value. and_then (point_in a.point) (λ x. Ok (value, x)))

-- the sums that test the weights, then the point on each row, then the value at the point
abbrev pub value_tested : Asked → ℤ → ℤ → Weights → Point → Result Bool Wide
value_tested asked num den w x =
    and_then (weights_in asked.rows asked.goals asked.b asked.q asked.least num den w) (λ bounded.
    and_then (all_met_in x asked.rows) (λ met. value_at_point asked.goals asked.b asked.q num den x))

abbrev pub value_checked : Asked → ℤ → ℤ → Weights → Point → Result Bounded Halt
value_checked asked num den w x = and_then (told_as (wide_in task.Goal Main Check) (value_tested asked num den w x)) (λ shown. Ok (Value num den w x))

abbrev pub by_least : Asked → LeastRead → Result Bounded Halt
by_least asked a =
    and_then (told_as (wide_in task.Goal Main Read) (value_read asked a)) (λ read. value_checked asked read.0.0 read.0.1 a.weights read.1)

-- ---- no behaviour, or no best value
abbrev pub nothing_checked : Asked → Weights → Result Bounded Halt
nothing_checked asked w =
    and_then (told_as (wide_in task.Goal Main Check) (proof_in asked.rows (impossible (length asked.goals)) w)) (λ shown. Ok (Nothing w))

abbrev pub unbounded_checked : Asked → Point → List ℤ → Result Bounded Halt
unbounded_checked asked x d =
    and_then (told_as (wide_in task.Goal Base Check) (improves_in asked.least d asked.rows asked.goals)) (λ shown. Ok (Unbounded x d))

abbrev pub by_feasibility : Asked → List ℤ → Feasibility → Result Bounded Halt
by_feasibility asked d (feasible.Point x) = unbounded_checked asked x d
by_feasibility asked d (feasible.Empty w) = Ok (Nothing w)

-- where no weights make the target: whether a point meets the rows
abbrev pub by_base : Asked → ℕ → List ℤ → Result Bounded Halt
by_base asked most d = and_then (feasible_of (length asked.goals) asked.rows most task.Goal) (by_feasibility asked d)

-- ---- a bound
abbrev pub by_answer : Asked → ℕ → Answer → Result Bounded Halt
by_answer asked most (Least a) = by_least asked a
by_answer asked most (Endless a) = nothing_checked asked a.ray
by_answer asked most (NoWeights d) = by_base asked most d

abbrev pub best_of : Asked → ℕ → Result Bounded Halt
best_of asked most = and_then (solved_for task.Goal Main asked.rows (target_of asked.least asked.goals) most) (by_answer asked most)

abbrev pub bound_fault : Halt → BoundFault
bound_fault halt.Memory = fault.Memory
bound_fault (halt.PivotLimit place) = fault.PivotLimit place
bound_fault (halt.Wide place) = fault.Wide place

abbrev pub bounded_rows : Contract → Goal → Bool → ℕ → Result Bounded BoundFault
bounded_rows c goal least most = told_as bound_fault (best_of (asked_of c goal least) most)

-- the answer, or the first refusal: a name of the goal that is no port, more rows than an operation takes
abbrev pub bounded_of : Contract → Goal → Bool → ℕ → Result Bounded BoundFault
bounded_of c goal least most = given
    (if nat_lt most_rows (row_count c) then Err (fault.Load (row_count c)) else bounded_rows c goal least most)
    (first_missing (ports c) goal.names) (λ name. Err (fault.UnknownPort name))
