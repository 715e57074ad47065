-- Printed numbers, names and refusals at the edges of their ranges. Of an answer that names a limit no law says more than
-- these ranges.
use Rattle.std.proofs.Common.{◌≡◌, ◌≢◌, refl, sym, ap, ℕ, ◌<◌, true≢false, List, [], ◌∷◌, length, replicate, Some, None, arith}
use Rattle.std.proofs.lemmas.Int.{ints}
use Rattle.std.proofs.lemmas.List.Elements.{All-head}
use lib.IntN.{ℤ, pos}
use Rattle.pa_row.specs.declared.place.Group.TheVariants.{Thin, Step}
use Rattle.pa_row.specs.declared.place.Task.{Task}
use Rattle.pa_row.specs.declared.place.Task.TheVariants.{Sum, Cover, Goal, Shift, Whole, Clean, Filter, Pairs}
use Rattle.pa_row.specs.declared.place.Spot.{Spot}
use Rattle.pa_row.specs.declared.place.Spot.TheVariants.{Load, Pivot, Check}
use Rattle.pa_row.specs.declared.place.Sub.{Sub}
use Rattle.pa_row.specs.declared.place.Sub.TheVariants.{Main, Base}
use Rattle.pa_row.specs.declared.place.Place.{Place}
use Rattle.pa_meaning.specs.Rows.{Point}
use Rattle.pa_meaning.specs.Contracts.{Name, Contract}
use Rattle.pa_script.specs.declared.op.Op.TheVariants.{Merge}
use Rattle.pa_cert.specs.Lists.{Heading}
use Rattle.pa_cert.specs.Tables.{Limits}
use Rattle.pa_cert.specs.declared.answer.Answer.TheVariants.{PivotLimit, TooWide}
use Rattle.pa_cert.specs.declared.refusal.NameRefusal.TheVariants.{UnknownPort, PortClash, NotOutput, PortsDiffer, Variables, Rows}
use Rattle.pa_holds.specs.Questions.{Question, Merging, Testing, Refining, Hiding, Composing, Dividing}
use Rattle.pa_holds.specs.Limits.{LimitFits, TaskFits, PivotsFit, PlaceFits}
use Rattle.pa_holds.specs.Refusals.{too_many_rows, too_many_names, due_merge, due_test, due_refine, due_bound, due_hide, due_compose, due_quotient}
use Rattle.pa_holds.specs.Answers.{IsAlong, GivesEach, IsTrue}
use Rattle.pa_holds.specs.Tables.{unknown}
use Rattle.pa_holds.proofs.Examples.{row, contract, a, b, i, o, p, u, w, y, chain, two_of}
use Rattle.pa_holds.proofs.PartExamples.{x, z, ten, double, square}
use Rattle.pa_holds.proofs.Misprints.{of_first}

-- 2 rows of a step, and 4 pivots of a problem
abbrev limits : Limits
limits = record { rows = 2; pivots = 4 }

-- ---- a step that makes too many rows
-- one name goes, and its step makes 3 rows
three_are_too_many : LimitFits 2 (x ∷ []) 1 3
three_are_too_many = record { first = omega arith; last = omega arith; above = omega arith }

two_are_not : ¬ LimitFits 2 (x ∷ []) 1 2
two_are_not h = let above = h.above in absurd (omega (arith, above))

not_the_given_rows : (count : ℕ) → ¬ LimitFits 2 (x ∷ []) 0 count
not_the_given_rows count h = let first = h.first in absurd (omega (arith, first))

not_a_second_step : (count : ℕ) → ¬ LimitFits 2 (x ∷ []) 2 count
not_a_second_step count h = let last = h.last in absurd (omega (arith, last))

-- ---- tasks of a refinement
-- `x <= 1` and `y <= 1` give `x + y <= 2`, which is the only row to be covered
abbrev sums : Question
sums = Refining (contract [] (x ∷ y ∷ []) [] (row (pos 1 ∷ pos 0 ∷ []) (pos 1) ∷ row (pos 0 ∷ pos 1 ∷ []) (pos 1) ∷ []))
    (contract [] (x ∷ y ∷ []) [] (row (pos 1 ∷ pos 1 ∷ []) (pos 2) ∷ []))

abbrev place : Task → Sub → Spot → Place
place task sub spot = record { task = task; sub = sub; spot = spot }

cover_fits : PivotsFit limits sums (Cover 0) Main
cover_fits = record { task_fits = omega arith; solves = tt; problem = tt }

its_base_fits : PivotsFit limits sums (Cover 0) Base
its_base_fits = record { task_fits = omega arith; solves = tt; problem = tt }

no_second_row : (part : Sub) → ¬ PivotsFit limits sums (Cover 1) part
no_second_row part h = let less = h.task_fits in absurd (omega (arith, less))

no_goal : (part : Sub) → ¬ PivotsFit limits sums Goal part
no_goal part h = h.task_fits

-- the fourth pivot is within the limit, in whichever line and column
fourth_pivot_fits : PlaceFits limits sums (place (Cover 0) Main (Pivot 4 900 900))
fourth_pivot_fits = record { task = omega arith; problem = tt; spot = tt; pivot = omega arith }

no_fifth_pivot : (line column : ℕ) → ¬ PlaceFits limits sums (place (Cover 0) Main (Pivot 5 line column))
no_fifth_pivot line column h = let within = h.pivot in absurd (omega (arith, within))

no_costs : (part : Sub) → ¬ PlaceFits limits sums (place (Cover 0) part Load)
no_costs part h = h.spot

-- ---- questions that have no such place
-- of a merge no number is too wide, and it has no pivots
no_wide_merge : (c other : Contract) (at : Place) → ¬ IsTrue (Merging c other) (TooWide at)
no_wide_merge c other at h = h.1.task

no_pivots_of_a_merge : (c other : Contract) (task : Task) (part : Sub) → ¬ IsTrue (Merging c other) (PivotLimit task part)
no_pivots_of_a_merge c other task part h = h.1.task_fits

-- the test of a contract of one row has no second row
no_wide_second_row : (names : List Name) (at : Point)
    → ¬ IsTrue (Testing (contract [] (x ∷ []) [] (row (pos 1 ∷ []) (pos 1) ∷ [])) names at) (TooWide (place (Sum 1) Main Check))
no_wide_second_row names at h = let less = h.1.task in absurd (omega (arith, less))

-- ---- tasks of a composition and of a quotient
-- the second part of the chain has two assumptions
shift_fits : PlaceFits limits (Composing chain []) (place (Shift 1 1 1) Main Load)
shift_fits = record { task = (omega arith, record { part_fits = omega arith; row_fits = omega arith }); problem = tt; spot = tt; pivot = tt }

no_third_round : ¬ TaskFits limits (Composing chain []) (Shift 2 1 1)
no_third_round h = let less = h.0 in absurd (omega (arith, less))

no_third_part : ¬ TaskFits limits (Composing chain []) (Whole 2 0)
no_third_part h = let less = h.part_fits in absurd (omega (arith, less))

no_third_assumption : ¬ TaskFits limits (Composing chain []) (Whole 1 2)
no_third_assumption h = let less = h.row_fits in absurd (omega (arith, less))

no_base_of_a_shift : ¬ PivotsFit limits (Composing chain []) (Shift 1 1 1) Base
no_base_of_a_shift h = h.problem

-- the chain has four assumptions together
fourth_assumption_fits : TaskFits limits (Composing chain []) (Filter Thin 3)
fourth_assumption_fits = omega arith

no_fifth_assumption : ¬ TaskFits limits (Composing chain []) (Filter Thin 4)
no_fifth_assumption h = let less : 4 < 4 = h in absurd (omega (arith, less))

-- a quotient knows no rounds, and thins what the divisor assumes and the dividend guarantees
no_round_of_a_quotient : ¬ TaskFits limits (Dividing ten double) (Shift 1 0 0)
no_round_of_a_quotient h = let none = h.0 in absurd (omega (arith, none))

one_row_is_asked : TaskFits limits (Dividing ten double) (Clean Thin 0)
one_row_is_asked = omega arith

no_second_row_is_asked : ¬ TaskFits limits (Dividing ten double) (Clean Thin 1)
no_second_row_is_asked h = let less : 1 < 1 = h in absurd (omega (arith, less))

-- ---- tasks of hidden outputs, a test and a merge
-- three guarantees are given, and one name goes
third_guarantee_fits : TaskFits limits (Hiding square (z ∷ [])) (Clean (Step 0) 2)
third_guarantee_fits = omega arith

no_fourth_guarantee : ¬ TaskFits limits (Hiding square (z ∷ [])) (Clean (Step 0) 3)
no_fourth_guarantee h = let less : 3 < 3 = h in absurd (omega (arith, less))

second_pair_fits : TaskFits limits (Hiding square (z ∷ [])) (Pairs 1 1)
second_pair_fits = (omega arith, omega arith)

no_pair_past_the_limit : ¬ TaskFits limits (Hiding square (z ∷ [])) (Pairs 1 2)
no_pair_past_the_limit h = let less = h.1 in absurd (omega (arith, less))

no_pair_of_given_rows : ¬ TaskFits limits (Hiding square (z ∷ [])) (Pairs 0 0)
no_pair_of_given_rows h = h

no_pair_of_a_second_step : ¬ TaskFits limits (Hiding square (z ∷ [])) (Pairs 2 0)
no_pair_of_a_second_step h = let less = h.0 in absurd (omega (arith, less))

-- the rows of a test are numbered through, and a merge has no task
last_guarantee_fits : (names : List Name) (at : Point) → TaskFits limits (Testing ten names at) (Sum 1)
last_guarantee_fits names at = omega arith

no_row_behind : (names : List Name) (at : Point) → ¬ TaskFits limits (Testing ten names at) (Sum 2)
no_row_behind names at h = let less : 2 < 2 = h in absurd (omega (arith, less))

no_task_of_a_merge : ¬ TaskFits limits (Merging ten double) (Sum 0)
no_task_of_a_merge h = h

-- ---- refusals by names and numbers
rows_that_may_be : too_many_rows 4096 ≡ None
rows_that_may_be = refl

rows_that_may_not : too_many_rows 4097 ≡ Some (Rows 4097)
rows_that_may_not = refl

names_that_may_be : too_many_names (replicate 128 x) ≡ None
names_that_may_be = refl

names_that_may_not : too_many_names (replicate 129 x) ≡ Some (Variables 129)
names_that_may_not = refl

-- an input of the left contract comes before its outputs
input_clashes : due_merge (contract (x ∷ []) (y ∷ []) [] []) (contract (y ∷ []) (x ∷ []) [] []) ≡ Some (PortClash x)
input_clashes = refl

-- the order of ports is free, and the ports are not
order_is_free : due_refine (contract (x ∷ u ∷ []) (y ∷ []) [] []) (contract (u ∷ x ∷ []) (y ∷ []) [] []) ≡ None
order_is_free = refl

ports_differ : due_refine (contract (x ∷ []) (y ∷ []) [] []) (contract [] (y ∷ []) [] []) ≡ Some PortsDiffer
ports_differ = refl

more_ports_differ : due_refine (contract [] (y ∷ []) [] []) (contract (x ∷ []) (y ∷ []) [] []) ≡ Some PortsDiffer
more_ports_differ = refl

-- the first name that is none
first_of_point : due_test ten (y ∷ u ∷ x ∷ []) ≡ Some (UnknownPort u)
first_of_point = refl

first_of_goal : due_bound ten (y ∷ u ∷ x ∷ []) ≡ Some (UnknownPort u)
first_of_goal = refl

-- an input can't be hidden
input_stays : due_hide (contract (i ∷ []) (x ∷ y ∷ []) [] []) (x ∷ i ∷ []) ≡ Some (NotOutput i)
input_stays = refl

-- two parts that make one output come before a name that is kept and is no output
clash_comes_first : due_compose (contract [] (p ∷ o ∷ []) [] [] ∷ contract [] (o ∷ p ∷ []) [] [] ∷ []) (i ∷ []) ≡ Some (PortClash o)
clash_comes_first = refl

kept_is_no_output : due_compose chain (o ∷ i ∷ []) ≡ Some (NotOutput i)
kept_is_no_output = refl

-- the divisor makes what the dividend takes
divisor_clashes : due_quotient (contract (w ∷ []) (y ∷ []) [] []) (contract [] (y ∷ w ∷ []) [] []) ≡ Some (PortClash w)
divisor_clashes = refl

-- of two contracts that are not there the left one is named
left_is_unknown : unknown [] (Merge u a b) ≡ Some a
left_is_unknown = refl

-- ---- directions
-- over b and a
abbrev heading : List Name → List ℤ → Heading
heading names numbers = record { names = names; numbers = numbers }

along_both : IsAlong (b ∷ a ∷ []) (heading (b ∷ a ∷ []) (pos 1 ∷ pos 1 ∷ []))
along_both = record {
  names = refl;
  numbers = refl;
  nonzero = two_of (λ n. n ≢ pos 0) (pos 1) (pos 1) (λ e. absurd (omega (arith, ints, e))) (λ e. absurd (omega (arith, ints, e)));
}

no_zero_is_named : (columns : List Name) (n : Name) → ¬ IsAlong columns (heading (n ∷ []) (pos 0 ∷ []))
no_zero_is_named columns n h = All-head (λ n. n ≢ pos 0) (pos 0) [] h.nonzero refl

columns_in_order : (numbers : List ℤ) → ¬ IsAlong (b ∷ a ∷ []) (heading (a ∷ b ∷ []) numbers)
columns_in_order numbers h = let byte : 97 ≡ 98 = ap of_first h.names in absurd (omega (arith, byte))

no_other_column : (numbers : List ℤ) → ¬ IsAlong (b ∷ a ∷ []) (heading (x ∷ []) numbers)
no_other_column numbers h = let one : 1 ≡ 0 = ap length h.names in absurd (omega (arith, one))

no_column_twice : (numbers : List ℤ) → ¬ IsAlong (b ∷ a ∷ []) (heading (b ∷ b ∷ []) numbers)
no_column_twice numbers h = let two : 2 ≡ 1 = ap length h.names in absurd (omega (arith, two))

each_column_has_a_number : ¬ IsAlong (b ∷ a ∷ []) (heading (b ∷ a ∷ []) (pos 1 ∷ []))
each_column_has_a_number h = let one = h.numbers in absurd (omega (arith, one))

-- ---- points
-- a point that leaves out a port shows nothing of a contract from x to y
each_port_is_there : (at : Point) → ¬ GivesEach (contract (x ∷ []) (y ∷ []) [] []) (record { names = x ∷ []; at = at })
each_port_is_there at h = true≢false (sym (h.ports y))
