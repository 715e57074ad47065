-- Which answer is given exactly, and where a fault stands: the problems that are solved, what is read at their ends, and the sums by which each
-- certificate is checked before it is answered.
use Rattle.std.specs.Prelude.{ℕ, zero, suc, ℤ, pos, ◌+ℤ◌, ◌-ℤ◌, ◌*ℤ◌, int_lt, List, [], ◌∷◌, ◌++◌, length, map, replicate, get_or}
use Rattle.std.specs.Prelude.{Bool, true, false, if◌then◌else◌, Option, None, Some, Result, Ok, Err}
use Rattle.std.specs.Int.RustNames.{int_div}
use Rattle.std.specs.declared.cmp.Ordering.{Ordering}
use Rattle.std.specs.declared.cmp.Ordering.TheVariants.{Less, Equal, Greater}
use Rattle.pa_math.specs.Answers.{and_then, given, told_as}
use Rattle.pa_math.specs.Rational.{over, whole}
use Rattle.pa_frac.specs.declared.wide.Wide.{Wide}
use Rattle.pa_frac.specs.Operations.{comparison_in}
use Rattle.pa_frac.specs.Width.{within}
use Rattle.pa_meaning.specs.Rows.{Row, Point, row_at}
use Rattle.pa_meaning.specs.Weights.{Weights, impossible}
use Rattle.pa_witness.specs.Thinning.{Dropped, is_place_of, places_of, without_places}
use Rattle.pa_row.specs.declared.place.Task.{Task}
use Rattle.pa_row.specs.declared.place.Task.TheVariants.{Clean, Filter}
use Rattle.pa_row.specs.declared.place.Group.{Group}
use Rattle.pa_row.specs.declared.place.Sub.{Sub}
use Rattle.pa_row.specs.declared.place.Sub.TheVariants.{Main, Base}
use Rattle.pa_row.specs.declared.place.Spot.{Spot}
use Rattle.pa_row.specs.declared.place.Spot.TheVariants.{Load, Pivot, Read, Check}
use Rattle.pa_row.specs.declared.place.Halt.{Halt}
use Rattle.pa_row.specs.declared.place.Halt.TheVariants as halt
use Rattle.pa_row.specs.declared.fault.RowFault.{RowFault}
use Rattle.pa_row.specs.declared.fault.RowFault.TheVariants as reading
use Rattle.pa_row.specs.Fractions.{point_in}
use Rattle.pa_row.specs.Sums.{covers_in, dot_in, meets_in}
use Rattle.pa_fourier.specs.declared.fault.CleanFault.{CleanFault}
use Rattle.pa_fourier.specs.declared.fault.CleanFault.TheVariants as cleaning
use Rattle.pa_fourier.specs.Cleaning.{clean_in}
use Rattle.pa_tableau.specs.Arithmetic.{at_width}
use Rattle.pa_replay.specs.Readings.{LeastRead}
use Rattle.pa_bland.specs.declared.answer.Answer.{Answer}
use Rattle.pa_bland.specs.declared.answer.Answer.TheVariants.{Least, NoWeights, Endless}
use Rattle.pa_bland.specs.declared.answer.SolveError.{SolveError}
use Rattle.pa_bland.specs.declared.answer.SolveError.TheVariants as solving
use Rattle.pa_bland.specs.declared.answer.Spot.{Spot as SolveSpot}
use Rattle.pa_bland.specs.declared.answer.Spot.TheVariants as spots
use Rattle.pa_bland.specs.Answered.{answer_of}
use Rattle.pa_farkas.specs.Alternatives.{Thinning}
use Rattle.pa_farkas.specs.declared.implication.Verdict.{Verdict}
use Rattle.pa_farkas.specs.declared.implication.Verdict.TheVariants.{Yes, Empty, No}
use Rattle.pa_farkas.specs.declared.base.Feasibility.{Feasibility}
use Rattle.pa_farkas.specs.declared.base.Feasibility.TheVariants as feasible

-- ---- places of faults
abbrev pub spot_of : SolveSpot → Spot
spot_of (spots.Cell at) = Pivot at.pivot at.row at.column
spot_of spots.Read = Read

-- the fault of a problem, by its task and by which of the task's problems it is; a limit of pivots has no spot of its own
abbrev pub halt_of : Task → Sub → SolveError → Halt
halt_of task sub solving.Memory = halt.Memory
halt_of task sub solving.PivotLimit = halt.PivotLimit (record { task = task; sub = sub; spot = Load })
halt_of task sub (solving.Wide spot) = halt.Wide (record { task = task; sub = sub; spot = spot_of spot })

-- a number that passes the width at this place
abbrev pub wide_in : Task → Sub → Spot → Wide → Halt
wide_in task sub spot wide = halt.Wide (record { task = task; sub = sub; spot = spot })

-- a fault of what is read
abbrev pub read_halt : Task → Sub → RowFault → Halt
read_halt task sub reading.Memory = halt.Memory
read_halt task sub reading.Wide = wide_in task sub Read (record {})

-- the answer to the problem of these rows and this target
abbrev pub solved_for : Task → Sub → List Row → List ℤ → ℕ → Result Answer Halt
solved_for task sub rows target most = told_as (halt_of task sub) (answer_of (at_width 126) (record { rows = rows; target = target }) most)

-- ---- certificates are checked
-- the weights, once their sums over the rows were formed
abbrev pub weights_checked : List Row → Row → Task → Sub → Weights → Result Weights Halt
weights_checked rows row task sub w = told_as (wide_in task sub Check) (and_then (covers_in rows row w) (λ shown. Ok w))

-- whether the point meets each of the rows, all of which are tested
abbrev pub tested_in : Point → List Row → Result Bool Wide
tested_in x [] = Ok true
tested_in x (row ∷ rows) = and_then (meets_in row x) (λ met. and_then (tested_in x rows) (λ others. Ok (if met then others else false)))

-- the point, once the rows were tested at it
abbrev pub point_checked : List Row → Task → Sub → Point → Result Point Halt
point_checked rows task sub x = told_as (wide_in task sub Check) (and_then (tested_in x rows) (λ met. Ok x))

-- and once a row was tested behind them
abbrev pub breaking_checked : List Row → Row → Task → Sub → Point → Result Point Halt
breaking_checked rows row task sub x = and_then (point_checked rows task sub x) (λ x. told_as (wide_in task sub Check) (and_then (meets_in row x)
    (λ met. Ok x)))

-- ---- does a list of rows imply a row
-- how the least value stands to the row's bound
abbrev pub compared_in : Row → LeastRead → Result Ordering Wide
compared_in row a = comparison_in 126 (over a.value.0 a.value.1) (whole row.b)

abbrev pub is_above : Ordering → Bool
is_above Less = false
is_above Equal = false
is_above Greater = true

-- the point of the least end, where its value is above the row's bound
abbrev pub point_above : Row → LeastRead → Result (Option Point) Wide
point_above row a = and_then (compared_in row a) (λ order. if is_above order then and_then (point_in a.point) (λ x. Ok (Some x)) else Ok None)

-- the sum of the row's products at the point, then the bound times the denominator, and then how far the sum is below it: a point with a negative
-- slack breaks the row
abbrev pub slack_of : Row → Point → Result ℤ Wide
slack_of row x = and_then (dot_in row.c x.p) (λ sum. and_then (within 126 (row.b *ℤ x.q)) (λ bound. within 126 (bound -ℤ sum)))

-- how much the row's sum rises in one step along the direction, over a denominator
abbrev pub rise_of : Row → ℤ → List ℤ → Result ℤ Wide
rise_of row q d = and_then (dot_in row.c d) (λ once. within 126 (once *ℤ q))

-- the least whole number of steps along the direction that bring the point, which has this slack, out of the row
abbrev pub steps_in : Row → ℤ → Point → List ℤ → Result ℤ Wide
steps_in row slack x d = and_then (rise_of row x.q d) (λ rise. within 126 (pos 1 +ℤ int_div slack rise))

-- a number with a number of the direction so many times more
abbrev pub moved_number : ℤ → ℤ → ℤ → Result ℤ Wide
moved_number k p d = and_then (within 126 (k *ℤ d)) (λ product. within 126 (p +ℤ product))

-- numbers, each with its number of the direction so many times more
abbrev pub moved_in : ℤ → List ℤ → List ℤ → Result (List ℤ) Wide
moved_in k [] ds = Ok []
moved_in k (p ∷ ps) [] = Ok []
moved_in k (p ∷ ps) (d ∷ ds) = and_then (moved_number k p d) (λ n. and_then (moved_in k ps ds) (λ ns. Ok (n ∷ ns)))

-- the point at the end of these steps
abbrev pub walked_in : ℤ → Point → List ℤ → Result Point Wide
walked_in steps x d = and_then (within 126 (steps *ℤ x.q)) (λ k. and_then (moved_in k x.p d) (λ p. Ok (record { p = p; q = x.q })))

-- the point itself where it breaks the row, and else the first one that does along the direction
abbrev pub away_in : Row → Point → List ℤ → Result Point Wide
away_in row x d = and_then (slack_of row x) (λ slack.
    if int_lt slack (pos 0) then Ok x else and_then (steps_in row slack x d) (λ steps. walked_in steps x d))

abbrev pub yes_of : List Row → Row → Task → Weights → Result Verdict Halt
yes_of rows row task w = and_then (weights_checked rows row task Main w) (λ w. Ok (Yes w))

abbrev pub empty_of : List Row → Row → Task → Sub → Weights → Result Verdict Halt
empty_of rows row task sub w = and_then (weights_checked rows row task sub w) (λ w. Ok (Empty w))

abbrev pub no_of : List Row → Row → Task → Sub → Point → Result Verdict Halt
no_of rows row task sub x = and_then (breaking_checked rows row task sub x) (λ x. Ok (No x))

-- at the least value
abbrev pub by_value : List Row → Row → Task → LeastRead → Result Verdict Halt
by_value rows row task a = and_then (told_as (wide_in task Main Read) (point_above row a))
    (λ found. given (yes_of rows row task a.weights) found (no_of rows row task Main))

-- Where no weights make the row: along the direction from a point that meets the rows, if there is one. The target 0 of that second problem
-- always has weights.
abbrev pub by_base : List Row → Row → Task → List ℤ → Answer → Result Verdict Halt
by_base rows row task d (Least a) =
    and_then (told_as (wide_in task Base Read) (and_then (point_in a.point) (λ x. away_in row x d))) (no_of rows row task Base)
by_base rows row task d (Endless a) = empty_of rows row task Base a.ray
by_base rows row task d (NoWeights none) = Err halt.Memory

abbrev pub by_main : List Row → Row → ℕ → Task → Answer → Result Verdict Halt
by_main rows row most task (Least a) = by_value rows row task a
by_main rows row most task (Endless a) = empty_of rows row task Main a.ray
by_main rows row most task (NoWeights d) = and_then (solved_for task Base rows (replicate (length row.c) (pos 0)) most) (by_base rows row task d)

-- the verdict on a row
abbrev pub implied_of : List Row → Row → ℕ → Task → Result Verdict Halt
implied_of rows row most task = and_then (solved_for task Main rows row.c most) (by_main rows row most task)

-- ---- does a point meet the rows
abbrev pub feasible_by : ℕ → List Row → Task → Answer → Result Feasibility Halt
feasible_by n rows task (Least a) =
    and_then (told_as (wide_in task Base Read) (point_in a.point)) (λ x. and_then (point_checked rows task Base x) (λ x. Ok (feasible.Point x)))
feasible_by n rows task (Endless a) = and_then (weights_checked rows (impossible n) task Base a.ray) (λ w. Ok (feasible.Empty w))
feasible_by n rows task (NoWeights none) = Err halt.Memory

-- the answer on rows over n columns, by the target 0, which always has weights
abbrev pub feasible_of : ℕ → List Row → ℕ → Task → Result Feasibility Halt
feasible_of n rows most task = and_then (solved_for task Base rows (replicate n (pos 0)) most) (feasible_by n rows task)

-- ---- which weights cover a row
abbrev pub found_of : List Row → Row → Task → Weights → Result (Option Weights) Halt
found_of rows row task w = and_then (weights_checked rows row task Main w) (λ w. Ok (Some w))

abbrev pub covered_by : List Row → Row → Task → Answer → Result (Option Weights) Halt
covered_by rows row task (Least a) =
    and_then (told_as (wide_in task Main Read) (compared_in row a)) (λ order. if is_above order then Ok None else found_of rows row task a.weights)
covered_by rows row task (Endless a) = found_of rows row task a.ray
covered_by rows row task (NoWeights d) = Ok None

-- the weights that cover a row, by the least value of its problem or by a ray
abbrev pub covered_of : List Row → Row → ℕ → Task → Result (Option Weights) Halt
covered_of rows row most task = and_then (solved_for task Main rows row.c most) (covered_by rows row task)

-- ---- thinning
-- a comparison of the clean that passes the width
abbrev pub clean_halt : Group → CleanFault → Halt
clean_halt group cleaning.Memory = halt.Memory
clean_halt group (cleaning.Wide row) = halt.Wide (record { task = Clean group row; sub = Main; spot = Check })

-- the places from i on, of k ones, that are not gone
abbrev pub places_left : List ℕ → ℕ → ℕ → List ℕ
places_left gone i zero = []
places_left gone i (suc k) = if is_place_of gone i then places_left gone (suc i) k else i ∷ places_left gone (suc i) k

-- the part of a row at one of these places, by the place
abbrev pub at_place : List ℕ → ℕ × ℤ → ℕ × ℤ
at_place places part = (get_or places part.0 0, part.1)

-- weights over the rows at these places, by the places
abbrev pub at_places : List ℕ → Weights → Weights
at_places places w = record { den = w.den; parts = map (at_place places) w.parts }

-- the drop of a row by the other rows that are left
abbrev pub dropped_at : List Row → List ℕ → ℕ → Weights → Dropped
dropped_at all gone i w = record { row = i; weights = at_places (places_left (i ∷ gone) 0 (length all)) w }

-- the drops so far, and the row at place i if those that are left without it cover it
abbrev pub with_row : Group → List Row → ℕ → List Dropped → ℕ → Result (List Dropped) Halt
with_row group all most drops i =
    and_then (covered_of (without_places (i ∷ places_of drops) 0 all) (row_at all i) most (Filter group i)) (λ found.
    Ok (given drops found (λ w. drops ++ dropped_at all (places_of drops) i w ∷ [])))

-- the drops so far, and those of k rows from place i on, from the first to the last
abbrev pub filtered : Group → List Row → ℕ → List Dropped → ℕ → ℕ → Result (List Dropped) Halt
filtered group all most drops i zero = Ok drops
filtered group all most drops i (suc k) = and_then (with_row group all most drops i) (λ next. filtered group all most next (suc i) k)

-- the clean of rows over n columns, and then the drops of its rows, over these and a context that stays
abbrev pub thinned_of : ℕ → List Row → List Row → ℕ → Group → Result Thinning Halt
thinned_of n rows context most group =
    and_then (told_as (clean_halt group) (clean_in n rows)) (λ kept.
    and_then (filtered group (kept ++ context) most [] 0 (length kept)) (λ drops.
    Ok (record { rows = without_places (places_of drops) 0 kept; drops = drops })))
