-- What private functions find. No public clause names one of these.
use Rattle.std.specs.Prelude.{◌≡◌, ℕ, ◌+◌, ◌≤◌, ◌<◌, List, length, take, ℤ, pos, ◌+ℤ◌, ◌*ℤ◌, ◌<ℤ◌, All}
use Rattle.pa_frac.specs.Width.{Fits}
use Rattle.pa_meaning.specs.Rows.{Row, Point, row_at}
use Rattle.pa_meaning.specs.Weights.{Weights}
use Rattle.pa_row.specs.declared.step.Broken.TheVariants.{Assumption, Guarantee}
use Rattle.pa_replay.specs.Readings.{LeastRead}
use Rattle.pa_holds.specs.Refined.{ProveEach}
use Rattle.pa_holds.specs.Bounded.{PointHasValue, WeightsBound, turned}
use Rattle.pa_check.specs.Directions.{Improves}
use Rattle.pa_farkas.specs.Alternatives.{BreaksAt, IsMetAt, ShowsUnmet}
use Rattle.pa_farkas.specs.Seen.{IsPointOf}
use Rattle.pa_refine.specs.declared.answer.Refined.{Refined}
use Rattle.pa_refine.specs.declared.answer.Refined.TheVariants.{Yes, No}
use Rattle.pa_refine.specs.declared.answer.Bounded.{Bounded}
use Rattle.pa_refine.specs.declared.answer.Bounded.TheVariants.{Value, Unbounded, Nothing}
use Rattle.pa_refine.specs.declared.covering.Stop.{Stop}
use Rattle.pa_refine.specs.declared.covering.Stop.TheVariants.{Broken, Halted}
use Rattle.pa_refine.specs.Refining.{Lists}
use Rattle.pa_refine.specs.Bounding.{Asked}

-- ---- refinement
-- a stop at a row that is broken is at this place, and the point breaks the row
abbrev pub IsBrokenRow : List Row → Row → ℕ → Stop → Type 0
IsBrokenRow premises row place (Broken i x) = (i ≡ place) × BreaksAt premises row x
IsBrokenRow premises row place (Halted h) = Unit {0}

-- the point of a stop breaks the row of the list at its place
abbrev pub IsStop : List Row → List Row → Stop → Type 0
IsStop premises rows (Broken i x) = (i < length rows) × BreaksAt premises (row_at rows i) x
IsStop premises rows (Halted h) = Unit {0}

-- the lists are over n columns, and not too long
pub record HaveColumns (n : ℕ) (lists : Lists) : Type 0 where
  pub premises : All (λ (r : Row). length r.c ≡ n) lists.premises
  pub assumptions : All (λ (r : Row). length r.c ≡ n) lists.assumptions
  pub guarantees : All (λ (r : Row). length r.c ≡ n) lists.guarantees
  pub assumed : lists.assumed ≤ length lists.premises
  pub few : length lists.premises ≤ 4096
  pub few_rows : length lists.assumptions + length lists.guarantees ≤ 4096

-- what an answer shows of the lists
abbrev pub IsCovering : Lists → Refined → Type 0
IsCovering lists (Yes assumptions guarantees) =
    ProveEach (take lists.assumed lists.premises) lists.assumptions assumptions × ProveEach lists.premises lists.guarantees guarantees
IsCovering lists (No (Assumption row) x) =
    (row < length lists.assumptions) × BreaksAt (take lists.assumed lists.premises) (row_at lists.assumptions row) x
IsCovering lists (No (Guarantee row) x) = (row < length lists.guarantees) × BreaksAt lists.premises (row_at lists.guarantees row) x

-- ---- bounds
-- the rows have the goal's columns, at most 128, they are at most 4,096, and the goal's numbers are narrow, its denominator positive
pub record CanAsk (asked : Asked) : Type 0 where
  pub columns : All (λ (r : Row). length r.c ≡ length asked.goals) asked.rows
  pub few : length asked.rows ≤ 4096
  pub short : length asked.goals ≤ 128
  pub narrow : All (Fits 126) asked.goals
  pub constant : Fits 126 asked.b
  pub denominator : Fits 126 asked.q
  pub positive : pos 0 <ℤ asked.q

-- the value is that of the target with the constant, over the denominator
pub record IsGoalValue (asked : Asked) (a : LeastRead) (value : ℤ × ℤ) : Type 0 where
  pub positive : pos 0 <ℤ value.1
  pub ratio : value.0 *ℤ (asked.q *ℤ a.value.1) ≡ value.1 *ℤ (turned asked.least a.value.0 +ℤ asked.b *ℤ a.value.1)

-- the value is read, and the point of the least end
abbrev pub IsValueRead : Asked → LeastRead → (ℤ × ℤ) × Point → Type 0
IsValueRead asked a read = IsGoalValue asked a read.0 × IsPointOf a read.1

-- the weights bound the value, and the point has it
pub record ShowsValue (asked : Asked) (num den : ℤ) (w : Weights) (x : Point) : Type 0 where
  pub positive : pos 0 <ℤ den
  pub weights : WeightsBound asked.rows asked.goals asked.b asked.q asked.least num den w
  pub met : IsMetAt (length asked.goals) asked.rows x
  pub value : PointHasValue asked.goals asked.b asked.q num den x

-- the point meets the rows, and the goal gets better for ever along the direction
pub record ShowsUnbounded (asked : Asked) (x : Point) (d : List ℤ) : Type 0 where
  pub met : IsMetAt (length asked.goals) asked.rows x
  pub columns : length d ≡ length asked.goals
  pub improves : Improves asked.least d asked.rows asked.goals

-- what an answer shows of the rows and the goal
abbrev pub IsBest : Asked → Bounded → Type 0
IsBest asked (Value num den w x) = ShowsValue asked num den w x
IsBest asked (Unbounded x d) = ShowsUnbounded asked x d
IsBest asked (Nothing w) = ShowsUnmet (length asked.goals) asked.rows w
