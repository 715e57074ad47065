-- The answer to a problem: where its run ends, and what is read there.
use Rattle.std.specs.Prelude.{ℕ, ◌<◌, ◌≤◌, Bool, true, false, if◌then◌else◌, length, Result, Ok, Err}
use Rattle.pa_math.specs.Answers.{and_then, told_as}
use Rattle.pa_frac.specs.declared.wide.Wide.{Wide}
use Rattle.pa_row.specs.declared.fault.RowFault.{RowFault}
use Rattle.pa_row.specs.declared.fault.RowFault.TheVariants as row_fault
use Rattle.pa_tableau.specs.declared.wide_at.WideAt.{WideAt}
use Rattle.pa_tableau.specs.Arithmetic.{Arithmetic}
use Rattle.pa_tableau.specs.Tableau.{Tableau}
use Rattle.pa_replay.specs.declared.«end».End.{End}
use Rattle.pa_replay.specs.declared.«end».End.TheVariants as ends
use Rattle.pa_replay.specs.declared.«end».SolveFault.{SolveFault}
use Rattle.pa_replay.specs.Problem.{Problem}
use Rattle.pa_replay.specs.Readings.{IsAscending, direction_answer, endless_answer, least_answer, ray_read, weights_read}
use Rattle.pa_replay.specs.Limits.{most_bases}
use Rattle.pa_replay.specs.Replay.{Ended, replay}
use Rattle.pa_replay.specs.Shown.{ShowsEndless, ShowsLeast, ShowsNoWeights}
use Rattle.pa_bland.specs.declared.answer.Answer.{Answer}
use Rattle.pa_bland.specs.declared.answer.Answer.TheVariants.{Least, NoWeights, Endless}
use Rattle.pa_bland.specs.declared.narrow_first.Solved.{Solved}
use Rattle.pa_bland.specs.declared.answer.SolveError.{SolveError}
use Rattle.pa_bland.specs.declared.answer.SolveError.TheVariants as errors
use Rattle.pa_bland.specs.declared.answer.Spot.TheVariants.{Cell, Read}

-- a fault of a reading, as one of the whole
abbrev pub as_error : RowFault → SolveError
as_error row_fault.Memory = errors.Memory
as_error row_fault.Wide = errors.Wide Read

-- a number that is read passes the width
abbrev pub at_read : Wide → SolveError
at_read wide = errors.Wide Read

-- a cell of the run does
abbrev pub at_cell : WideAt → SolveError
at_cell wide = errors.Wide (Cell wide)

-- what is read where a run stopped
abbrev pub answer_read : ℕ → ℕ → Result End SolveFault → Tableau → Result Answer SolveError
answer_read n m (Ok ends.Least) t = told_as at_read (and_then (least_answer n m t) (λ read. Ok (Least read)))
answer_read n m (Ok ends.NoWeights) t = told_as at_read (and_then (direction_answer n m t) (λ direction. Ok (NoWeights direction)))
answer_read n m (Ok (ends.Endless c)) t = told_as at_read (and_then (endless_answer n m c t) (λ read. Ok (Endless read)))
answer_read n m (Err fault) t = Err errors.PivotLimit

-- the answer: the run, and what is read at its end
abbrev pub answer_of : Arithmetic → Problem → ℕ → Result Answer SolveError
answer_of A p most =
    and_then (told_as at_cell (replay A p most)) (λ ended. answer_read (length p.target) (length p.rows) ended.answer ended.table)

-- what is read at this end are weights
abbrev pub IsReadable : ℕ → ℕ → End → Tableau → Type 0
IsReadable n m ends.Least t = IsAscending 0 m (weights_read n m t)
IsReadable n m ends.NoWeights t = Unit {0}
IsReadable n m (ends.Endless c) t = (c < m) × IsAscending 0 m (ray_read n m c t) × IsAscending 0 m (weights_read n m t)

-- what an answer shows of the problem
abbrev pub Shows : Problem → Answer → Type 0
Shows p (Least a) = ShowsLeast p a
Shows p (NoWeights d) = ShowsNoWeights p d
Shows p (Endless a) = ShowsEndless p a

-- there are no more bases than a limit of pivots, which is then never met
abbrev pub IsUnlimited : Problem → ℕ → Type 0
IsUnlimited p most = (most_bases (length p.rows) (length p.target) ≤ 4096) × (most_bases (length p.rows) (length p.target) ≤ most)

-- ---- a run over narrow fractions first
-- whether a run comes to where it stops
abbrev pub is_run : Result Ended WideAt → Bool
is_run (Ok ended) = true
is_run (Err wide) = false

-- an answer, and whether the first run gave it
abbrev pub found : Bool → Result Answer SolveError → Result Solved SolveError
found first answer = and_then answer (λ answer. Ok (record { answer = answer; first = first }))

-- The first arithmetic decides where no operation of its run is refused, and else the second one.
abbrev pub solved_of : Arithmetic → Arithmetic → Problem → ℕ → Result Solved SolveError
solved_of A B p most = if is_run (replay A p most) then found true (answer_of A p most) else found false (answer_of B p most)
