-- An answer shows of the problem what it says, and the limit of pivots is never met where there are no more bases.
use Rattle.std.proofs.Common.{◌≡◌, ◌⊎◌, inl, inr, Bool, true, false, if◌then◌else◌, ℕ, ◌≤◌, Result, Ok, Err, length}
use Rattle.std.proofs.Common.{All, IfOk, refl, sym, ap, subst, ◌∙◌}
use Rattle.pa_meaning.specs.Rows.{Row}
use Rattle.pa_math.specs.Answers.{IsAnswer, and_then, seen_as, told_as}
use Rattle.pa_frac.specs.declared.wide.Wide.{Wide}
use Rattle.pa_tableau.specs.declared.wide_at.WideAt.{WideAt}
use Rattle.pa_tableau.specs.Arithmetic.{at_width}
use Rattle.pa_tableau.specs.Tableau.{Tableau}
use Rattle.pa_replay.specs.declared.«end».End.TheVariants as ends
use Rattle.pa_replay.specs.declared.«end».End.{End}
use Rattle.pa_replay.specs.declared.«end».SolveFault.{SolveFault}
use Rattle.pa_replay.specs.Problem.{IsPosed, Problem}
use Rattle.pa_replay.specs.Readings.{direction_answer, endless_answer, least_answer}
use Rattle.pa_replay.specs.Replay.{Ended, ended, replay}
use Rattle.pa_replay.proofs.EndlessShown.{endless_shown}
use Rattle.pa_replay.proofs.KeptSigns.{replay_signs}
use Rattle.pa_replay.proofs.LeastShown.{least_shown}
use Rattle.pa_replay.proofs.NoWeightsShown.{no_weights_shown}
use Rattle.pa_replay.proofs.Solved.{IsSolved, width_solved}
use Rattle.pa_replay.proofs.WholePoints.{HasSigns}
use Rattle.pa_bland.specs.declared.answer.Answer.{Answer}
use Rattle.pa_bland.specs.declared.answer.Answer.TheVariants.{Least, NoWeights, Endless}
use Rattle.pa_bland.specs.declared.answer.SolveError.{SolveError}
use Rattle.pa_bland.specs.declared.answer.SolveError.TheVariants as errors
use Rattle.pa_bland.specs.declared.narrow_first.Solved.{Solved}
use Rattle.pa_bland.specs.Answered.{Shows, answer_of, answer_read, at_cell, at_read, found, is_run, solved_of}
use Rattle.pa_replay.proofs.LoadWidths.{replay_wider}

-- what is read of an answer that is made of what was read
read_as : {X : Type 0} (make : X → Answer) (r : Result X Wide) (a : Answer) → told_as at_read (and_then r (λ read. Ok (make read))) ≡ Ok a →
    (x : X) × (Ok x ≡ r) × (a ≡ make x)
read_as make (Ok x) a e = (x, refl, cc)
read_as make (Err wide) a e = absurd (cc)

never_limited : {X : Type 0} (make : X → Answer) (r : Result X Wide) → told_as at_read (and_then r (λ read. Ok (make read))) ≡ Err errors.PivotLimit → ⊥
never_limited make (Ok x) e = cc
never_limited make (Err wide) e = cc

-- at each «end», where the rows have the target's columns
pub read_shows : (p : Problem) (answer : Result End SolveFault) (ended : Ended) (a : Answer) → All (λ (row : Row). length row.c ≡ length p.target) p.rows
    → IsSolved p ended → HasSigns p ended.table → ended.answer ≡ answer → answer_read (length p.target) (length p.rows) answer ended.table ≡ Ok a
    → Shows p a
read_shows p (Ok ends.Least) ended a columns s signs e h =
    let (x, read, is) = read_as Least (least_answer (length p.target) (length p.rows) ended.table) a h in
    subst (Shows p) (sym is) (least_shown p ended s x e columns signs read)
read_shows p (Ok ends.NoWeights) ended a columns s signs e h =
    let (x, read, is) = read_as NoWeights (direction_answer (length p.target) (length p.rows) ended.table) a h in
    subst (Shows p) (sym is) (no_weights_shown p ended s x e columns signs read)
read_shows p (Ok (ends.Endless c)) ended a columns s signs e h =
    let (x, read, is) = read_as Endless (endless_answer (length p.target) (length p.rows) c ended.table) a h in
    subst (Shows p) (sym is) (endless_shown p ended c s x e columns read)
read_shows p (Err fault) ended a columns s signs e h = absurd (cc)

-- what is read where a run over a width came to its «end»
pub run_shows : (w : ℕ) (p : Problem) (most : ℕ) («end» : End) (t : Tableau) (r : Result Answer SolveError) → IsPosed p →
    ended (Ok «end») t ≡ replay (at_width w) p most → IsAnswer errors.Memory (answer_read (length p.target) (length p.rows) (Ok «end») t) r → IfOk r (Shows p)
run_shows w p most «end» t (Ok a) posed e h =
    let stop : Ended = record { answer = Ok «end»; table = t } in
    read_shows p (Ok «end») stop a posed.columns (width_solved w p most stop e) (replay_signs (at_width w) p most stop e) refl h
run_shows w p most «end» t (Err fault) posed e h = tt

-- what is read at an «end» is no limit of pivots
pub read_unlimited : (n m : ℕ) («end» : End) (t : Tableau) (r : Result Answer SolveError) → IsAnswer errors.Memory (answer_read n m (Ok «end») t) r →
    r ≡ Err errors.PivotLimit → ⊥
read_unlimited n m «end» t (Ok a) h e = cc
read_unlimited n m «end» t (Err fault) h e = by_fault h
  where
    never : («end» : End) → answer_read n m (Ok «end») t ≡ Err errors.PivotLimit → ⊥
    never ends.Least h = never_limited Least (least_answer n m t) h
    never ends.NoWeights h = never_limited NoWeights (direction_answer n m t) h
    never (ends.Endless c) h = never_limited Endless (endless_answer n m c t) h

    by_fault : (fault ≡ errors.Memory) ⊎ (answer_read n m (Ok «end») t ≡ Err fault) → ⊥
    by_fault (inl memory) = cc
    by_fault (inr due) = never «end» (due ∙ e)

-- ---- two runs
-- A narrow run that stops without a refusal is the wide run. So the answer is that of the wide one.
pub found_answer : (first : Bool) (r : Result Answer SolveError) → seen_as (λ (s : Solved). s.answer) (found first r) ≡ r
found_answer first (Ok a) = refl
found_answer first (Err fault) = refl

pub solved_wider : (v w : ℕ) (p : Problem) (most : ℕ) → v ≤ w →
    seen_as (λ (s : Solved). s.answer) (solved_of (at_width v) (at_width w) p most) ≡ answer_of (at_width w) p most
solved_wider v w p most narrow = by_run (replay (at_width v) p most) refl
  where
    by_test : Bool → Result Answer SolveError
    by_test first = seen_as (λ (s : Solved). s.answer)
        (if first then found true (answer_of (at_width v) p most) else found false (answer_of (at_width w) p most))

    by_run : (run : Result Ended WideAt) → run ≡ replay (at_width v) p most →
        seen_as (λ (s : Solved). s.answer) (solved_of (at_width v) (at_width w) p most) ≡ answer_of (at_width w) p most
    by_run (Ok ended) is =
        let wider : Ok ended ≡ replay (at_width w) p most = replay_wider v w p most ended narrow is in
        ap (λ run. by_test (is_run run)) (sym is)
        ∙ found_answer true (answer_of (at_width v) p most)
        ∙ ap (λ run. and_then (told_as at_cell run) (λ ended. answer_read (length p.target) (length p.rows) ended.answer ended.table)) (sym is ∙ wider)
    by_run (Err wide) is =
        ap (λ run. by_test (is_run run)) (sym is)
        ∙ found_answer false (answer_of (at_width w) p most)

-- the answer that is due of two runs, as the answer that is due of the wide one
pub answer_seen : (lack : SolveError) (due : Result Solved SolveError) (r : Result Solved SolveError) → IsAnswer lack due r →
    IsAnswer lack (seen_as (λ (s : Solved). s.answer) due) (seen_as (λ (s : Solved). s.answer) r)
answer_seen lack due (Ok s) h = ap (seen_as (λ (s : Solved). s.answer)) h
answer_seen lack due (Err fault) (inl e) = inl e
answer_seen lack due (Err fault) (inr e) = inr (ap (seen_as (λ (s : Solved). s.answer)) e)
