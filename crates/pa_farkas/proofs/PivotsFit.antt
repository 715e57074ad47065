-- A cell of a run that is too wide is one of the load, or of a pivot that the limit allows.
use Rattle.std.proofs.Common.{◌≡◌, subst, ℕ, zero, suc, ◌+◌, ◌≤◌, ◌==◌, List, [], ◌∷◌, ◌++◌, length, Bool, true, false, if◌then◌else◌}
use Rattle.std.proofs.Common.{Option, Some, None, Result, Ok, Err, IfOk, IfErr, arith, pos}
use Rattle.std.specs.List.{slice_index_or, slice_set, range_with_len}
use lib.IntN.{ℤ}
use Rattle.pa_ring.specs.Sums.{number_at as int_number_at}
use Rattle.pa_math.specs.Answers.{and_then, given}
use Rattle.pa_math.specs.Rational.{ℚ, whole, neg_ℚ}
use Rattle.pa_frac.specs.declared.wide.Wide.{Wide}
use Rattle.pa_frac.specs.Operations.{is_zero}
use Rattle.pa_tableau.specs.declared.wide_at.WideAt.{WideAt}
use Rattle.pa_tableau.specs.Arithmetic.{Arithmetic, each}
use Rattle.pa_tableau.specs.Tableau.{Tableau, cell, divided, line_reduced, lines_pivoted, number_at, other_reduced, pivoted, reduced, told_at}
use Rattle.pa_replay.specs.declared.«end».End.{End}
use Rattle.pa_replay.specs.declared.«end».End.TheVariants.{Least, NoWeights, Endless}
use Rattle.pa_replay.specs.declared.«end».SolveFault.{SolveFault}
use Rattle.pa_replay.specs.declared.«end».SolveFault.TheVariants.{PivotLimit}
use Rattle.pa_replay.specs.declared.next.Next.TheVariants.{Enters}
use Rattle.pa_replay.specs.Problem.{Problem, bounds, cost_in, first_costs, line_numbers, loaded, loaded_line, loaded_numbers, running_sum}
use Rattle.pa_replay.specs.Problem.{turned_number, unit_numbers}
use Rattle.pa_replay.specs.Replay.{Candidate, Ended, Stop, after_first, better, by_left, driven, driven_out, entered, entering_column, is_positive}
use Rattle.pa_replay.specs.Replay.{leaving_from, next_in, phase, replay, run_from, second_answer, second_phase, tested}
use Rattle.pa_bland.specs.declared.answer.Answer.{Answer}
use Rattle.pa_bland.specs.declared.answer.Answer.TheVariants as answers
use Rattle.pa_bland.specs.declared.answer.SolveError.{SolveError}
use Rattle.pa_bland.specs.declared.answer.SolveError.TheVariants as errors
use Rattle.pa_bland.specs.declared.answer.Spot.TheVariants.{Cell}
use Rattle.pa_bland.specs.Answered.{answer_of, answer_read, at_cell, at_read}
use Rattle.pa_math.specs.Answers.{told_as}
use Rattle.pa_replay.specs.Readings.{direction_answer, endless_answer, least_answer}

-- a refusal is at one of these pivots
abbrev IsWithin : {A : Type 0} → ℕ → Result A WideAt → Type 0
IsWithin most r = IfErr r (λ (at : WideAt). at.pivot ≤ most)

-- where a part of a run stops, no more pivots are made and left than were left at first
record StopsWithin (most : ℕ) (r : Result Stop WideAt) : Type 0 where
  stop : IfOk r (λ (stop : Stop). (stop.made + stop.left) ≤ most)
  wide : IsWithin most r

module _ (most : ℕ) where
  then_within : {A B : Type 0} (r : Result A WideAt) (next : A → Result B WideAt) → IsWithin most r → ((a : A) → IsWithin most (next a))
      → IsWithin most (and_then r next)
  then_within (Ok a) next h k = k a
  then_within (Err at) next h k = h

  told_within : {A : Type 0} (pivot row column : ℕ) (r : Result A Wide) → pivot ≤ most → IsWithin most (told_at pivot row column r)
  told_within pivot row column (Ok a) low = tt
  told_within pivot row column (Err wide) low = low

  each_within : {A B : Type 0} (step : ℕ → A → Result B WideAt) (i : ℕ) (xs : List A) → ((i : ℕ) (x : A) → IsWithin most (step i x))
      → IsWithin most (each step i xs)
  each_within step i [] h = tt
  each_within step i (x ∷ xs) h =
      then_within (step i x) (λ y. and_then (each step (suc i) xs) (λ ys. Ok (y ∷ ys))) (h i x)
      (λ y. then_within (each step (suc i) xs) (λ ys. Ok (y ∷ ys)) (each_within step (suc i) xs h) (λ ys. tt))

  module _ (A : Arithmetic) where
    -- ---- the load
    running_within : (row column : ℕ) (sum : ℚ) (lines : List (List ℚ)) → IsWithin most (running_sum A row column sum lines)
    running_within row column sum [] = tt
    running_within row column sum (line ∷ lines) =
        then_within (told_at 0 row column (A.sum sum (number_at line column))) (λ next. running_sum A row column next lines)
        (told_within 0 row column (A.sum sum (number_at line column)) (omega (arith))) (λ next. running_within row column next lines)

    cost_within : (n : ℕ) (lines : List (List ℚ)) (j : ℕ) → IsWithin most (cost_in A n lines j)
    cost_within n lines j =
        then_within (running_sum A n j (whole (pos 0)) lines) (λ sum. Ok (neg_ℚ sum)) (running_within n j (whole (pos 0)) lines) (λ sum. tt)

    costs_within : (n m : ℕ) (lines : List (List ℚ)) → IsWithin most (first_costs A n m lines)
    costs_within n m lines =
        then_within (each (λ i j. cost_in A n lines j) 0 (range_with_len 0 m)) _
        (each_within (λ i j. cost_in A n lines j) 0 (range_with_len 0 m) (λ i j. cost_within n lines j))
        (λ own. then_within (cost_in A n lines (n + m)) _ (cost_within n lines (n + m)) (λ value. tt))

    numbers_within : (row : ℕ) (numbers : List ℤ) → IsWithin most (loaded_numbers A row numbers)
    numbers_within row numbers =
        each_within (λ j z. told_at 0 row j (A.fraction (whole z))) 0 numbers (λ j z. told_within 0 row j (A.fraction (whole z)) (omega (arith)))

    line_within : (p : Problem) (i : ℕ) → IsWithin most (loaded_line A p i)
    line_within p i =
        then_within (loaded_numbers A i (line_numbers p i)) _ (numbers_within i (line_numbers p i))
        (λ own. then_within (told_at 0 i (length p.target + length p.rows) value_of) (λ value. Ok (own ++ unit_numbers (length p.target) i ++ value ∷ []))
        (told_within 0 i (length p.target + length p.rows) value_of (omega (arith))) (λ value. tt))
      where
        value_of : Result ℚ Wide
        value_of = A.fraction (whole (turned_number p.target i (int_number_at p.target i)))

    loaded_within : (p : Problem) → IsWithin most (loaded A p)
    loaded_within p =
        then_within (each (λ i row. loaded_line A p i) 0 (range_with_len 0 (length p.target))) _
        (each_within (λ i row. loaded_line A p i) 0 (range_with_len 0 (length p.target)) (λ i row. line_within p i))
        (λ lines. then_within (loaded_numbers A (length p.target + 1) (bounds p)) _ (numbers_within (length p.target + 1) (bounds p))
        (λ costs. then_within (first_costs A (length p.target) (length p.rows) lines) _ (costs_within (length p.target) (length p.rows) lines)
        (λ first. tt)))

    -- ---- a pivot
    module _ (pivot : ℕ) (low : pivot ≤ most) where
      reduced_within : (row : ℕ) (f : ℚ) (ps line : List ℚ) → IsWithin most (line_reduced A pivot row f ps line)
      reduced_within row f ps line =
          each_within (λ j x. told_at pivot row j (reduced A x f (number_at ps j))) 0 line
          (λ j x. told_within pivot row j (reduced A x f (number_at ps j)) low)

      other_within : (l c : ℕ) (ps : List ℚ) (i : ℕ) (line : List ℚ) → IsWithin most (other_reduced A pivot l c ps i line)
      other_within l c ps i line = by (i == l)
        where
          by : (b : Bool) → IsWithin most (if b then Ok line else line_reduced A pivot i (number_at line c) ps line)
          by true = tt
          by false = reduced_within i (number_at line c) ps line

      pivoted_within : (l c : ℕ) (t : Tableau) → IsWithin most (pivoted A pivot l c t)
      pivoted_within l c t =
          then_within (lines_pivoted A pivot l c t.lines) _
          (then_within (divided A pivot l (number_at (slice_index_or t.lines l []) c) (slice_index_or t.lines l [])) _
          (each_within (λ j x. told_at pivot l j (A.quotient x (number_at (slice_index_or t.lines l []) c))) 0 (slice_index_or t.lines l [])
          (λ j x. told_within pivot l j (A.quotient x (number_at (slice_index_or t.lines l []) c)) low))
          (λ ps. each_within (other_reduced A pivot l c ps) 0 (slice_set t.lines l ps) (other_within l c ps)))
          (λ lines. tt)

      tested_within : (value c : ℕ) (t : Tableau) (i : ℕ) (best : Option Candidate) → IsWithin most (tested A pivot value c t i best)
      tested_within value c t i best = by (is_positive (cell t i c))
        where
          by : (b : Bool) → IsWithin most
              (if b then told_at pivot i (suc value) (and_then (A.quotient (cell t i value) (cell t i c)) (better A t best i)) else Ok best)
          by true = told_within pivot i (suc value) (and_then (A.quotient (cell t i value) (cell t i c)) (better A t best i)) low
          by false = tt

      leaving_within : (value c : ℕ) (t : Tableau) (i k : ℕ) (best : Option Candidate) → IsWithin most (leaving_from A pivot value c t i k best)
      leaving_within value c t i zero best = tt
      leaving_within value c t i (suc k) best =
          then_within (tested A pivot value c t i best) (leaving_from A pivot value c t (suc i) k) (tested_within value c t i best)
          (leaving_within value c t (suc i) k)

      entered_within : (n m c : ℕ) (t : Tableau) → IsWithin most (entered A pivot n m c t)
      entered_within n m c t =
          then_within (leaving_from A pivot (n + m) c t 0 n None) (λ best. given (Ok t) best (λ best. pivoted A pivot best.0 c t))
          (leaving_within (n + m) c t 0 n None) by
        where
          by : (best : Option Candidate) → IsWithin most (given (Ok t) best (λ best. pivoted A pivot best.0 c t))
          by None = tt
          by (Some best) = pivoted_within best.0 c t

    -- ---- parts of a run
    step_within : {B : Type 0} (r : Result B WideAt) (next : B → Result Stop WideAt) → IsWithin most r → ((b : B) → StopsWithin most (next b))
        → StopsWithin most (and_then r next)
    step_within (Ok b) next h k = k b
    step_within (Err at) next h k = record { stop = tt; wide = h }

    stops : (stop : Stop) → (stop.made + stop.left) ≤ most → StopsWithin most (Ok stop)
    stops stop low = record { stop = low; wide = tt }

    phase_within : (n m cost made left : ℕ) (t : Tableau) → (made + left) ≤ most → StopsWithin most (phase A n m cost made left t)
    phase_within n m cost made zero t low = stops _ low
    phase_within n m cost made (suc left) t low =
        by (entering_column (next_in n m cost t)) (λ u. phase_within n m cost (suc made) left u (omega (arith, low)))
      where
        by : (o : Option ℕ) → ((u : Tableau) → StopsWithin most (phase A n m cost (suc made) left u))
            → StopsWithin most (given (Ok (record { made = made; left = suc left; table = t; next = next_in n m cost t })) o
            (λ c. and_then (entered A (suc made) n m c t) (λ u. phase A n m cost (suc made) left u)))
        by None rest = stops _ low
        by (Some c) rest =
            step_within (entered A (suc made) n m c t) (λ u. phase A n m cost (suc made) left u)
            (entered_within (suc made) (omega (arith, low)) n m c t) rest

    -- a pivot is made where one is left
    one_within : (m i k made c : ℕ) (t : Tableau) (left : ℕ) → (made + left) ≤ most
        → ((left : ℕ) (u : Tableau) → (suc made + left) ≤ most → StopsWithin most (driven_out A m (suc i) k (suc made) left u))
        → StopsWithin most (by_left left (Ok (record { made = made; left = 0; table = t; next = Enters c })) (λ left.
        and_then (pivoted A (suc made) i c t) (λ u. driven_out A m (suc i) k (suc made) left u)))
    one_within m i k made c t zero low rest = stops _ low
    one_within m i k made c t (suc left) low rest =
        step_within (pivoted A (suc made) i c t) (λ u. driven_out A m (suc i) k (suc made) left u)
        (pivoted_within (suc made) (omega (arith, low)) i c t) (λ u. rest left u (omega (arith, low)))

    driven_within : (m i k made left : ℕ) (t : Tableau) → (made + left) ≤ most → StopsWithin most (driven_out A m i k made left t)
    driven_within m i zero made left t low = stops _ low
    driven_within m i (suc k) made left t low =
        by (driven m i t) (driven_within m (suc i) k made left t low) (λ left u low. driven_within m (suc i) k (suc made) left u low)
      where
        by : (o : Option ℕ) → StopsWithin most (driven_out A m (suc i) k made left t)
            → ((left : ℕ) (u : Tableau) → (suc made + left) ≤ most → StopsWithin most (driven_out A m (suc i) k (suc made) left u))
            → StopsWithin most (given (driven_out A m (suc i) k made left t) o (λ c.
            by_left left (Ok (record { made = made; left = 0; table = t; next = Enters c })) (λ left.
            and_then (pivoted A (suc made) i c t) (λ u. driven_out A m (suc i) k (suc made) left u))))
        by None same more = same
        by (Some c) same more = one_within m i k made c t left low more

    -- ---- the run
    from_stop : {B : Type 0} (r : Result Stop WideAt) (next : Stop → Result B WideAt) → StopsWithin most r
        → ((stop : Stop) → (stop.made + stop.left) ≤ most → IsWithin most (next stop)) → IsWithin most (and_then r next)
    from_stop (Ok stop) next h k = k stop h.stop
    from_stop (Err at) next h k = h.wide

    second_within : (n m : ℕ) (stop : Stop) → (stop.made + stop.left) ≤ most → IsWithin most (second_phase A n m stop)
    second_within n m stop low = by (entering_column stop.next)
      where
        by : (o : Option ℕ) → IsWithin {A = Ended} most (given
            (and_then (phase A n m (n + 1) stop.made stop.left stop.table) (λ stop. Ok (record { answer = second_answer stop.next; table = stop.table })))
            o (λ c. Ok (record { answer = Err PivotLimit; table = stop.table })))
        by None = from_stop (phase A n m (n + 1) stop.made stop.left stop.table) _ (phase_within n m (n + 1) stop.made stop.left stop.table low)
            (λ stop low. tt)
        by (Some c) = tt

    after_within : (n m : ℕ) (stop : Stop) → (stop.made + stop.left) ≤ most → IsWithin most (after_first A n m stop)
    after_within n m stop low = by (entering_column stop.next) (is_zero (cell stop.table n (n + m)))
      where
        by : (o : Option ℕ) (b : Bool) → IsWithin {A = Ended} most (given
            (if b then and_then (driven_out A m 0 n stop.made stop.left stop.table) (second_phase A n m)
            else Ok (record { answer = Ok NoWeights; table = stop.table }))
            o (λ c. Ok (record { answer = Err PivotLimit; table = stop.table })))
        by (Some c) b = tt
        by None false = tt
        by None true = from_stop (driven_out A m 0 n stop.made stop.left stop.table) (second_phase A n m)
            (driven_within m 0 n stop.made stop.left stop.table low) (second_within n m)

    run_within : (n m : ℕ) (t : Tableau) → IsWithin most (run_from A n m most t)
    run_within n m t = from_stop (phase A n m n 0 most t) (after_first A n m) (phase_within n m n 0 most t (omega (arith))) (after_within n m)

    pub replay_within : (p : Problem) → IsWithin most (replay A p most)
    replay_within p = then_within (loaded A p) (run_from A (length p.target) (length p.rows) most) (loaded_within p)
        (run_within (length p.target) (length p.rows))

-- ---- the fault of an answer
told_read : {X : Type 0} (make : X → Answer) (r : Result X Wide) (at : WideAt)
    → told_as at_read (and_then r (λ read. Ok (make read))) ≡ Err (errors.Wide (Cell at)) → ⊥
told_read make (Ok x) at h = cc
told_read make (Err wide) at h = cc

-- what is read has no cell
no_cell : (n m : ℕ) (answer : Result End SolveFault) (t : Tableau) (at : WideAt) → answer_read n m answer t ≡ Err (errors.Wide (Cell at)) → ⊥
no_cell n m (Ok Least) t at h = told_read answers.Least (least_answer n m t) at h
no_cell n m (Ok NoWeights) t at h = told_read answers.NoWeights (direction_answer n m t) at h
no_cell n m (Ok (Endless c)) t at h = told_read answers.Endless (endless_answer n m c t) at h
no_cell n m (Err fault) t at h = cc

cell_same : (a b : WideAt) → (let r : Result Answer SolveError = Err (errors.Wide (Cell a)) in r) ≡ Err (errors.Wide (Cell b)) → a ≡ b
cell_same a b h = cc

-- the pivot of a cell that is too wide is one of those that the limit allows, or the load, which is pivot 0
pub cell_pivot : (A : Arithmetic) (p : Problem) (most : ℕ) (at : WideAt) → answer_of A p most ≡ Err (errors.Wide (Cell at)) → at.pivot ≤ most
cell_pivot A p most at is = by (replay A p most) (replay_within most A p) is
  where
    by : (r : Result Ended WideAt) → IsWithin most r
        → and_then (told_as at_cell r) (λ ended. answer_read (length p.target) (length p.rows) ended.answer ended.table) ≡ Err (errors.Wide (Cell at))
        → at.pivot ≤ most
    by (Ok ended) h is = absurd (no_cell (length p.target) (length p.rows) ended.answer ended.table at is)
    by (Err wide) h is = subst (λ (at : WideAt). at.pivot ≤ most) (cell_same wide at is) h
