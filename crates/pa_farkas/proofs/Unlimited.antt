-- Where no more bases than the limit of pivots can be chosen, no answer is that the pivots were used up: a run has no basis twice, and nothing but a run
-- uses pivots.
use Rattle.std.proofs.Common.{◌≡◌, inl, inr, refl, sym, ap, ◌∙◌, subst, ℕ, zero, suc, ◌+◌, ◌-◌, ◌<◌, ◌≤◌, nat_le, Bool, true, false, cond, arith}
use Rattle.std.proofs.Common.{List, [], ◌∷◌, ◌++◌, length, length-append, replicate, All, Option, None, Some, Result, Ok, Err}
use Rattle.std.proofs.lemmas.List.{length-replicate}
use lib.IntN.{ℤ, pos}
use Rattle.pa_math.specs.Answers.{IsAnswer, and_then, given, told_as}
use Rattle.pa_math.proofs.Answers.{and_then_ok, ok_same}
use Rattle.pa_frac.specs.declared.wide.Wide.{Wide}
use Rattle.pa_frac.specs.Operations.{is_zero}
use Rattle.pa_ring.specs.Choices.{choices}
use Rattle.pa_meaning.specs.Rows.{Point, Row, row_at}
use Rattle.pa_meaning.specs.Weights.{Weights, impossible}
use Rattle.pa_witness.specs.Thinning.{Dropped, cleaned, is_place_of, places_of, without_places}
use Rattle.pa_witness.proofs.Substitution.{All-row_at}
use Rattle.pa_row.specs.Fractions.{point_in}
use Rattle.pa_row.specs.Sums.{covers_in, meets_in}
use Rattle.pa_row.specs.declared.place.Halt.{Halt}
use Rattle.pa_row.specs.declared.place.Halt.TheVariants as halt
use Rattle.pa_row.specs.declared.place.Spot.{Spot}
use Rattle.pa_row.specs.declared.place.Spot.TheVariants.{Read, Check}
use Rattle.pa_row.specs.declared.place.Sub.{Sub}
use Rattle.pa_row.specs.declared.place.Sub.TheVariants.{Main, Base}
use Rattle.pa_row.specs.declared.place.Task.{Task}
use Rattle.pa_row.specs.declared.place.Task.TheVariants.{Filter}
use Rattle.pa_row.specs.declared.place.Group.{Group}
use Rattle.pa_fourier.specs.Cleaning.{clean_in}
use Rattle.pa_fourier.specs.declared.fault.CleanFault.{CleanFault}
use Rattle.pa_fourier.specs.declared.fault.CleanFault.TheVariants as cleaning
use Rattle.pa_fourier.proofs.Cleaned.{clean_value}
use Rattle.pa_tableau.specs.declared.wide_at.WideAt.{WideAt}
use Rattle.pa_tableau.specs.Arithmetic.{Arithmetic, at_width}
use Rattle.pa_tableau.specs.Tableau.{Tableau, cell}
use Rattle.pa_replay.specs.declared.«end».End.{End}
use Rattle.pa_replay.specs.declared.«end».End.TheVariants as ends
use Rattle.pa_replay.specs.declared.«end».SolveFault.{SolveFault}
use Rattle.pa_replay.specs.declared.«end».SolveFault.TheVariants as fault
use Rattle.pa_replay.specs.declared.next.Next.{Next}
use Rattle.pa_replay.specs.declared.next.Next.TheVariants.{Settled, Falls, Enters}
use Rattle.pa_replay.specs.Problem.{Problem, loaded}
use Rattle.pa_replay.specs.Replay.{Ended, Stop, after_first, driven_out, entering_column, phase, replay, run_from, second_answer, second_phase}
use Rattle.pa_replay.proofs.Replays.{answer_unlimited}
use Rattle.pa_bland.specs.declared.answer.Answer.{Answer}
use Rattle.pa_bland.specs.declared.answer.Answer.TheVariants.{Least, NoWeights, Endless}
use Rattle.pa_bland.specs.declared.answer.SolveError.{SolveError}
use Rattle.pa_bland.specs.declared.answer.SolveError.TheVariants as errors
use Rattle.pa_bland.specs.Answered.{IsUnlimited, answer_of, answer_read, at_cell}
use Rattle.pa_bland.proofs.Meant.{read_unlimited}
use Rattle.pa_farkas.specs.declared.base.Feasibility.{Feasibility}
use Rattle.pa_farkas.specs.declared.base.Feasibility.TheVariants as feasible
use Rattle.pa_farkas.specs.declared.implication.Verdict.{Verdict}
use Rattle.pa_farkas.specs.declared.implication.Verdict.TheVariants.{Yes, Empty, No}
use Rattle.pa_farkas.specs.Alternatives.{Thinning}
use Rattle.pa_farkas.specs.FewBases.{HasFewBases, IsNotLimited}
use Rattle.pa_farkas.specs.Seen.{CanStart}
use Rattle.pa_farkas.specs.Answered.{away_in, breaking_checked, by_base, by_main, compared_in, covered_by, covered_of}
use Rattle.pa_farkas.specs.Answered.{clean_halt, empty_of, feasible_by, feasible_of, found_of, halt_of, implied_of, is_above, no_of, point_above, point_checked}
use Rattle.pa_farkas.specs.Answered.{filtered, solved_for, tested_in, thinned_of, weights_checked, wide_in, with_row, yes_of}
use Rattle.pa_farkas.proofs.FilterTurns.{cleaned_fewer}

err_same : {A E : Type 0} (x y : E) → (let r : Result A E = Err x in r) ≡ Err y → x ≡ y
err_same x y h = cc

-- ---- where a run stops it was not refused: it is at an end, or at its limit
abbrev IsNoFault : Ended → Type 0
IsNoFault e = (wide : WideAt) → e.answer ≡ Err (fault.Wide wide) → ⊥

second_is_no_fault : (next : Next) (wide : WideAt) → second_answer next ≡ Err (fault.Wide wide) → ⊥
second_is_no_fault Settled wide h = cc
second_is_no_fault (Falls c) wide h = cc
second_is_no_fault (Enters c) wide h = cc

-- what is given where an answer may be there already
chosen : (otherwise : Result Ended WideAt) (found : Option ℕ) (t : Tableau) (e : Ended) → ((e : Ended) → Ok e ≡ otherwise → IsNoFault e)
    → Ok e ≡ given otherwise found (λ c. Ok (record { answer = Err fault.PivotLimit; table = t })) → IsNoFault e
chosen otherwise None t e others h wide is = others e h wide is
chosen otherwise (Some c) t e others h wide is =
    limit_is_no_fault (sym (ap (λ (e : Ended). e.answer) (ok_same e (record { answer = Err fault.PivotLimit; table = t }) h)) ∙ is)
  where
    limit_is_no_fault : (let r : Result End SolveFault = Err fault.PivotLimit in r) ≡ Err (fault.Wide wide) → ⊥
    limit_is_no_fault h = cc

second_phase_no_fault : (A : Arithmetic) (n m : ℕ) (stop : Stop) (e : Ended) → Ok e ≡ second_phase A n m stop → IsNoFault e
second_phase_no_fault A n m stop e h =
    chosen (and_then (phase A n m (n + 1) stop.made stop.left stop.table) (λ s. Ok (record { answer = second_answer s.next; table = s.table })))
    (entering_column stop.next) stop.table e others h
  where
    others : (e : Ended) → Ok e ≡ and_then (phase A n m (n + 1) stop.made stop.left stop.table)
        (λ s. Ok (record { answer = second_answer s.next; table = s.table })) → IsNoFault e
    others e h wide is =
        let (s, run, made) = and_then_ok (phase A n m (n + 1) stop.made stop.left stop.table)
        (λ s. Ok (record { answer = second_answer s.next; table = s.table })) e h in
        second_is_no_fault s.next wide (sym (ap (λ (e : Ended). e.answer) (ok_same e (record { answer = second_answer s.next; table = s.table }) made)) ∙ is)

after_first_no_fault : (A : Arithmetic) (n m : ℕ) (stop : Stop) (e : Ended) → Ok e ≡ after_first A n m stop → IsNoFault e
after_first_no_fault A n m stop e h =
    chosen (cond (is_zero (cell stop.table n (n + m))) (and_then (driven_out A m 0 n stop.made stop.left stop.table) (second_phase A n m))
    (Ok (record { answer = Ok ends.NoWeights; table = stop.table }))) (entering_column stop.next) stop.table e (others (is_zero (cell stop.table n (n + m)))) h
  where
    no_end : (e : Ended) → e ≡ record { answer = Ok ends.NoWeights; table = stop.table } → IsNoFault e
    no_end e same wide is = ok_is_no_fault (sym (ap (λ (e : Ended). e.answer) same) ∙ is)
      where
        ok_is_no_fault : (let r : Result End SolveFault = Ok ends.NoWeights in r) ≡ Err (fault.Wide wide) → ⊥
        ok_is_no_fault h = cc

    others : (b : Bool) (e : Ended) → Ok e ≡ cond b (and_then (driven_out A m 0 n stop.made stop.left stop.table) (second_phase A n m))
        (Ok (record { answer = Ok ends.NoWeights; table = stop.table })) → IsNoFault e
    others true e h =
        let (s, driven, made) = and_then_ok (driven_out A m 0 n stop.made stop.left stop.table) (second_phase A n m) e h in
        second_phase_no_fault A n m s e made
    others false e h = no_end e (ok_same e (record { answer = Ok ends.NoWeights; table = stop.table }) h)

replay_no_fault : (A : Arithmetic) (p : Problem) (most : ℕ) (e : Ended) → Ok e ≡ replay A p most → IsNoFault e
replay_no_fault A p most e h =
    let (t, load, run) = and_then_ok (loaded A p) (run_from A (length p.target) (length p.rows) most) e h in
    let (stop, first, after) = and_then_ok (phase A (length p.target) (length p.rows) (length p.target) 0 most t) (after_first A (length p.target)
    (length p.rows)) e run in
    after_first_no_fault A (length p.target) (length p.rows) stop e after

-- ---- so an answer to a problem is not that its pivots were used up
answer_not_limited : (p : Problem) (most : ℕ) → IsUnlimited p most → answer_of (at_width 126) p most ≡ Err errors.PivotLimit → ⊥
answer_not_limited p most few h = by (replay (at_width 126) p most) refl h
  where
    stopped : (answer : Result End SolveFault) (t : Tableau) → Ok (record { answer = answer; table = t }) ≡ replay (at_width 126) p most
        → answer_read (length p.target) (length p.rows) answer t ≡ Err errors.PivotLimit → ⊥
    stopped (Ok «end») t is h = read_unlimited (length p.target) (length p.rows) «end» t (Err errors.PivotLimit) (inr h) refl
    stopped (Err fault.PivotLimit) t is h = answer_unlimited 126 p most (Err fault.PivotLimit) t is few.0 few.1 refl
    stopped (Err (fault.Wide wide)) t is h = replay_no_fault (at_width 126) p most (record { answer = Err (fault.Wide wide); table = t }) is wide refl

    by : (r : Result Ended WideAt) → replay (at_width 126) p most ≡ r
        → and_then (told_as at_cell r) (λ e. answer_read (length p.target) (length p.rows) e.answer e.table) ≡ Err errors.PivotLimit → ⊥
    by (Err wide) is h = cc
    by (Ok e) is h = stopped e.answer e.table (sym is) h

pub solved_not_limited : (task : Task) (sub : Sub) (rows : List Row) (target : List ℤ) (most : ℕ) → HasFewBases (length rows) (length target) most
    → IsNotLimited (solved_for task sub rows target most)
solved_not_limited task sub rows target most few = by (answer_of (at_width 126) p most) refl
  where
    p : Problem
    p = record { rows = rows; target = target }

    by : (r : Result Answer SolveError) → answer_of (at_width 126) (record { rows = rows; target = target }) most ≡ r
        → IsNotLimited (told_as (halt_of task sub) r)
    by (Ok a) is place h = cc
    by (Err errors.Memory) is place h = cc
    by (Err errors.PivotLimit) is place h = answer_not_limited (record { rows = rows; target = target }) most few is
    by (Err (errors.Wide spot)) is place h = cc

-- ---- and nothing else uses pivots
pub next_not_limited : {A B : Type 0} (r : Result A Halt) (next : A → Result B Halt) → IsNotLimited r → ((a : A) → IsNotLimited (next a))
    → IsNotLimited (and_then r next)
next_not_limited (Ok a) next first later place h = later a place h
next_not_limited {A} {B} (Err e) next first later place h = first place (ap Err (err_same e (halt.PivotLimit place) h))

pub value_not_limited : {A : Type 0} (a : A) → IsNotLimited (let r : Result A Halt = Ok a in r)
value_not_limited a place h = cc

pub wide_not_limited : {A : Type 0} (task : Task) (sub : Sub) (spot : Spot) (r : Result A Wide) → IsNotLimited (told_as (wide_in task sub spot) r)
wide_not_limited task sub spot (Ok a) place h = cc
wide_not_limited task sub spot (Err e) place h = cc

memory_not_limited : {A : Type 0} → IsNotLimited (let r : Result A Halt = Err halt.Memory in r)
memory_not_limited place h = cc

breaking_not_limited : (rows : List Row) (row : Row) (task : Task) (sub : Sub) (x : Point) → IsNotLimited (no_of rows row task sub x)
breaking_not_limited rows row task sub x =
    next_not_limited (breaking_checked rows row task sub x) (λ x. Ok (No x))
    (next_not_limited (point_checked rows task sub x) (λ x. told_as (wide_in task sub Check) (and_then (meets_in row x) (λ met. Ok x)))
    (wide_not_limited task sub Check (and_then (tested_in x rows) (λ met. Ok x)))
    (λ x. wide_not_limited task sub Check (and_then (meets_in row x) (λ met. Ok x))))
    (λ x. value_not_limited (No x))

yes_not_limited : (rows : List Row) (row : Row) (task : Task) (w : Weights) → IsNotLimited (yes_of rows row task w)
yes_not_limited rows row task w =
    next_not_limited (weights_checked rows row task Main w) (λ w. Ok (Yes w)) (wide_not_limited task Main Check (and_then (covers_in rows row w)
    (λ shown. Ok w)))
    (λ w. value_not_limited (Yes w))

empty_not_limited : (rows : List Row) (row : Row) (task : Task) (sub : Sub) (w : Weights) → IsNotLimited (empty_of rows row task sub w)
empty_not_limited rows row task sub w =
    next_not_limited (weights_checked rows row task sub w) (λ w. Ok (Empty w)) (wide_not_limited task sub Check (and_then (covers_in rows row w)
    (λ shown. Ok w)))
    (λ w. value_not_limited (Empty w))

base_not_limited : (rows : List Row) (row : Row) (task : Task) (d : List ℤ) (a : Answer) → IsNotLimited (by_base rows row task d a)
base_not_limited rows row task d (Least a) =
    next_not_limited (told_as (wide_in task Base Read) (and_then (point_in a.point) (λ x. away_in row x d))) (no_of rows row task Base)
    (wide_not_limited task Base Read (and_then (point_in a.point) (λ x. away_in row x d))) (breaking_not_limited rows row task Base)
base_not_limited rows row task d (Endless a) = empty_not_limited rows row task Base a.ray
base_not_limited rows row task d (NoWeights none) = memory_not_limited

main_not_limited : (rows : List Row) (row : Row) (most : ℕ) (task : Task) (a : Answer) → HasFewBases (length rows) (length row.c) most
    → IsNotLimited (by_main rows row most task a)
main_not_limited rows row most task (Least a) few =
    next_not_limited (told_as (wide_in task Main Read) (point_above row a)) (λ found. given (yes_of rows row task a.weights) found (no_of rows row task Main))
    (wide_not_limited task Main Read (point_above row a)) by
  where
    by : (found : Option Point) → IsNotLimited (given (yes_of rows row task a.weights) found (no_of rows row task Main))
    by None = yes_not_limited rows row task a.weights
    by (Some x) = breaking_not_limited rows row task Main x
main_not_limited rows row most task (Endless a) few = empty_not_limited rows row task Main a.ray
main_not_limited rows row most task (NoWeights d) few =
    next_not_limited (solved_for task Base rows (replicate (length row.c) (pos 0)) most) (by_base rows row task d)
    (solved_not_limited task Base rows (replicate (length row.c) (pos 0)) most
    (subst (λ n. HasFewBases (length rows) n most) (sym (length-replicate (length row.c) (pos 0))) few)) (base_not_limited rows row task d)

-- the answers of the calls
from_due : {T : Type 0} (due result : Result T Halt) → IsAnswer halt.Memory due result → IsNotLimited due → IsNotLimited result
from_due due (Ok v) answer not place h = cc
from_due due (Err e) (inl free) not place h = wrong (sym free ∙ err_same e (halt.PivotLimit place) h)
  where
    wrong : halt.Memory ≡ halt.PivotLimit place → ⊥
    wrong h = cc
from_due due (Err e) (inr is) not place h = not place (is ∙ h)

pub solved_unlimited : (task : Task) (sub : Sub) (rows : List Row) (target : List ℤ) (most : ℕ) (result : Result Answer Halt)
    → IsAnswer halt.Memory (solved_for task sub rows target most) result → HasFewBases (length rows) (length target) most → IsNotLimited result
solved_unlimited task sub rows target most result answer few =
    from_due (solved_for task sub rows target most) result answer (solved_not_limited task sub rows target most few)

pub implied_not_limited : (rows : List Row) (row : Row) (most : ℕ) (task : Task) → HasFewBases (length rows) (length row.c) most
    → IsNotLimited (implied_of rows row most task)
implied_not_limited rows row most task few =
    next_not_limited (solved_for task Main rows row.c most) (by_main rows row most task) (solved_not_limited task Main rows row.c most few)
    (λ a. main_not_limited rows row most task a few)

pub implied_unlimited : (rows : List Row) (row : Row) (most : ℕ) (task : Task) (result : Result Verdict Halt)
    → IsAnswer halt.Memory (implied_of rows row most task) result
    → HasFewBases (length rows) (length row.c) most → IsNotLimited result
implied_unlimited rows row most task result answer few = from_due (implied_of rows row most task) result answer (implied_not_limited rows row most task few)

pub feasible_not_limited : (n : ℕ) (rows : List Row) (most : ℕ) (task : Task) → HasFewBases (length rows) n most
    → IsNotLimited (feasible_of n rows most task)
feasible_not_limited n rows most task few =
    next_not_limited (solved_for task Base rows (replicate n (pos 0)) most) (feasible_by n rows task)
    (solved_not_limited task Base rows (replicate n (pos 0)) most
    (subst (λ k. HasFewBases (length rows) k most) (sym (length-replicate n (pos 0))) few)) by
  where
    by : (a : Answer) → IsNotLimited (feasible_by n rows task a)
    by (Least a) = next_not_limited (told_as (wide_in task Base Read) (point_in a.point)) (λ x. and_then (point_checked rows task Base x)
        (λ x. Ok (feasible.Point x)))
        (wide_not_limited task Base Read (point_in a.point))
        (λ x. next_not_limited (point_checked rows task Base x) (λ x. Ok (feasible.Point x))
        (wide_not_limited task Base Check (and_then (tested_in x rows) (λ met. Ok x)))
        (λ x. value_not_limited (feasible.Point x)))
    by (Endless a) = next_not_limited (weights_checked rows (impossible n) task Base a.ray) (λ w. Ok (feasible.Empty w))
        (wide_not_limited task Base Check (and_then (covers_in rows (impossible n) a.ray) (λ shown. Ok a.ray))) (λ w. value_not_limited (feasible.Empty w))
    by (NoWeights none) = memory_not_limited

pub feasible_unlimited : (n : ℕ) (rows : List Row) (most : ℕ) (task : Task) (result : Result Feasibility Halt)
    → IsAnswer halt.Memory (feasible_of n rows most task) result → HasFewBases (length rows) n most → IsNotLimited result
feasible_unlimited n rows most task result answer few = from_due (feasible_of n rows most task) result answer (feasible_not_limited n rows most task few)

covered_not_limited : (rows : List Row) (row : Row) (most : ℕ) (task : Task) → HasFewBases (length rows) (length row.c) most
    → IsNotLimited (covered_of rows row most task)
covered_not_limited rows row most task few =
    next_not_limited (solved_for task Main rows row.c most) (covered_by rows row task) (solved_not_limited task Main rows row.c most few) by
  where
    found : (w : Weights) → IsNotLimited (found_of rows row task w)
    found w = next_not_limited (weights_checked rows row task Main w) (λ w. Ok (Some w))
        (wide_not_limited task Main Check (and_then (covers_in rows row w) (λ shown. Ok w)))
        (λ w. value_not_limited (Some w))

    by_order : (w : Weights) (b : Bool) → IsNotLimited (cond b (Ok None) (found_of rows row task w))
    by_order w true = value_not_limited None
    by_order w false = found w

    by : (a : Answer) → IsNotLimited (covered_by rows row task a)
    by (Least a) = next_not_limited (told_as (wide_in task Main Read) (compared_in row a)) (λ order. cond (is_above order) (Ok None)
        (found_of rows row task a.weights))
        (wide_not_limited task Main Read (compared_in row a)) (λ order. by_order a.weights (is_above order))
    by (Endless a) = found a.ray
    by (NoWeights d) = value_not_limited None

pub covered_unlimited : (rows : List Row) (row : Row) (most : ℕ) (task : Task) (result : Result (Option Weights) Halt)
    → IsAnswer halt.Memory (covered_of rows row most task) result → HasFewBases (length rows) (length row.c) most → IsNotLimited result
covered_unlimited rows row most task result answer few =
    from_due (covered_of rows row most task) result answer (covered_not_limited rows row most task few)

-- ---- with fewer rows there are fewer bases
more_choices : (n k d : ℕ) → choices n k ≤ choices (d + n) k
more_choices n k zero = (let same : n ≡ 0 + n = omega arith in subst (λ m. choices n k ≤ choices m k) same (omega arith))
more_choices n k (suc d) =
    let more = more_choices n k d in
    let one = one_thing_more (d + n) k in
    let place : suc (d + n) ≡ suc d + n = omega arith in
    subst (λ m. choices n k ≤ choices m k) place (omega (arith, more, one))
  where
    one_thing_more : (n k : ℕ) → choices n k ≤ choices (suc n) k
    one_thing_more n zero = omega arith
    one_thing_more n (suc k) = omega arith

pub fewer_bases : (fewer rows columns most : ℕ) → fewer ≤ rows → HasFewBases rows columns most → HasFewBases fewer columns most
fewer_bases fewer rows columns most less (small, enough) =
    by (nat_le (choices (fewer + columns) columns) 4096) (nat_le (choices (rows + columns) columns) 4096) refl refl small enough
  where
    up : choices (fewer + columns) columns ≤ choices (rows + columns) columns
    up =
        let place : (rows - fewer) + (fewer + columns) ≡ rows + columns = omega (arith, less) in
        subst (λ m. choices (fewer + columns) columns ≤ choices m columns) place (more_choices (fewer + columns) columns (rows - fewer))

    by : (s t : Bool) → nat_le (choices (fewer + columns) columns) 4096 ≡ s → nat_le (choices (rows + columns) columns) 4096 ≡ t
        → cond t (choices (rows + columns) columns) 4097 ≤ 4096 → cond t (choices (rows + columns) columns) 4097 ≤ most
        → (cond s (choices (fewer + columns) columns) 4097 ≤ 4096) × (cond s (choices (fewer + columns) columns) 4097 ≤ most)
    by s false e f small enough = absurd (omega (arith, small))
    by true true e f small enough = let less = up in (omega (arith, less, small), omega (arith, less, enough))
    by false true e f small enough = let less = up in absurd (grind (arith, less, small, e))

fewer_places : (gone : List ℕ) (i : ℕ) (rows : List Row) → length (without_places gone i rows) ≤ length rows
fewer_places gone i [] = omega arith
fewer_places gone i (r ∷ rows) = by (is_place_of gone i) (fewer_places gone (suc i) rows)
  where
    by : (b : Bool) → length (without_places gone (suc i) rows) ≤ length rows
        → length (cond b (without_places gone (suc i) rows) (r ∷ without_places gone (suc i) rows)) ≤ suc (length rows)
    by true h = omega (arith, h)
    by false h = omega (arith, h)

-- ---- so a thinning is not limited either
filtered_not_limited : (group : Group) (all : List Row) (n most : ℕ) (drops : List Dropped) (i k : ℕ) → All (λ (r : Row). length r.c ≡ n) all
    → i + k ≤ length all → HasFewBases (length all) n most → IsNotLimited (filtered group all most drops i k)
filtered_not_limited group all n most drops i zero columns low few = value_not_limited drops
filtered_not_limited group all n most drops i (suc k) columns low few =
    let here : i < length all = omega (arith, low) in
    let later : suc i + k ≤ length all = omega (arith, low) in
    let rest : List Row = without_places (i ∷ places_of drops) 0 all in
    let long : n ≡ length (row_at all i).c = sym (All-row_at (λ (r : Row). length r.c ≡ n) all i here columns) in
    let some : HasFewBases (length rest) (length (row_at all i).c) most =
    subst (λ m. HasFewBases (length rest) m most) long (fewer_bases (length rest) (length all) n most (fewer_places (i ∷ places_of drops) 0 all) few) in
    next_not_limited (with_row group all most drops i) (λ next. filtered group all most next (suc i) k)
    (next_not_limited (covered_of rest (row_at all i) most (Filter group i)) _ (covered_not_limited rest (row_at all i) most (Filter group i) some)
    (λ found. value_not_limited _))
    (λ next. filtered_not_limited group all n most next (suc i) k columns later few)

pub thinned_unlimited : (n : ℕ) (rows context : List Row) (most : ℕ) (group : Group) (result : Result Thinning Halt)
    → IsAnswer halt.Memory (thinned_of n rows context most group) result
    → CanStart n (cleaned n rows ++ context) → HasFewBases (length rows + length context) n most → IsNotLimited result
thinned_unlimited n rows context most group result answer can few =
    from_due (thinned_of n rows context most group) result answer (by (clean_in n rows) refl)
  where
    fewer : length (cleaned n rows ++ context) ≤ length rows + length context
    fewer = let less = cleaned_fewer n rows in let long = length-append (cleaned n rows) context in omega (arith, less, long)

    inside : 0 + length (cleaned n rows) ≤ length (cleaned n rows ++ context)
    inside = let long = length-append (cleaned n rows) context in omega (arith, long)

    by : (r : Result (List Row) CleanFault) → clean_in n rows ≡ r → IsNotLimited {A = Thinning} (and_then (told_as (clean_halt group) r) (λ kept.
        and_then (filtered group (kept ++ context) most [] 0 (length kept)) (λ drops.
        Ok (record { rows = without_places (places_of drops) 0 kept; drops = drops }))))
    by (Err cleaning.Memory) is = λ place h. cc
    by (Err (cleaning.Wide row)) is = λ place h. cc
    by (Ok kept) is =
        subst (λ (kept : List Row). IsNotLimited {A = Thinning} (and_then (filtered group (kept ++ context) most [] 0 (length kept)) (λ drops.
        Ok (record { rows = without_places (places_of drops) 0 kept; drops = drops })))) (sym (clean_value n rows kept is))
        (next_not_limited (filtered group (cleaned n rows ++ context) most [] 0 (length (cleaned n rows))) _
        (filtered_not_limited group (cleaned n rows ++ context) n most [] 0 (length (cleaned n rows)) can.columns inside
        (fewer_bases (length (cleaned n rows ++ context)) (length rows + length context) n most fewer few))
        (λ drops. value_not_limited _))
