-- What a merge, a test, a refinement, a bound and a hiding tell holds as it is printed, and each refusal is the one that is due, or at a
-- place that the operation has under the limits in force.
use Rattle.std.proofs.Common.{◌≡◌, refl, sym, subst, ap, ◌∙◌, ◌⊎◌, ◌≤◌, ℕ, zero, suc, Bool, true, false, cond, List, ◌++◌, length, inl, inr, All}
use Rattle.std.proofs.Common.{Option, Some, None, Result, Ok, Err, IfOk}
use Rattle.std.specs.Prelude.{IsErrOf, position}
use lib.IntN.{pos}
use lib.Signed.{◌≤ℤ◌}
use Rattle.pa_ring.specs.Sums.{dot}
use Rattle.pa_math.specs.Answers.{IsAnswer, given}
use Rattle.pa_meaning.specs.Rows.{Point}
use Rattle.pa_meaning.specs.Contracts.{Name, Contract, ports}
use Rattle.pa_meaning.specs.Bounds.{Goal}
use Rattle.pa_witness.specs.Steps.{Two}
use Rattle.pa_row.specs.declared.place.Group.TheVariants as group
use Rattle.pa_row.specs.declared.place.Task.{Task}
use Rattle.pa_row.specs.declared.place.Task.TheVariants.{Cover, Filter}
use Rattle.pa_row.specs.declared.place.Task.TheVariants as task
use Rattle.pa_row.specs.declared.place.Sub.{Sub}
use Rattle.pa_row.specs.declared.place.Sub.TheVariants.{Main, Base}
use Rattle.pa_row.specs.declared.place.Spot.{Spot}
use Rattle.pa_row.specs.declared.place.Spot.TheVariants as spot
use Rattle.pa_row.specs.declared.place.Place.{Place}
use Rattle.pa_row.specs.declared.step.Broken.TheVariants.{Assumption, Guarantee}
use Rattle.pa_contract.specs.Merge.{merge_of, merged, first_clash}
use Rattle.pa_contract.specs.Testing.{Tested, tested, words_of, passes_at, sum_place}
use Rattle.pa_contract.specs.WellFormed.{IsWellFormed}
use Rattle.pa_contract.specs.declared.fault.MergeFault.{MergeFault}
use Rattle.pa_contract.specs.declared.fault.MergeFault.TheVariants as merging
use Rattle.pa_contract.specs.declared.fault.TestFault.{TestFault}
use Rattle.pa_contract.specs.declared.fault.TestFault.TheVariants as testing
use Rattle.pa_script.specs.Ops.{IsPointOf, IsGoal}
use Rattle.pa_cert.specs.Tables.{Limits}
use Rattle.pa_cert.specs.Lists.{HiddenAnswer}
use Rattle.pa_cert.specs.declared.answer.LineAnswer.{LineAnswer}
use Rattle.pa_cert.specs.declared.answer.LineAnswer.TheVariants.{Answered as AnsweredBy}
use Rattle.pa_holds.specs.Bounded.{all_rows, goal_row, over_columns, GetsBetter}
use Rattle.pa_holds.specs.Limits.{HasSpot, HasProblem, SolvesAProblem, SpotFits, PlaceFits, PivotsFit, StepRowFits, TaskFits}
use Rattle.pa_holds.specs.Questions.{Question, Merging, Testing, Refining, Bounding, Hiding}
use Rattle.pa_holds.specs.Answers.{HoldsAsPrinted}
use Rattle.pa_holds.specs.Refusals.{first_missing, due_refine, due_bound}
use Rattle.pa_holds.proofs.Merging.{merge_holds, clash_due, many_ports_due, many_rows_due}
use Rattle.pa_holds.proofs.Tested.{test_holds, wide_test_holds, unknown_port_due}
use Rattle.pa_farkas.proofs.Defined.{IsSolved}
use Rattle.pa_farkas.proofs.Thinnings.{IsCleanPlace, IsFilterPlace}
use Rattle.pa_refine.specs.declared.answer.Refined.{Refined}
use Rattle.pa_refine.specs.declared.answer.Refined.TheVariants as refined
use Rattle.pa_refine.specs.declared.answer.Bounded.{Bounded}
use Rattle.pa_refine.specs.declared.answer.Bounded.TheVariants as bounded
use Rattle.pa_refine.specs.declared.fault.RefineFault.{RefineFault}
use Rattle.pa_refine.specs.declared.fault.RefineFault.TheVariants as refining
use Rattle.pa_refine.specs.declared.fault.BoundFault.{BoundFault}
use Rattle.pa_refine.specs.declared.fault.BoundFault.TheVariants as bounding
use Rattle.pa_refine.specs.Meant.{HoldsAsRefined, HoldsAsBounded}
use Rattle.pa_refine.specs.Refining.{refined_of}
use Rattle.pa_refine.specs.Bounding.{bounded_of}
use Rattle.pa_refine.proofs.Defined.{RefineTells, refine_tells, BoundTells, bound_tells}
use Rattle.pa_elim.proofs.Defined.{IsPairsPlace, IsStepRow}
use Rattle.pa_compose.specs.declared.fault.HideFault.{HideFault}
use Rattle.pa_compose.specs.declared.fault.HideFault.TheVariants as hiding
use Rattle.pa_compose.specs.Hiding.{hidden_names, hidden_of}
use Rattle.pa_compose.proofs.Defined.{HideTells, hide_tells}
use Rattle.pa_answers.specs.Answers.{HasColumns, merge_answer, words_answer, test_answer, at_ports, refine_answer, refined_answer, bound_answer, bounded_answer}
use Rattle.pa_answers.specs.Answers.{hide_answer, heading_of}
use Rattle.pa_answers.proofs.Headings.{heading_over, heading_along}

-- the question is answered, and the answer holds as it is printed under the limits in force
abbrev pub HoldsTo : Limits → Question → LineAnswer → Type 0
HoldsTo most question (AnsweredBy answer) = HoldsAsPrinted Two most question answer
HoldsTo most question answer = ⊥

-- ---- want of memory is never computed
never_memory : (clash : Option Name) (wide long : Bool) (n k : ℕ) (m : Contract)
    → given (cond wide (Err (merging.VariableLimit n)) (cond long (Err (merging.Load k)) (Ok m))) clash (λ name. Err (merging.PortClash name))
    ≡ Err merging.Memory → ⊥
never_memory (Some name) wide long n k m h = absurd (cc)
never_memory None true long n k m h = absurd (cc)
never_memory None false true n k m h = absurd (cc)
never_memory None false false n k m h = absurd (cc)

never_memory_words : (row : Option ℕ) (t : Tested) → given (Ok t) row (λ i. Err (testing.Wide (sum_place i))) ≡ Err testing.Memory → ⊥
never_memory_words None t h = absurd (cc)
never_memory_words (Some row) t h = absurd (cc)

-- where each name is a port
pub test_known : (c : Contract) (names : List Name) (x : Point) → first_missing (ports c) names ≡ None
    → test_answer c names x ≡ words_answer (tested c (at_ports c names x))
test_known c names x h = rw h refl

-- where a problem that is solved stops, under the limit of pivots
solved_spot : (most : ℕ) (t : Task) (s : Spot) → SolvesAProblem t → IsSolved most s → HasSpot t s
solved_spot most t spot.Load solves h = absurd h
solved_spot most t (spot.Pivot pivot row column) solves h = solves
solved_spot most t spot.Read solves h = solves
solved_spot most t spot.Check solves h = tt

spot_fits : (most : Limits) (s : Spot) → IsSolved most.pivots s → SpotFits most s
spot_fits most spot.Load h = tt
spot_fits most (spot.Pivot pivot row column) h = h
spot_fits most spot.Read h = tt
spot_fits most spot.Check h = tt

-- a problem stands at each of these two tasks with a base one beside it
cover_problem : (row : ℕ) (s : Sub) → HasProblem (Cover row) s
cover_problem row Main = tt
cover_problem row Base = tt

goal_problem : (s : Sub) → HasProblem task.Goal s
goal_problem Main = tt
goal_problem Base = tt

module _ (most : Limits) where
  -- ---- merges
  module _ (a b : Contract) where
    merge_by : (r : Result Contract MergeFault) → merge_of a b ≡ r → HoldsTo most (Merging a b) (merge_answer r)
    merge_by (Ok m) is = merge_holds a b Two most m is
    merge_by (Err (merging.PortClash name)) is = clash_due a b name is
    merge_by (Err (merging.VariableLimit count)) is = many_ports_due a b count is
    merge_by (Err (merging.Load count)) is = many_rows_due a b count is
    merge_by (Err merging.Memory) is = absurd (never_memory (first_clash a b) _ _ _ _ (merged a b) is)

    pub merge_told : HoldsTo most (Merging a b) (merge_answer (merge_of a b))
    merge_told = merge_by (merge_of a b) refl

  -- ---- tests
  module _ (c : Contract) (names : List Name) (x : Point) (formed : IsWellFormed c) (point : IsPointOf names x) where
    words_by : first_missing (ports c) names ≡ None → (r : Result Tested TestFault) → tested c (at_ports c names x) ≡ r
        → HoldsTo most (Testing c names x) (words_answer r)
    words_by known (Ok t) is = test_holds c names x Two most point.positive t formed known is
    words_by known (Err (testing.Wide place)) is = wide_test_holds c names x Two most (at_ports c names x) place known is
    words_by known (Err testing.Memory) is =
        absurd (never_memory_words (position (passes_at (at_ports c names x)) (c.assumptions ++ c.guarantees))
        (words_of c.assumptions c.guarantees (at_ports c names x)) is)

    test_by : (missing : Option Name) → first_missing (ports c) names ≡ missing → HoldsTo most (Testing c names x) (test_answer c names x)
    test_by (Some name) is = rw is (unknown_port_due c names x name is)
    test_by None is =
        subst (HoldsTo most (Testing c names x)) (sym (test_known c names x is)) (words_by is (tested c (at_ports c names x)) refl)

    pub test_told : HoldsTo most (Testing c names x) (test_answer c names x)
    test_told = test_by (first_missing (ports c) names) refl

  -- ---- a place of a problem
  module _ (question : Question) (p : Place) (t : Task) (is : p.task ≡ t) (fits : TaskFits most question t) (solves : SolvesAProblem t)
      (problem : HasProblem t p.sub) where
    pivots_fit : PivotsFit most question p.task p.sub
    pivots_fit = subst (λ t. PivotsFit most question t p.sub) (sym is) (record { task_fits = fits; solves = solves; problem = problem })

    place_fits : IsSolved most.pivots p.spot → PlaceFits most question p
    place_fits solved = record {
      task = subst (TaskFits most question) (sym is) fits;
      problem = subst (λ t. HasProblem t p.sub) (sym is) problem;
      spot = subst (λ t. HasSpot t p.spot) (sym is) (solved_spot most.pivots t p.spot solves solved);
      pivot = spot_fits most p.spot solved;
    }

  -- ---- refinements
  module _ (a b : Contract) (formed : IsWellFormed a) where
    shown : (r : Refined) → due_refine a b ≡ None → HoldsAsRefined a b r → HoldsTo most (Refining a b) (refined_answer a r)
    shown (refined.Yes assumptions guarantees) none h = (none, h)
    shown (refined.No (Assumption row) x) none h = (none, h)
    shown (refined.No (Guarantee row) x) none h = (none, h)

    refine_by : (r : Result Refined RefineFault) → RefineTells most.pivots a b r → HoldsTo most (Refining a b) (refine_answer a r)
    refine_by (Ok r) (none, h) = shown r none h
    refine_by (Err refining.Memory) h = absurd h
    refine_by (Err refining.PortsDiffer) h = h
    refine_by (Err (refining.Load count)) h = h
    refine_by (Err (refining.PivotLimit p)) (none, (row, low, is)) = (none, pivots_fit (Refining a b) p (Cover row) is low tt (cover_problem row p.sub))
    refine_by (Err (refining.Wide p)) (none, (row, low, is, solved)) =
        (none, place_fits (Refining a b) p (Cover row) is low tt (cover_problem row p.sub) solved)

    pub refine_told : HoldsTo most (Refining a b) (refine_answer a (refined_of a b most.pivots))
    refine_told = refine_by (refined_of a b most.pivots) (refine_tells a b formed most.pivots)

  -- ---- bounds
  module _ (c : Contract) (goal : Goal) (least : Bool) (formed : IsWellFormed c) (up : IsGoal goal) where
    best : (r : Bounded) → due_bound c goal.names ≡ None → HoldsAsBounded c goal least r → HoldsTo most (Bounding c goal least) (bounded_answer c r)
    best (bounded.Value num den w x) none h = (none, h)
    best (bounded.Unbounded x d) none h =
        let over : over_columns (ports c) (heading_of (ports c) d) ≡ d = heading_over (ports c) d formed.distinct h.columns in (
          none,
          (
            record {
              at = h.at;
              met = h.met;
              level = subst (λ ds. All (λ r. dot r.c ds ≤ℤ pos 0) (all_rows c)) (sym over) h.level;
              better = subst (GetsBetter least (goal_row c goal)) (sym over) h.better;
            },
            heading_along (ports c) d formed.distinct h.columns,
          ),
        )
    best (bounded.Nothing w) none h = (none, h)

    bound_by : (r : Result Bounded BoundFault) → BoundTells most.pivots c goal least r → HoldsTo most (Bounding c goal least) (bound_answer c r)
    bound_by (Ok r) (none, h) = best r none h
    bound_by (Err bounding.Memory) h = absurd h
    bound_by (Err (bounding.UnknownPort name)) h = h
    bound_by (Err (bounding.Load count)) h = h
    bound_by (Err (bounding.PivotLimit p)) (none, is) = (none, pivots_fit (Bounding c goal least) p task.Goal is tt tt (goal_problem p.sub))
    bound_by (Err (bounding.Wide p)) (none, is, solved) =
        (none, place_fits (Bounding c goal least) p task.Goal is tt tt (goal_problem p.sub) solved)

    pub bound_told : HoldsTo most (Bounding c goal least) (bound_answer c (bounded_of c goal least most.pivots))
    bound_told = bound_by (bounded_of c goal least most.pivots) (bound_tells c goal least formed up.positive most.pivots)

  -- ---- hidings
  module _ (c : Contract) (names : List Name) (formed : IsWellFormed c) (small : most.rows ≤ 4096) where
    abbrev gone : ℕ
    gone = length (hidden_names c names)

    -- the row fits, in a clean, a filter and a sum of a step
    row_fits : (step row : ℕ) → IsStepRow most.rows (length c.guarantees) gone step row → StepRowFits most gone (length c.guarantees) step row
    row_fits zero row h = h
    row_fits (suc step) row h = h

    pairs_fit : (step row : ℕ) → IsStepRow most.rows (length c.guarantees) gone step row → (p : Place) → IsPairsPlace step row p
        → PlaceFits most (Hiding c names) p
    pairs_fit zero row fits p is = absurd is
    pairs_fit (suc step) row fits p is =
        subst (PlaceFits most (Hiding c names)) (sym is) (record { task = fits; problem = tt; spot = tt; pivot = tt })

    step_problem : (step row : ℕ) (s : Sub) → s ≡ Main → HasProblem (Filter (group.Step step) row) s
    step_problem step row s main = subst (HasProblem (Filter (group.Step step) row)) (sym main) tt

    hide_place : (p : Place) (step row : ℕ) → IsStepRow most.rows (length c.guarantees) gone step row
        → IsCleanPlace (group.Step step) row p ⊎ IsFilterPlace most.pivots (group.Step step) row p ⊎ IsPairsPlace step row p
        → PlaceFits most (Hiding c names) p
    hide_place p step row fits (inl is) =
        subst (PlaceFits most (Hiding c names)) (sym is) (record { task = row_fits step row fits; problem = tt; spot = tt; pivot = tt })
    hide_place p step row fits (inr (inl (is, main, solved))) =
        place_fits (Hiding c names) p (Filter (group.Step step) row) is (row_fits step row fits) tt (step_problem step row p.sub main) solved
    hide_place p step row fits (inr (inr is)) = pairs_fit step row fits p is

    hide_by : (r : Result HiddenAnswer HideFault) → HideTells most.rows most.pivots c names r → HoldsTo most (Hiding c names) (hide_answer r)
    hide_by (Ok a) (none, h) = (none, h)
    hide_by (Err hiding.Memory) h = absurd h
    hide_by (Err (hiding.NotOutput name)) h = h
    hide_by (Err (hiding.Load count)) h = h
    hide_by (Err (hiding.RowLimit step count)) (none, h) = (none, h)
    hide_by (Err (hiding.PivotLimit p)) (none, (step, row, fits, is, main)) =
        (none, pivots_fit (Hiding c names) p (Filter (group.Step step) row) is (row_fits step row fits) tt (step_problem step row p.sub main))
    hide_by (Err (hiding.Wide p)) (none, (step, row, fits, at)) = (none, hide_place p step row fits at)

    pub hide_told : HoldsTo most (Hiding c names) (hide_answer (hidden_of c names most.rows most.pivots))
    hide_told = hide_by (hidden_of c names most.rows most.pivots) (hide_tells most.rows most.pivots c names small formed)

-- ---- of a call's result
-- the answer that is due, where it is settled
due_is : {A F : Type 0} (memory : F) (due r : Result A F) → IsAnswer memory due r → ¬ IsErrOf r memory → due ≡ r
due_is memory due (Ok a) h settled = h
due_is memory due (Err e) (inl is) settled = absurd (settled (ap Err is))
due_is memory due (Err e) (inr is) settled = is

pub refine_answered : {E : Type 0} (a b : Contract) (most : ℕ) (r : Result Refined RefineFault) → IsAnswer refining.Memory (refined_of a b most) r
    → (t : Result LineAnswer E) → IfOk t (λ x. x ≡ refine_answer a r) → IfOk t (λ _. ¬ IsErrOf r refining.Memory)
    → IfOk t (λ x. x ≡ refine_answer a (refined_of a b most))
refine_answered a b most r h (Ok x) is settled = is ∙ ap (refine_answer a) (sym (due_is refining.Memory (refined_of a b most) r h settled))
refine_answered a b most r h (Err e) is settled = tt

pub bound_answered : {E : Type 0} (c : Contract) (goal : Goal) (least : Bool) (most : ℕ) (r : Result Bounded BoundFault)
    → IsAnswer bounding.Memory (bounded_of c goal least most) r → (t : Result LineAnswer E) → IfOk t (λ x. x ≡ bound_answer c r)
    → IfOk t (λ _. ¬ IsErrOf r bounding.Memory) → IfOk t (λ x. x ≡ bound_answer c (bounded_of c goal least most))
bound_answered c goal least most r h (Ok x) is settled =
    is ∙ ap (bound_answer c) (sym (due_is bounding.Memory (bounded_of c goal least most) r h settled))
bound_answered c goal least most r h (Err e) is settled = tt

-- a direction has a number for each port, as what is printed does
pub bound_columns : (c : Contract) (goal : Goal) (least : Bool) (r : Result Bounded BoundFault) → IfOk r (HoldsAsBounded c goal least)
    → IfOk r (HasColumns (length (ports c)))
bound_columns c goal least (Ok (bounded.Value num den w x)) h = tt
bound_columns c goal least (Ok (bounded.Unbounded x d)) h = h.columns
bound_columns c goal least (Ok (bounded.Nothing w)) h = tt
bound_columns c goal least (Err e) h = tt

pub hide_answered : {E : Type 0} (c : Contract) (names : List Name) (rows pivots : ℕ) (r : Result HiddenAnswer HideFault)
    → IsAnswer hiding.Memory (hidden_of c names rows pivots) r → (t : Result LineAnswer E) → IfOk t (λ x. x ≡ hide_answer r)
    → IfOk t (λ _. ¬ IsErrOf r hiding.Memory) → IfOk t (λ x. x ≡ hide_answer (hidden_of c names rows pivots))
hide_answered c names rows pivots r h (Ok x) is settled = is ∙ ap hide_answer (sym (due_is hiding.Memory (hidden_of c names rows pivots) r h settled))
hide_answered c names rows pivots r h (Err e) is settled = tt
