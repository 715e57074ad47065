-- Where a problem has no more bases than the limit of pivots, neither a refinement nor a bound uses the pivots up.
use Rattle.std.proofs.Common.{◌≡◌, inl, inr, refl, sym, ap, ◌∙◌, subst, ℕ, zero, suc, ◌+◌, ◌≤◌, List, [], ◌∷◌, length, take, All, arith}
use Rattle.std.proofs.Common.{Bool, Result, Ok, Err}
use Rattle.std.proofs.lemmas.List.{length-append, length-map}
use Rattle.std.proofs.lemmas.List.Elements.{All-head, All-tail}
use lib.IntN.{ℤ}
use Rattle.pa_math.specs.Answers.{IsAnswer, and_then, told_as}
use Rattle.pa_meaning.specs.Rows.{Row}
use Rattle.pa_meaning.specs.Weights.{Weights, impossible}
use Rattle.pa_meaning.specs.Contracts.{Contract, ports, coefficient_at, over_names}
use Rattle.pa_meaning.specs.Composition.{assumptions_over}
use Rattle.pa_meaning.specs.Bounds.{Goal}
use Rattle.pa_row.specs.declared.place.Place.{Place}
use Rattle.pa_row.specs.declared.place.Halt.{Halt}
use Rattle.pa_row.specs.declared.place.Halt.TheVariants as halt
use Rattle.pa_row.specs.declared.place.Task.TheVariants.{Cover}
use Rattle.pa_row.specs.declared.place.Task.TheVariants as task
use Rattle.pa_row.specs.declared.place.Sub.TheVariants.{Main, Base}
use Rattle.pa_row.specs.declared.place.Spot.TheVariants.{Read, Check}
use Rattle.pa_replay.specs.Readings.{LeastRead}
use Rattle.pa_bland.specs.declared.answer.Answer.{Answer}
use Rattle.pa_bland.specs.declared.answer.Answer.TheVariants.{Least, NoWeights, Endless}
use Rattle.pa_tableau.specs.Arithmetic.{each}
use Rattle.pa_contract.specs.WellFormed.{IsWellFormed}
use Rattle.pa_contract.specs.Merge.{row_count}
use Rattle.pa_check.specs.Proofs.{proof_in}
use Rattle.pa_check.specs.Directions.{improves_in}
use Rattle.pa_holds.specs.Bounded.{all_rows, goal_row}
use Rattle.pa_farkas.specs.FewBases.{HasFewBases, IsNotLimited}
use Rattle.pa_farkas.specs.Answered.{feasible_of, implied_of, solved_for, wide_in}
use Rattle.pa_farkas.specs.declared.implication.Verdict.{Verdict}
use Rattle.pa_farkas.specs.declared.implication.Verdict.TheVariants as verdict
use Rattle.pa_farkas.specs.declared.base.Feasibility.{Feasibility}
use Rattle.pa_farkas.specs.declared.base.Feasibility.TheVariants as feasible
use Rattle.pa_farkas.proofs.Unlimited.{feasible_not_limited, fewer_bases, implied_not_limited, next_not_limited, solved_not_limited, value_not_limited}
use Rattle.pa_farkas.proofs.Unlimited.{wide_not_limited}
use Rattle.pa_refine.specs.declared.answer.Refined.{Refined}
use Rattle.pa_refine.specs.declared.answer.Bounded.{Bounded}
use Rattle.pa_refine.specs.declared.answer.Bounded.TheVariants as best
use Rattle.pa_refine.specs.declared.covering.Stop.{Stop}
use Rattle.pa_refine.specs.declared.covering.Stop.TheVariants.{Broken, Halted}
use Rattle.pa_refine.specs.declared.fault.RefineFault.{RefineFault}
use Rattle.pa_refine.specs.declared.fault.RefineFault.TheVariants as refining
use Rattle.pa_refine.specs.declared.fault.BoundFault.{BoundFault}
use Rattle.pa_refine.specs.declared.fault.BoundFault.TheVariants as bounding
use Rattle.pa_refine.specs.Refining as refine
use Rattle.pa_refine.specs.Bounding as bound
use Rattle.pa_refine.specs.Seen.{HaveColumns}
use Rattle.pa_refine.proofs.Over.{are_over}
use Rattle.pa_refine.proofs.Values.{target_length}

err_same : {A E : Type 0} (x y : E) → (let r : Result A E = Err x in r) ≡ Err y → x ≡ y
err_same x y h = cc

-- steps one after another do not have this refusal
no_refusal : {A B E : Type 0} (e : E) (r : Result A E) (next : A → Result B E) → (r ≡ Err e → ⊥) → ((a : A) → next a ≡ Err e → ⊥)
    → and_then r next ≡ Err e → ⊥
no_refusal e (Ok a) next h k is = k a is
no_refusal {A} {B} e (Err f) next h k is = h (ap Err (err_same {A = B} f e is))

-- ---- rows that are covered one after another
abbrev IsNoLimit : Stop → Type 0
IsNoLimit s = (place : Place) → s ≡ Halted (halt.PivotLimit place) → ⊥

verdict_unlimited : (row : ℕ) (r : Result Verdict Halt) → IsNotLimited r → (place : Place)
    → refine.by_verdict row r ≡ Err (Halted (halt.PivotLimit place)) → ⊥
verdict_unlimited row (Ok (verdict.Yes w)) not place h = cc
verdict_unlimited row (Ok (verdict.Empty w)) not place h = cc
verdict_unlimited row (Ok (verdict.No x)) not place h = cc
verdict_unlimited row (Err e) not place h = not place (ap Err (halted_same e (halt.PivotLimit place) h))
  where
    halted_same : (a b : Halt) → (let r : Result Weights Stop = Err (Halted a) in r) ≡ Err (Halted b) → a ≡ b
    halted_same a b h = cc

module _ (premises : List Row) (n most first : ℕ) (few : HasFewBases (length premises) n most) (place : Place) where
  abbrev limit : Stop
  limit = Halted (halt.PivotLimit place)

  each_unlimited : (i : ℕ) (rows : List Row) → All (λ (r : Row). length r.c ≡ n) rows
      → each (λ place row. refine.proof_of premises most (first + place) place row) i rows ≡ Err limit → ⊥
  each_unlimited i [] columns h = cc
  each_unlimited i (row ∷ rows) columns h =
      let long : n ≡ length row.c = sym (All-head (λ (r : Row). length r.c ≡ n) row rows columns) in
      let some : HasFewBases (length premises) (length row.c) most = subst (λ k. HasFewBases (length premises) k most) long few in
      no_refusal limit (refine.proof_of premises most (first + i) i row) _
      (verdict_unlimited i (implied_of premises row most (Cover (first + i))) (implied_not_limited premises row most (Cover (first + i)) some) place)
      (λ w. no_refusal limit (each (λ place row. refine.proof_of premises most (first + place) place row) (suc i) rows) (λ ws. Ok (w ∷ ws))
      (each_unlimited (suc i) rows (All-tail (λ (r : Row). length r.c ≡ n) row rows columns)) (λ ws h. absurd (cc))) h

-- ---- a refinement
front_fewer : (k : ℕ) (rows : List Row) → length (take k rows) ≤ length rows
front_fewer zero rows = omega arith
front_fewer (suc k) [] = omega arith
front_fewer (suc k) (r ∷ rows) = let less = front_fewer k rows in omega (arith, less)

module _ (place : Place) where
  settled_unlimited : (stopped : Stop → Result Refined RefineFault) (r : Result (List Weights) Stop) (next : List Weights → Result Refined RefineFault)
      → (r ≡ Err (Halted (halt.PivotLimit place)) → ⊥)
      → ((s : Stop) → (s ≡ Halted (halt.PivotLimit place) → ⊥) → stopped s ≡ Err (refining.PivotLimit place) → ⊥)
      → ((ws : List Weights) → next ws ≡ Err (refining.PivotLimit place) → ⊥)
      → refine.settled stopped r next ≡ Err (refining.PivotLimit place) → ⊥
  settled_unlimited stopped (Ok ws) next h k l is = l ws is
  settled_unlimited stopped (Err s) next h k l is = k s (λ same. h (ap Err same)) is

  fault_unlimited : (h : Halt) → (Halted h ≡ Halted (halt.PivotLimit place) → ⊥)
      → (let r : Result Refined RefineFault = Err (refine.refine_fault h) in r) ≡ Err (refining.PivotLimit place) → ⊥
  fault_unlimited halt.Memory not is = cc
  fault_unlimited (halt.PivotLimit p) not is = not (ap (λ p. Halted (halt.PivotLimit p)) (place_same p is))
    where
      place_same : (p : Place) → (let r : Result Refined RefineFault = Err (refining.PivotLimit p) in r) ≡ Err (refining.PivotLimit place) → p ≡ place
      place_same p is = cc
  fault_unlimited (halt.Wide p) not is = cc

  assumption_unlimited : (s : Stop) → (s ≡ Halted (halt.PivotLimit place) → ⊥) → refine.no_assumption s ≡ Err (refining.PivotLimit place) → ⊥
  assumption_unlimited (Broken row x) not is = cc
  assumption_unlimited (Halted h) not is = fault_unlimited h not is

  guarantee_unlimited : (s : Stop) → (s ≡ Halted (halt.PivotLimit place) → ⊥) → refine.no_guarantee s ≡ Err (refining.PivotLimit place) → ⊥
  guarantee_unlimited (Broken row x) not is = cc
  guarantee_unlimited (Halted h) not is = fault_unlimited h not is

  module _ (lists : refine.Lists) (n most : ℕ) (c : HaveColumns n lists) (few : HasFewBases (length lists.premises) n most) where
    abbrev first : List Row
    first = take lists.assumed lists.premises

    first_few : HasFewBases (length first) n most
    first_few = fewer_bases (length first) (length lists.premises) n most (front_fewer lists.assumed lists.premises) few

    covering_unlimited : refine.covering_of lists most ≡ Err (refining.PivotLimit place) → ⊥
    covering_unlimited =
        settled_unlimited refine.no_assumption (refine.proofs_of first most 0 lists.assumptions) _
        (each_unlimited first n most 0 first_few place 0 lists.assumptions c.assumptions) assumption_unlimited
        (λ ws. settled_unlimited refine.no_guarantee (refine.proofs_of lists.premises most (length lists.assumptions) lists.guarantees) _
        (each_unlimited lists.premises n most (length lists.assumptions) few place 0 lists.guarantees c.guarantees) guarantee_unlimited
        (λ vs h. absurd (cc)))

pub refined_unlimited : (a b : Contract) (most : ℕ) (result : Result Refined RefineFault) → IsWellFormed a → row_count a + row_count b ≤ 4096
    → IsAnswer refining.Memory (refine.covering_of (refine.lists_of a b) most) result
    → HasFewBases (row_count a + row_count b) (length (ports a)) most → (place : Place) → result ≡ Err (refining.PivotLimit place) → ⊥
refined_unlimited a b most (Ok r) formed low answer few place h = cc
refined_unlimited a b most (Err e) formed low (inl free) few place h = wrong (sym free ∙ err_same {A = Refined} e (refining.PivotLimit place) h)
  where
    wrong : refining.Memory ≡ refining.PivotLimit place → ⊥
    wrong h = cc
refined_unlimited a b most (Err e) formed low (inr is) few place h =
    covering_unlimited place (refine.lists_of a b) (length (ports a)) most (are_over a b formed low)
    (fewer_bases (length (refine.lists_of a b).premises) (row_count a + row_count b) (length (ports a)) most less few) (is ∙ h)
  where
    less : length (refine.lists_of a b).premises ≤ row_count a + row_count b
    less = let long = length-append (assumptions_over (ports a) b) a.guarantees in let moved = length-map b.assumptions (over_names b.inputs (ports a)) in
        omega (arith, long, moved)

-- ---- a bound
module _ (asked : bound.Asked) (most : ℕ) (few : HasFewBases (length asked.rows) (length asked.goals) most) where
  least_unlimited : (a : LeastRead) → IsNotLimited (bound.by_least asked a)
  least_unlimited a =
      next_not_limited (told_as (wide_in task.Goal Main Read) (bound.value_read asked a)) _
      (wide_not_limited task.Goal Main Read (bound.value_read asked a))
      (λ read. next_not_limited (told_as (wide_in task.Goal Main Check) (bound.value_tested asked read.0.0 read.0.1 a.weights read.1)) _
      (wide_not_limited task.Goal Main Check (bound.value_tested asked read.0.0 read.0.1 a.weights read.1))
      (λ shown. value_not_limited (best.Value read.0.0 read.0.1 a.weights read.1)))

  feasibility_unlimited : (d : List ℤ) (f : Feasibility) → IsNotLimited (bound.by_feasibility asked d f)
  feasibility_unlimited d (feasible.Point x) =
      next_not_limited (told_as (wide_in task.Goal Base Check) (improves_in asked.least d asked.rows asked.goals)) (λ shown. Ok (best.Unbounded x d))
      (wide_not_limited task.Goal Base Check (improves_in asked.least d asked.rows asked.goals)) (λ shown. value_not_limited (best.Unbounded x d))
  feasibility_unlimited d (feasible.Empty w) = value_not_limited (best.Nothing w)

  answer_unlimited : (a : Answer) → IsNotLimited (bound.by_answer asked most a)
  answer_unlimited (Least a) = least_unlimited a
  answer_unlimited (Endless a) =
      next_not_limited (told_as (wide_in task.Goal Main Check) (proof_in asked.rows (impossible (length asked.goals)) a.ray)) (λ shown. Ok (best.Nothing a.ray))
      (wide_not_limited task.Goal Main Check (proof_in asked.rows (impossible (length asked.goals)) a.ray)) (λ shown. value_not_limited (best.Nothing a.ray))
  answer_unlimited (NoWeights d) =
      next_not_limited (feasible_of (length asked.goals) asked.rows most task.Goal) (bound.by_feasibility asked d)
      (feasible_not_limited (length asked.goals) asked.rows most task.Goal few) (feasibility_unlimited d)

  best_unlimited : IsNotLimited (bound.best_of asked most)
  best_unlimited =
      next_not_limited (solved_for task.Goal Main asked.rows (bound.target_of asked.least asked.goals) most) (bound.by_answer asked most)
      (solved_not_limited task.Goal Main asked.rows (bound.target_of asked.least asked.goals) most
      (subst (λ n. HasFewBases (length asked.rows) n most) (sym (target_length asked.least asked.goals)) few)) answer_unlimited

fault_not_limited : (r : Result Bounded Halt) → IsNotLimited r → (place : Place) → told_as bound.bound_fault r ≡ Err (bounding.PivotLimit place) → ⊥
fault_not_limited (Ok b) not place h = cc
fault_not_limited (Err halt.Memory) not place h = cc
fault_not_limited (Err (halt.PivotLimit p)) not place h = not p refl
fault_not_limited (Err (halt.Wide p)) not place h = cc

pub bounded_unlimited : (c : Contract) (goal : Goal) (least : Bool) (most : ℕ) (result : Result Bounded BoundFault)
    → IsAnswer bounding.Memory (bound.bounded_rows c goal least most) result
    → HasFewBases (row_count c) (length (ports c)) most → (place : Place) → result ≡ Err (bounding.PivotLimit place) → ⊥
bounded_unlimited c goal least most (Ok r) answer few place h = cc
bounded_unlimited c goal least most (Err e) (inl free) few place h = wrong (sym free ∙ err_same {A = Bounded} e (bounding.PivotLimit place) h)
  where
    wrong : bounding.Memory ≡ bounding.PivotLimit place → ⊥
    wrong h = cc
bounded_unlimited c goal least most (Err e) (inr is) few place h =
    fault_not_limited (bound.best_of (bound.asked_of c goal least) most) (best_unlimited (bound.asked_of c goal least) most some) place (is ∙ h)
  where
    rows_are : row_count c ≡ length (all_rows c)
    rows_are = let long = length-append (assumptions_over (ports c) c) c.guarantees in let moved = length-map c.assumptions (over_names c.inputs (ports c)) in
        omega (arith, long, moved)

    some : HasFewBases (length (all_rows c)) (length (goal_row c goal)) most
    some = subst (λ m. HasFewBases m (length (goal_row c goal)) most) rows_are
        (subst (λ n. HasFewBases (row_count c) n most) (sym (length-map (ports c) (coefficient_at goal.names goal.c))) few)
