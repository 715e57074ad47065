-- What is shown of rows over the ports means what it is to mean of the contracts.
use Rattle.std.proofs.Common.{◌≡◌, ◌∙◌, ap, sym, refl, subst, ◌+◌, ◌<◌, ◌≤◌, List, [], ◌∷◌, ◌++◌, length, take, None, Bool, All, IfOk, Result}
use Rattle.std.specs.Str.{bytes_eq}
use Rattle.std.proofs.lemmas.List.{length-map}
use lib.IntN.{ℤ, pos}
use lib.Signed.{◌≤ℤ◌}
use Rattle.pa_ring.specs.Choices.{SameElements}
use Rattle.pa_ring.specs.Sums.{dot}
use Rattle.pa_math.specs.Lists.{AreAmong}
use Rattle.pa_meaning.specs.Rows.{Row, Point, row_at}
use Rattle.pa_meaning.specs.Weights.{Proves, impossible}
use Rattle.pa_meaning.specs.Contracts.{Contract, ports, over_names, coefficient_at}
use Rattle.pa_meaning.specs.Composition.{assumptions_over, guarantees_over}
use Rattle.pa_meaning.specs.Bounds.{Goal}
use Rattle.pa_meaning.proofs.Directions.{at_row}
use Rattle.pa_meaning.proofs.Moves.{found, own_numbers}
use Rattle.pa_row.specs.declared.step.Broken.TheVariants.{Assumption, Guarantee}
use Rattle.pa_contract.specs.WellFormed.{IsWellFormed}
use Rattle.pa_contract.specs.Merge.{row_count}
use Rattle.pa_script.specs.Ops.{IsGoal}
use Rattle.pa_cert.specs.Lists.{Heading}
use Rattle.pa_farkas.specs.Alternatives.{BreaksAt, IsMetAt}
use Rattle.pa_holds.specs.Refined.{IsAt, ProveEach}
use Rattle.pa_holds.specs.Bounded.{all_rows, goal_row, over_columns, GetsBetter}
use Rattle.pa_holds.specs.Refusals.{due_refine, first_missing}
use Rattle.pa_holds.proofs.Refusals.{none_missing, same_names, refine_same}
use Rattle.pa_contract.proofs.Steps.{IfOk-implied}
use Rattle.pa_refine.specs.declared.fault.BoundFault.{BoundFault}
use Rattle.pa_refine.specs.declared.fault.RefineFault.{RefineFault}
use Rattle.pa_holds.proofs.Refined.{refining_is_true, breaking_assumption_is_true, breaking_guarantee_is_true}
use Rattle.pa_holds.proofs.Bounded.{value_is_true, unbounded_is_true, nothing_is_true}
use Rattle.pa_refine.specs.declared.answer.Refined.{Refined}
use Rattle.pa_refine.specs.declared.answer.Refined.TheVariants.{Yes, No}
use Rattle.pa_refine.specs.declared.answer.Bounded.{Bounded}
use Rattle.pa_refine.specs.declared.answer.Bounded.TheVariants.{Value, Unbounded, Nothing}
use Rattle.pa_refine.specs.Refining.{lists_of}
use Rattle.pa_refine.specs.Bounding.{asked_of}
use Rattle.pa_refine.specs.Meant.{at_ports, HoldsAsBounded, HoldsAsRefined, IsTrueOfBounding, IsTrueOfRefining}
use Rattle.pa_refine.specs.Seen.{IsBest, IsCovering}
use Rattle.pa_refine.proofs.Over.{are_over}

-- ---- refinement
front : {A : Type 0} (xs ys : List A) → take (length xs) (xs ++ ys) ≡ xs
front [] ys = refl
front (x ∷ xs) ys = ap (λ zs. x ∷ zs) (front xs ys)

-- the first premises are the other's assumptions
assumed_are : (c other : Contract) → take (length other.assumptions) (assumptions_over (ports c) other ++ c.guarantees) ≡ assumptions_over (ports c) other
assumed_are c other =
    ap (λ n. take n (assumptions_over (ports c) other ++ c.guarantees)) (sym (length-map other.assumptions (over_names other.inputs (ports c))))
    ∙ front (assumptions_over (ports c) other) c.guarantees

-- a point that breaks a row over the ports names the ports
at_row_of : (c : Contract) (premises : List Row) (row : Row) (x : Point) → length row.c ≡ length (ports c) → BreaksAt premises row x
    → IsAt (ports c) (at_ports c x)
at_row_of c premises row x long b = record { names = refl; numbers = b.met.columns ∙ long; positive = b.met.positive }

pub refined_holds : (c other : Contract) → IsWellFormed c → row_count c + row_count other ≤ 4096 → (a : Refined) → IsCovering (lists_of c other) a
    → HoldsAsRefined c other a
refined_holds c other w few (Yes assumptions guarantees) h = record {
  assumptions = subst (λ rows. ProveEach rows (assumptions_over (ports c) c) assumptions) (assumed_are c other) h.0;
  guarantees = h.1;
}
refined_holds c other w few (No (Assumption row) x) h =
    let over = are_over c other w few in
    let b : BreaksAt (assumptions_over (ports c) other) (row_at (assumptions_over (ports c) c) row) x =
    subst (λ rows. BreaksAt rows (row_at (assumptions_over (ports c) c) row) x) (assumed_are c other) h.1 in
    record {
      place = subst (λ n. row < n) (length-map c.assumptions (over_names c.inputs (ports c))) h.0;
      at = at_row_of c (assumptions_over (ports c) other) (row_at (assumptions_over (ports c) c) row) x
          (at_row (λ (r : Row). length r.c ≡ length (ports c)) (assumptions_over (ports c) c) row h.0 over.assumptions) b;
      met = b.met.meets;
      broken = b.broken;
    }
refined_holds c other w few (No (Guarantee row) x) h =
    let over = are_over c other w few in
    record {
      place = subst (λ n. row < n) (length-map other.guarantees (over_names (ports other) (ports c))) h.0;
      at = at_row_of c (assumptions_over (ports c) other ++ c.guarantees) (row_at (guarantees_over (ports c) other) row) x
          (at_row (λ (r : Row). length r.c ≡ length (ports c)) (guarantees_over (ports c) other) row h.0 over.guarantees) h.1;
      met = h.1.met.meets;
      broken = h.1.broken;
    }

pub refined_true : (c other : Contract) → IsWellFormed c → IsWellFormed other → due_refine c other ≡ None → (a : Refined) → HoldsAsRefined c other a
    → IsTrueOfRefining c other a
refined_true c other w v n a = by a
  where
    inputs : SameElements c.inputs other.inputs
    inputs = same_names c.inputs other.inputs (found c.inputs) (found other.inputs) (refine_same c other n).0

    outputs : SameElements c.outputs other.outputs
    outputs = same_names c.outputs other.outputs (found c.outputs) (found other.outputs) (refine_same c other n).1

    by : (a : Refined) → HoldsAsRefined c other a → IsTrueOfRefining c other a
    by (Yes assumptions guarantees) h = refining_is_true c other w.distinct v.distinct inputs outputs assumptions guarantees h
    by (No (Assumption row) x) h =
        (h.at.positive, breaking_assumption_is_true c other w.distinct v.distinct inputs outputs row (at_ports c x) h)
    by (No (Guarantee row) x) h =
        (h.at.positive, breaking_guarantee_is_true c other w.distinct v.distinct inputs outputs row (at_ports c x) h)

pub refined_printed : (c other : Contract) (result : Result Refined RefineFault) → IsWellFormed c → row_count c + row_count other ≤ 4096
    → IfOk result (IsCovering (lists_of c other)) → IfOk result (HoldsAsRefined c other)
refined_printed c other result w few h =
    IfOk-implied (IsCovering (lists_of c other)) (HoldsAsRefined c other) result (refined_holds c other w few) h

pub refined_truth : (c other : Contract) (result : Result Refined RefineFault) → IsWellFormed c → IsWellFormed other → due_refine c other ≡ None
    → row_count c + row_count other ≤ 4096 → IfOk result (IsCovering (lists_of c other)) → IfOk result (IsTrueOfRefining c other)
refined_truth c other result w v none few h =
    IfOk-implied (HoldsAsRefined c other) (IsTrueOfRefining c other) result (refined_true c other w v none) (refined_printed c other result w few h)

-- ---- bounds
goal_long : (c : Contract) (goal : Goal) → length (goal_row c goal) ≡ length (ports c)
goal_long c goal = length-map (ports c) (coefficient_at goal.names goal.c)

-- a point that meets rows over the ports names the ports
at_met : (c : Contract) (goal : Goal) (x : Point) → IsMetAt (length (goal_row c goal)) (all_rows c) x → IsAt (ports c) (at_ports c x)
at_met c goal x m = record { names = refl; numbers = m.columns ∙ goal_long c goal; positive = m.positive }

pub bounded_holds : (c : Contract) (goal : Goal) (least : Bool) (a : Bounded) → IsBest (asked_of c goal least) a → HoldsAsBounded c goal least a
bounded_holds c goal least (Value num den w x) h = record {
  positive = h.positive;
  weights = h.weights;
  at = at_met c goal x h.met;
  met = h.met.meets;
  value = h.value;
}
bounded_holds c goal least (Unbounded x d) h = record {
  at = at_met c goal x h.met;
  met = h.met.meets;
  columns = h.columns ∙ goal_long c goal;
  level = h.improves.level;
  better = h.improves.better;
}
bounded_holds c goal least (Nothing w) h = record { shown = subst (λ n. Proves w (all_rows c) (impossible n)) (goal_long c goal) h.proves }

-- the direction with the ports' names
abbrev along : Contract → List ℤ → Heading
along c d = record { names = ports c; numbers = d }

pub bounded_true : (c : Contract) (goal : Goal) (least : Bool) → IsWellFormed c → IsGoal goal → AreAmong bytes_eq goal.names (ports c) → (a : Bounded)
    → HoldsAsBounded c goal least a → IsTrueOfBounding c goal least a
bounded_true c goal least w g among (Value num den weights x) h = value_is_true c goal w.distinct g among least num den weights (at_ports c x) h
bounded_true c goal least w g among (Unbounded x d) h = unbounded_is_true c goal w.distinct g among least (at_ports c x) (along c d) (record {
  at = h.at;
  met = h.met;
  level = subst (λ ds. All (λ r. dot r.c ds ≤ℤ pos 0) (all_rows c)) (sym same) h.level;
  better = subst (GetsBetter least (goal_row c goal)) (sym same) h.better;
})
  where
    same : over_columns (ports c) (along c d) ≡ d
    same = own_numbers (ports c) d w.distinct h.columns
bounded_true c goal least w g among (Nothing weights) h = nothing_is_true c goal w.distinct g among weights h

pub bounded_printed : (c : Contract) (goal : Goal) (least : Bool) (result : Result Bounded BoundFault) → IfOk result (IsBest (asked_of c goal least))
    → IfOk result (HoldsAsBounded c goal least)
bounded_printed c goal least result h =
    IfOk-implied (IsBest (asked_of c goal least)) (HoldsAsBounded c goal least) result (bounded_holds c goal least) h

pub bounded_truth : (c : Contract) (goal : Goal) (least : Bool) (result : Result Bounded BoundFault) → IsWellFormed c → IsGoal goal
    → first_missing (ports c) goal.names ≡ None → IfOk result (IsBest (asked_of c goal least)) → IfOk result (IsTrueOfBounding c goal least)
bounded_truth c goal least result w g known h =
    IfOk-implied (HoldsAsBounded c goal least) (IsTrueOfBounding c goal least) result
    (bounded_true c goal least w g (none_missing (ports c) goal.names known)) (bounded_printed c goal least result h)
