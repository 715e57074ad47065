-- What holds as printed is true: every answer.
use Rattle.std.proofs.Common.{◌≡◌, sym, ap, subst, None}
use Rattle.std.specs.List.{IsDistinct}
use Rattle.std.specs.Str.{bytes_eq}
use Rattle.pa_ring.specs.Choices.{SameElements}
use Rattle.pa_meaning.specs.Contracts.{Contract, ports, behaviour_of}
use Rattle.pa_meaning.specs.Refinement.{BreaksAssumption, BreaksGuarantee}
use Rattle.pa_meaning.specs.Composition.{is_among}
use Rattle.pa_meaning.proofs.Moves.{found}
use Rattle.pa_holds.specs.Refined.{IsAt}
use Rattle.pa_witness.specs.Steps.{Version}
use Rattle.pa_cert.specs.Lists.{Located}
use Rattle.pa_cert.specs.Tables.{Limits}
use Rattle.pa_cert.specs.declared.answer.Answer.{Answer}
use Rattle.pa_cert.specs.declared.answer.Answer.TheVariants.{Merged, TestedAs, Yes, NoAssumption, NoGuarantee, Value, Unbounded, Nothing}
use Rattle.pa_cert.specs.declared.answer.Answer.TheVariants.{Hidden, Composed, Divided, Refused, NoMultipliers, NoMultipliersFor, Circle}
use Rattle.pa_cert.specs.declared.answer.Answer.TheVariants.{RowLimit, PivotLimit, TooWide}
use Rattle.pa_holds.specs.Questions.{Question, Merging, Testing, Refining, Bounding, Hiding, Composing, Dividing}
use Rattle.pa_holds.specs.Answers.{due, GivesEach, IsMergeResult, IsTrue, IsTrueAnswer, Holds, HoldsAsPrinted, IsWellAsked}
use Rattle.pa_holds.specs.Refusals.{due_refine}
use Rattle.pa_holds.proofs.Refusals.{same_names, refine_same, bound_among, compose_distinct, quotient_clear, merge_clear, merge_computed}
use Rattle.pa_contract.proofs.Meets.{merged_is_merge}
use Rattle.pa_holds.proofs.Tested.{tested_is_true}
use Rattle.pa_holds.proofs.Refined.{refining_is_true, breaking_assumption_is_true, breaking_guarantee_is_true}
use Rattle.pa_holds.proofs.Bounded.{value_is_true, unbounded_is_true, nothing_is_true}
use Rattle.pa_holds.proofs.Composed.{composed_is_true, hidden_is_true}
use Rattle.pa_holds.proofs.Divided.{divided_is_true}

-- the contracts of a refinement have the same ports where no refusal is due
same_inputs : (c other : Contract) → due_refine c other ≡ None → SameElements c.inputs other.inputs
same_inputs c other h = same_names c.inputs other.inputs (found c.inputs) (found other.inputs) (refine_same c other h).0

same_outputs : (c other : Contract) → due_refine c other ≡ None → SameElements c.outputs other.outputs
same_outputs c other h = same_names c.outputs other.outputs (found c.outputs) (found other.outputs) (refine_same c other h).1

-- a point that names the ports in their order gives each a value
abbrev gives_each : (c : Contract) (p : Located) → IsDistinct bytes_eq (ports c) → IsAt (ports c) p → GivesEach c p
gives_each c p d at = record {
  distinct = subst (IsDistinct bytes_eq) (sym at.names) d;
  ports = λ n. ap (λ ns. is_among ns n) at.names;
  numbers = at.numbers;
  positive = at.positive;
}

-- Where no refusal by name is due, an answer that holds is true.
holds_is_true : (v : Version) (most : Limits) (question : Question) (answer : Answer) → IsWellAsked question → due question ≡ None
    → Holds v most question answer → IsTrue question answer
holds_is_true v most question (PivotLimit task part) w n h = (most, h)
holds_is_true v most question (TooWide place) w n h = (most, h)
holds_is_true v most (Merging c other) (Merged m) w n h = subst (IsMergeResult c other) (sym h)
    (record { computed = merge_computed c other n; meaning = merged_is_merge c other w.0 w.1 (merge_clear c other n) })
holds_is_true v most (Testing c names x) (TestedAs t) w n h = (h.0, tested_is_true c (behaviour_of names x h.0) t h.1)
holds_is_true v most (Refining c other) (Yes assumptions guarantees) w n h =
    refining_is_true c other w.0 w.1 (same_inputs c other n) (same_outputs c other n) assumptions guarantees h
holds_is_true v most (Refining c other) (NoAssumption row p) w n h = (
  gives_each c p w.0 h.at,
  subst (λ ns. BreaksAssumption c other row (behaviour_of ns p.at h.at.positive)) (sym h.at.names)
      (breaking_assumption_is_true c other w.0 w.1 (same_inputs c other n) (same_outputs c other n) row p h),
)
holds_is_true v most (Refining c other) (NoGuarantee row p) w n h = (
  gives_each c p w.0 h.at,
  subst (λ ns. BreaksGuarantee c other row (behaviour_of ns p.at h.at.positive)) (sym h.at.names)
      (breaking_guarantee_is_true c other w.0 w.1 (same_inputs c other n) (same_outputs c other n) row p h),
)
holds_is_true v most (Bounding c goal least) (Value num den ws p) w n h = value_is_true c goal w.0 w.1 (bound_among c goal.names n) least num den ws p h
holds_is_true v most (Bounding c goal least) (Unbounded p d) w n h = unbounded_is_true c goal w.0 w.1 (bound_among c goal.names n) least p d h.0
holds_is_true v most (Bounding c goal least) (Nothing ws) w n h = nothing_is_true c goal w.0 w.1 (bound_among c goal.names n) ws h
holds_is_true v most (Hiding c names) (Hidden a) w n h = hidden_is_true v most.rows c names a w h
holds_is_true v most (Hiding c names) (RowLimit step count) w n h = (most.rows, h)
holds_is_true v most (Composing parts keep) (RowLimit step count) w n h = (most.rows, h)
holds_is_true v most (Composing parts keep) (Composed a) w n h = composed_is_true v most.rows parts keep a w (compose_distinct parts keep n) h
holds_is_true v most (Composing parts keep) (NoMultipliers s) w n h = h.0
holds_is_true v most (Composing parts keep) (Circle ss) w n h = h.0
holds_is_true v most (Dividing whole part) (Divided a) w n h = divided_is_true whole part w.0 w.1 (quotient_clear whole part n) a h
holds_is_true v most (Dividing whole part) (NoMultipliersFor row d) w n h = h.0
holds_is_true v most question answer w n h = absurd h

-- An answer that holds as it is printed is true.
pub printed_is_true : (v : Version) (most : Limits) (question : Question) (answer : Answer) → IsWellAsked question → HoldsAsPrinted v most question answer
    → IsTrueAnswer question answer
printed_is_true v most question (Refused r) w h = h
printed_is_true v most question answer w h = (h.0, holds_is_true v most question answer w h.0 h.1)
