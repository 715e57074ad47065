-- What a composition tells holds as it is printed: its directions are told by the names of the outputs, and nothing of them is lost.
use Rattle.std.proofs.Common.{◌≡◌, refl, sym, subst, ap, ap₂, ◌∙◌, ◌+◌, ◌-◌, ◌<◌, ◌≤◌, ℕ, zero, suc, ℤ, List, [], ◌∷◌, ◌++◌, length, map}
use Rattle.std.proofs.Common.{append_assoc, drop, drop-drop, length-append, length-drop, arith, None, Result, Ok, Err, IfOk, IfErr, inl, inr, All}
use Rattle.std.specs.Prelude.{IsErrOf}
use Rattle.std.specs.List.{IsDistinct}
use Rattle.std.specs.Str.{bytes_eq}
use Rattle.std.proofs.lemmas.List.Elements.{All-cons, All-head, All-nil, All-tail}
use Rattle.pa_math.specs.Answers.{IsAnswer}
use Rattle.pa_meaning.specs.Contracts.{Name, Contract}
use Rattle.pa_meaning.specs.Composition.{all_outputs, part_at, IsCircle, IsStuckForGood}
use Rattle.pa_meaning.specs.Directions.{Stuck}
use Rattle.pa_contract.specs.Nominal.{Nominal, IsNominal}
use Rattle.pa_contract.specs.WellFormed.{IsWellFormed}
use Rattle.pa_cert.specs.Lists.{ComposedAnswer, Heading, StuckRow}
use Rattle.pa_cert.specs.Tables.{Limits}
use Rattle.pa_cert.specs.declared.answer.LineAnswer.{LineAnswer}
use Rattle.pa_holds.specs.Answers.{IsAlong, stuck_over}
use Rattle.pa_holds.specs.Questions.{Composing}
use Rattle.pa_holds.specs.Refusals.{due_compose}
use Rattle.pa_holds.proofs.Refusals.{compose_distinct}
use Rattle.pa_discharge.specs.Meant.{HasNumbers}
use Rattle.pa_compose.specs.declared.compose_fault.ComposeFault.{ComposeFault}
use Rattle.pa_compose.specs.declared.compose_fault.ComposeFault.TheVariants as composing
use Rattle.pa_compose.specs.Composing.{composed_of}
use Rattle.pa_compose.proofs.ComposeDefined.{ComposeTells, compose_tells}
use Rattle.pa_answers.specs.Answers.{compose_answer, stuck_row, stuck_rows, with_numbers}
use Rattle.pa_answers.proofs.Headings.{heading_over, heading_along, with_both}
use Rattle.pa_answers.proofs.Questions.{HoldsTo}

-- ---- one turn of the loop over the parts
-- from this place on there is this part, and then the others
part_next : (parts : List Contract) (i : ℕ) → i < length parts → drop i parts ≡ part_at parts i ∷ drop (i + 1) parts
part_next [] i low = absurd (omega (arith, low))
part_next (p ∷ parts) zero low = refl
part_next (p ∷ parts) (suc i) low =
    let next : suc (i + 1) ≡ suc i + 1 = omega arith in
    part_next parts i (omega (arith, low)) ∙ ap (λ k. part_at parts i ∷ drop k (p ∷ parts)) next

module _ (parts : List Contract) (i : ℕ) (p : Contract) (first : ℕ) (numbers : List ℤ) (low : i < length parts) (is : p ≡ part_at parts i) where
  outputs_next : all_outputs (drop i parts) ≡ p.outputs ++ all_outputs (drop (i + 1) parts)
  outputs_next = ap all_outputs (part_next parts i low) ∙ ap (λ (q : Contract). q.outputs ++ all_outputs (drop (i + 1) parts)) (sym is)

  count_next : length (all_outputs (drop i parts)) ≡ length p.outputs + length (all_outputs (drop (i + 1) parts))
  count_next = ap length outputs_next ∙ length-append p.outputs (all_outputs (drop (i + 1) parts))

  pub outputs_within : first + length (all_outputs (drop i parts)) ≤ length numbers → first + length p.outputs ≤ length numbers
  outputs_within within = omega (arith, count_next, within)

  pub heading_more : (count : ℕ) (h now all : Heading) → length p.outputs ≡ count → now ≡ with_numbers h p.outputs (drop first numbers)
      → with_numbers h (all_outputs (drop i parts)) (drop first numbers) ≡ all → first + length (all_outputs (drop i parts)) ≤ length numbers
      → (with_numbers now (all_outputs (drop (i + 1) parts)) (drop (first + count) numbers) ≡ all)
      × (first + count + length (all_outputs (drop (i + 1) parts)) ≤ length numbers)
  heading_more count h now all many one so_far within = (
    ap₂ (λ g ds. with_numbers g (all_outputs (drop (i + 1) parts)) ds) one
        (ap (λ k. drop (first + k) numbers) (sym many) ∙ sym (drop-drop (length p.outputs) first numbers))
        ∙ with_both h p.outputs (all_outputs (drop (i + 1) parts)) (drop first numbers)
        (let left : length (drop first numbers) ≡ length numbers - first = length-drop first numbers in omega (arith, left, count_next, within))
        ∙ ap (λ names. with_numbers h names (drop first numbers)) (sym outputs_next) ∙ so_far,
    omega (arith, count_next, within, many),
  )

-- ---- one turn of the loop over stuck rows
pub rows_more : (parts : List Contract) (s : Stuck) (left rest : List Stuck) (done now all : List StuckRow) → now ≡ done ++ stuck_row parts s ∷ []
    → left ≡ s ∷ rest → done ++ stuck_rows parts left ≡ all → now ++ stuck_rows parts rest ≡ all
rows_more parts s left rest done now all one is so_far =
    ap (λ xs. xs ++ stuck_rows parts rest) one ∙ append_assoc done (stuck_row parts s ∷ []) (stuck_rows parts rest)
    ∙ sym (ap (λ xs. done ++ stuck_rows parts xs) is) ∙ so_far

-- ---- directions
module _ (parts : List Contract) (apart : IsDistinct bytes_eq (all_outputs parts)) where
  row_over : (s : Stuck) → HasNumbers parts s → stuck_over parts (stuck_row parts s) ≡ s
  row_over s numbers = ap (λ d. record { part = s.part; row = s.row; direction = d }) (heading_over (all_outputs parts) s.direction apart numbers)

  row_along : (s : Stuck) → HasNumbers parts s → IsAlong (all_outputs parts) (stuck_row parts s).direction
  row_along s numbers = heading_along (all_outputs parts) s.direction apart numbers

  rows_over : (ss : List Stuck) → All (HasNumbers parts) ss → map (stuck_over parts) (stuck_rows parts ss) ≡ ss
  rows_over [] h = refl
  rows_over (s ∷ ss) h = ap₂ ◌∷◌ (row_over s (All-head (HasNumbers parts) s ss h)) (rows_over ss (All-tail (HasNumbers parts) s ss h))

  rows_along : (ss : List Stuck) → All (HasNumbers parts) ss → All (λ (s : StuckRow). IsAlong (all_outputs parts) s.direction) (stuck_rows parts ss)
  rows_along [] h = All-nil (λ (s : StuckRow). IsAlong (all_outputs parts) s.direction)
  rows_along (s ∷ ss) h =
      All-cons (λ (s : StuckRow). IsAlong (all_outputs parts) s.direction) (stuck_row parts s) (stuck_rows parts ss)
      (row_along s (All-head (HasNumbers parts) s ss h)) (rows_along ss (All-tail (HasNumbers parts) s ss h))

-- ---- what is told
module _ (most : Limits) (parts : List Contract) (keep : List Name) (nominal : Nominal) where
  compose_by : (r : Result ComposedAnswer ComposeFault) → ComposeTells most parts keep nominal r → HoldsTo most (Composing parts keep) (compose_answer parts r)
  compose_by (Ok a) h = (h.0, h.1)
  compose_by (Err composing.Memory) h = absurd h
  compose_by (Err (composing.PortClash name)) h = h
  compose_by (Err (composing.NotOutput name)) h = h
  compose_by (Err (composing.VariableLimit count)) h = h
  compose_by (Err (composing.Load count)) h = h
  compose_by (Err (composing.NoMultipliers s)) (none, h) =
      let apart = compose_distinct parts keep none in
      (none, (subst (IsStuckForGood parts) (sym (row_over parts apart s h.numbers)) h.stuck, row_along parts apart s h.numbers))
  compose_by (Err (composing.Circle ss)) (none, h) =
      let apart = compose_distinct parts keep none in
      (none, (subst (IsCircle parts) (sym (rows_over parts apart ss h.numbers)) h.circle, rows_along parts apart ss h.numbers))
  compose_by (Err (composing.RowLimit step count)) h = h
  compose_by (Err (composing.PivotLimit p)) h = h
  compose_by (Err (composing.Wide p)) h = h

  pub compose_told : most.rows ≤ 4096 → All IsWellFormed parts → IsNominal nominal
      → HoldsTo most (Composing parts keep) (compose_answer parts (composed_of parts keep nominal most.rows most.pivots))
  compose_told small formed fractions =
      compose_by (composed_of parts keep nominal most.rows most.pivots) (compose_tells most parts keep nominal small formed fractions)

-- ---- of a call's result
-- the answer that is due, where it is settled
pub compose_answered : {E : Type 0} (parts : List Contract) (due r : Result ComposedAnswer ComposeFault) → IsAnswer composing.Memory due r
    → (t : Result LineAnswer E) → IfOk t (λ x. x ≡ compose_answer parts r) → IfOk t (λ _. ¬ IsErrOf r composing.Memory)
    → IfOk t (λ x. x ≡ compose_answer parts due)
compose_answered parts due (Ok a) h (Ok x) is settled = is ∙ ap (compose_answer parts) (sym h)
compose_answered parts due (Err f) (inl free) (Ok x) is settled = absurd (settled (ap Err free))
compose_answered parts due (Err f) (inr same) (Ok x) is settled = is ∙ ap (compose_answer parts) (sym same)
compose_answered parts due r h (Err e) is settled = tt
