-- What the definition of a quotient answers is true of the whole and the part, also where no call has computed it: the answer holds as it is printed, and
-- each refusal is the one that is due, or at a task of the quotient.
use Rattle.std.proofs.Common.{◌≡◌, refl, sym, ap, subst, ◌∙◌, ℕ, ◌+◌, ◌≤◌, Bool, true, false, cond, nat_lt, List, [], ◌∷◌, ◌++◌, length, All}
use Rattle.std.proofs.Common.{Option, Some, None, option_map, Result, Ok, Err, arith, length-append}
use Rattle.std.proofs.lemmas.List.Elements.{All-append, All-cons, All-nil}
use Rattle.std.specs.Str.{bytes_eq}
use Rattle.pa_math.specs.Answers.{and_then, given, told_as}
use Rattle.pa_math.specs.Lists.{AreApart}
use Rattle.pa_math.proofs.Answers.{ok_same}
use Rattle.pa_meaning.specs.Rows.{Row}
use Rattle.pa_meaning.specs.Weights.{Weights}
use Rattle.pa_meaning.specs.Contracts.{Name, Contract}
use Rattle.pa_meaning.specs.Composition.{assumptions_over, guarantees_over}
use Rattle.pa_meaning.specs.Quotient.{quotient_outputs, quotient_ports, quotient_names}
use Rattle.pa_witness.specs.Shifts.{shifted_rows}
use Rattle.pa_witness.specs.Thinning.{ThinningHolds, thinned}
use Rattle.pa_witness.specs.Steps.{Two}
use Rattle.pa_witness.proofs.Widths.{shifted_rows_columns}
use Rattle.pa_names.specs.Names.{most_ports}
use Rattle.pa_contract.specs.Merge.{row_count, most_rows}
use Rattle.pa_contract.specs.Nominal.{Nominal, IsNominal}
use Rattle.pa_contract.specs.WellFormed.{IsWellFormed}
use Rattle.pa_row.specs.declared.place.Group.TheVariants.{Thin}
use Rattle.pa_row.specs.declared.place.Halt.{Halt}
use Rattle.pa_farkas.specs.Alternatives.{IsThinning, Thinning}
use Rattle.pa_farkas.specs.Answered.{thinned_of}
use Rattle.pa_farkas.proofs.Defined.{Holds}
use Rattle.pa_farkas.proofs.Thinnings.{IsThinFault, thinned_is}
use Rattle.pa_cert.specs.Tables.{Limits}
use Rattle.pa_cert.specs.Lists.{DividedAnswer}
use Rattle.pa_cert.specs.declared.answer.Answer.TheVariants.{Divided}
use Rattle.pa_cert.specs.declared.refusal.NameRefusal.TheVariants.{PortClash, Variables, Rows}
use Rattle.pa_holds.specs.Questions.{Dividing}
use Rattle.pa_holds.specs.Divided.{asked_rows, HoldsAsDivided}
use Rattle.pa_holds.specs.Limits.{PlaceFits, PivotsFit}
use Rattle.pa_holds.specs.Refusals.{or_due, first_shared, due_quotient}
use Rattle.pa_holds.proofs.Refusals.{none_shared, quotient_clear, quotient_names_few, quotient_rows}
use Rattle.pa_holds.proofs.WellFormed.{printed_is_well_formed}
use Rattle.pa_parts.proofs.Rows.{assumptions_long, assumptions_count, guarantees_long, guarantees_count}
use Rattle.pa_trial.specs.Lefts.{Lefts}
use Rattle.pa_quotient.specs.declared.fault.QuotientFault.{QuotientFault}
use Rattle.pa_quotient.specs.declared.fault.QuotientFault.TheVariants as fault
use Rattle.pa_quotient.specs.Dividing.{answer_with, asked_with, contract_with, divided_of, divided_with, halted, lefts_of, thinned_with}
use Rattle.pa_quotient.specs.Meant.{AreExactAtNominal, IsFirstStuck}
use Rattle.pa_quotient.specs.Seen.{AreLeft}
use Rattle.pa_quotient.proofs.TaskPlaces.{IsTaskFault, thin_faults}
use Rattle.pa_quotient.proofs.Lefts.{IsLeft, lefts_hold}

-- What an answer tells, under limits of rows and of pivots: which refusal is due, and what holds of what is answered.
abbrev pub QuotientTells : Limits → Contract → Contract → Nominal → Result DividedAnswer QuotientFault → Type 0
QuotientTells most whole part nominal (Ok a) =
    (due_quotient whole part ≡ None) × HoldsAsDivided whole part a × AreExactAtNominal whole part nominal a.shifts
QuotientTells most whole part nominal (Err fault.Memory) = ⊥
QuotientTells most whole part nominal (Err (fault.PortClash name)) = due_quotient whole part ≡ Some (PortClash name)
QuotientTells most whole part nominal (Err (fault.VariableLimit count)) = due_quotient whole part ≡ Some (Variables count)
QuotientTells most whole part nominal (Err (fault.Load count)) = due_quotient whole part ≡ Some (Rows count)
QuotientTells most whole part nominal (Err (fault.NoMultipliers row d)) = (due_quotient whole part ≡ None) × IsFirstStuck whole part row d
QuotientTells most whole part nominal (Err (fault.PivotLimit p)) =
    (due_quotient whole part ≡ None) × PivotsFit most (Dividing whole part) p.task p.sub
QuotientTells most whole part nominal (Err (fault.Wide p)) = (due_quotient whole part ≡ None) × PlaceFits most (Dividing whole part) p

-- ---- what is left
shifted_count : (n : ℕ) (rows ts : List Row) (ws : List Weights) → length (shifted_rows n rows ts ws) ≤ length ts
shifted_count n rows [] ws = omega arith
shifted_count n rows (t ∷ ts) [] = omega arith
shifted_count n rows (t ∷ ts) (w ∷ ws) = let rest = shifted_count n rows ts ws in omega arith

module _ (whole part : Contract) (nominal : Nominal) where
  pub left_fits : (l : Lefts) → IsLeft whole part nominal l → AreLeft whole part l.rows
  left_fits l h =
      let n : ℕ = length (quotient_ports whole part) in
      let names : List Name = quotient_names whole part in
      let given : List Row = guarantees_over names part in
      let terms : List Row = guarantees_over names whole in
      let both = length-append (quotient_ports whole part) part.outputs in
      let fewer = shifted_count n given terms l.weights in
      let count = guarantees_count names whole in
      record {
        columns = subst (All (λ (r : Row). length r.c ≡ n)) (sym h.rows_are)
            (shifted_rows_columns n (length names) given terms l.weights (omega (arith, both)) (guarantees_long names part) (guarantees_long names whole));
        fewer = subst (λ (rows : List Row). length rows ≤ length whole.guarantees) (sym h.rows_are) (omega (arith, fewer, count));
      }

  -- what is answered holds as it is printed
  pub divided_printed : (l : Lefts) → IsLeft whole part nominal l → (t : Thinning)
      → IsThinning (length (quotient_ports whole part)) (asked_with whole part l.rows) (assumptions_over (quotient_ports whole part) whole) t
      → HoldsAsDivided whole part (answer_with whole (quotient_outputs whole part) l.weights t)
  divided_printed l h t thin =
      let n : ℕ = length (quotient_ports whole part) in
      let same : asked_with whole part l.rows ≡ asked_rows whole part l.weights =
      ap (λ (rows : List Row). assumptions_over (quotient_ports whole part) part ++ rows) h.rows_are in
      record {
        shifts = h.shifts;
        thin = subst (λ (rows : List Row). ThinningHolds n rows (assumptions_over (quotient_ports whole part) whole) t.drops) same thin.holds;
        contract = ap (contract_with whole (quotient_outputs whole part)) (thin.rows_are ∙ ap (λ (rows : List Row). thinned n rows t.drops) same);
        narrow = refl;
      }

-- ---- the thinning
module _ (most : Limits) (whole part : Contract) (short : length (quotient_names whole part) ≤ 128) (few : row_count whole + row_count part ≤ 4096) where
  abbrev IsThin : List Row → Thinning → Type 0
  IsThin left t =
      IsThinning (length (quotient_ports whole part)) (asked_with whole part left) (assumptions_over (quotient_ports whole part) whole) t

  told_thin : (n : ℕ) (left : List Row) (r : Result Thinning Halt) → n ≤ length part.assumptions + length whole.guarantees
      → Holds (IsThin left) (IsThinFault most.pivots Thin n) r → Holds (IsThin left) (IsTaskFault most whole part) (told_as halted r)
  told_thin n left (Ok t) less h = record { ok = h.ok; err = tt }
  told_thin n left (Err e) less h = record { ok = tt; err = thin_faults most whole part n e less h.err }

  pub thins : (left : List Row) → AreLeft whole part left → Holds (IsThin left) (IsTaskFault most whole part) (thinned_with whole part most.pivots left)
  thins left are =
      let at_ports : List Name = quotient_ports whole part in
      let n : ℕ = length at_ports in
      let both = length-append (quotient_ports whole part) part.outputs in
      let all = length-append (assumptions_over at_ports part) left in
      let mine = assumptions_count at_ports part in
      let context = assumptions_count at_ports whole in
      let fewer = are.fewer in
      told_thin (length (asked_with whole part left)) left
      (thinned_of n (asked_with whole part left) (assumptions_over at_ports whole) most.pivots Thin) (omega (arith, all, mine, fewer))
      (thinned_is n (asked_with whole part left) (assumptions_over at_ports whole)
      (All-append (λ (r : Row). length r.c ≡ n) (assumptions_over at_ports part) left (assumptions_long at_ports part) are.columns)
      (assumptions_long at_ports whole) (omega (arith, all, mine, context, fewer, few)) (omega (arith, both, short)) most.pivots Thin)

-- ---- the answer
module _ (most : Limits) (whole part : Contract) (nominal : Nominal) (whole_formed : IsWellFormed whole)
    (part_formed : IsWellFormed part) (is : IsNominal nominal) where
  abbrev Tells : Result DividedAnswer QuotientFault → Type 0
  Tells r = QuotientTells most whole part nominal r

  fault_tells : due_quotient whole part ≡ None → (f : QuotientFault) → IsTaskFault most whole part f → Tells (Err f)
  fault_tells none fault.Memory h = h
  fault_tells none (fault.PortClash name) h = absurd h
  fault_tells none (fault.VariableLimit count) h = absurd h
  fault_tells none (fault.Load count) h = absurd h
  fault_tells none (fault.NoMultipliers row d) h = (none, h)
  fault_tells none (fault.PivotLimit p) h = (none, h)
  fault_tells none (fault.Wide p) h = (none, h)

  thinned_tells : due_quotient whole part ≡ None → (l : Lefts) → IsLeft whole part nominal l → (r : Result Thinning QuotientFault)
      → Holds (λ t. IsThinning (length (quotient_ports whole part)) (asked_with whole part l.rows) (assumptions_over (quotient_ports whole part) whole) t)
      (IsTaskFault most whole part) r
      → Tells (and_then r (λ t. Ok (answer_with whole (quotient_outputs whole part) l.weights t)))
  thinned_tells none l left (Ok t) h = (none, divided_printed whole part nominal l left t h.ok, left.exact)
  thinned_tells none l left (Err f) h = fault_tells none f h.err

  lefts_tell : due_quotient whole part ≡ None → length (quotient_names whole part) ≤ 128 → row_count whole + row_count part ≤ 4096
      → (r : Result Lefts QuotientFault) → Holds (IsLeft whole part nominal) (IsTaskFault most whole part) r
      → Tells (and_then r (λ l. and_then (thinned_with whole part most.pivots l.rows) (λ t.
      Ok (answer_with whole (quotient_outputs whole part) l.weights t))))
  lefts_tell none short few (Ok l) h =
      thinned_tells none l h.ok (thinned_with whole part most.pivots l.rows) (thins most whole part short few l.rows (left_fits whole part nominal l h.ok))
  lefts_tell none short few (Err f) h = fault_tells none f h.err

  by_tests : (shared : Option Name) (wide long : Bool) → first_shared whole.inputs part.outputs ≡ shared
      → nat_lt most_ports (length (quotient_names whole part)) ≡ wide → nat_lt most_rows (row_count whole + row_count part) ≡ long
      → due_quotient whole part ≡ or_due (option_map PortClash shared)
      (or_due (cond wide (Some (Variables (length (quotient_names whole part)))) None) (cond long (Some (Rows (row_count whole + row_count part))) None))
      → Tells (given (cond wide (Err (fault.VariableLimit (length (quotient_names whole part))))
      (cond long (Err (fault.Load (row_count whole + row_count part))) (divided_with whole part nominal most.pivots)))
      shared (λ name. Err (fault.PortClash name)))
  by_tests (Some name) wide long clash names rows due = due
  by_tests None true long clash names rows due = due
  by_tests None false true clash names rows due = due
  by_tests None false false clash names rows due =
      let clear : AreApart bytes_eq whole.inputs part.outputs = none_shared whole.inputs part.outputs clash in
      let short : length (quotient_names whole part) ≤ 128 = grind (arith) in
      let few : row_count whole + row_count part ≤ 4096 = grind (arith) in
      lefts_tell due short few (lefts_of whole part nominal most.pivots)
      (lefts_hold most whole part nominal whole_formed part_formed clear short few is)

  -- What the definition answers is true of the two contracts.
  pub quotient_tells : Tells (divided_of whole part nominal most.pivots)
  quotient_tells =
      by_tests (first_shared whole.inputs part.outputs) (nat_lt most_ports (length (quotient_names whole part)))
      (nat_lt most_rows (row_count whole + row_count part)) refl refl refl refl

-- ---- what is found
module _ (whole part : Contract) (nominal : Nominal) (most : ℕ) (whole_formed : IsWellFormed whole) (part_formed : IsWellFormed part)
    (none : due_quotient whole part ≡ None) (is : IsNominal nominal) where
  -- the limit of rows is not asked for
  abbrev limits : Limits
  limits = record { rows = 0; pivots = most }

  of_ok : {A : Type 0} (P : A → Type 0) (Q : QuotientFault → Type 0) (r : Result A QuotientFault) (a : A) → r ≡ Ok a → Holds P Q r → P a
  of_ok P Q (Ok b) a e h = subst P (ok_same b a e) h.ok
  of_ok P Q (Err f) a e h = absurd (cc)

  short : length (quotient_names whole part) ≤ 128
  short = quotient_names_few whole part none

  few : row_count whole + row_count part ≤ 4096
  few = quotient_rows whole part none

  left_at : (l : Lefts) → lefts_of whole part nominal most ≡ Ok l → IsLeft whole part nominal l
  left_at l e = of_ok (IsLeft whole part nominal) (IsTaskFault limits whole part) (lefts_of whole part nominal most) l e
      (lefts_hold limits whole part nominal whole_formed part_formed (quotient_clear whole part none) short few is)

  -- the rows that are left are over the quotient's ports, and few
  pub left_found : (l : Lefts) → lefts_of whole part nominal most ≡ Ok l → AreLeft whole part l.rows
  left_found l e = left_fits whole part nominal l (left_at l e)

  -- and with the thinned rows the quotient is a contract
  pub formed_found : (l : Lefts) (t : Thinning) → lefts_of whole part nominal most ≡ Ok l → thinned_with whole part most l.rows ≡ Ok t
      → IsWellFormed (contract_with whole (quotient_outputs whole part) t.rows)
  formed_found l t e f =
      let left = left_at l e in
      let thin = of_ok (IsThin limits whole part short few l.rows) (IsTaskFault limits whole part) (thinned_with whole part most l.rows) t f
      (thins limits whole part short few l.rows (left_fits whole part nominal l left)) in
      let a : DividedAnswer = answer_with whole (quotient_outputs whole part) l.weights t in
      printed_is_well_formed Two limits (Dividing whole part) (Divided a) a.contract (omega (arith))
      (All-cons IsWellFormed whole (part ∷ []) whole_formed (All-cons IsWellFormed part [] part_formed (All-nil IsWellFormed)))
      (none, divided_printed whole part nominal l left t thin) refl

-- where no test refuses, no refusal is due
pub none_due : (whole part : Contract) → first_shared whole.inputs part.outputs ≡ None → length (quotient_names whole part) ≤ 128
    → row_count whole + row_count part ≤ 4096 → due_quotient whole part ≡ None
none_due whole part clash short few =
    by (first_shared whole.inputs part.outputs) (nat_lt most_ports (length (quotient_names whole part))) (nat_lt most_rows (row_count whole + row_count part))
    clash (grind (arith)) (grind (arith))
  where
    by : (shared : Option Name) (wide long : Bool) → shared ≡ None → wide ≡ false → long ≡ false → or_due (option_map PortClash shared)
        (or_due (cond wide (Some (Variables (length (quotient_names whole part)))) None) (cond long (Some (Rows (row_count whole + row_count part))) None))
        ≡ None
    by None false false s w l = refl
    by None false true s w l = absurd (cc)
    by None true long s w l = absurd (cc)
    by (Some name) wide long s w l = absurd (cc)
