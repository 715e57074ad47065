-- What the definition of a composition answers is true of the parts, also where no call has computed it: the answer holds as it is printed, and each refusal
-- is the one that is due, or at a task of the composition.
use Rattle.std.proofs.Common.{◌≡◌, refl, sym, subst, ◌∙◌, ◌+◌, ◌≤◌, Bool, true, false, cond, nat_lt, List, [], length, sum_by, All, arith}
use Rattle.std.proofs.Common.{Option, Some, None, option_map, Result, Ok, Err}
use Rattle.std.specs.List.{IsDistinct}
use Rattle.std.specs.Str.{bytes_eq}
use Rattle.pa_math.specs.Answers.{and_then, given, told_as}
use Rattle.pa_math.proofs.Answers.{ok_same}
use Rattle.pa_meaning.specs.Contracts.{Name, Contract}
use Rattle.pa_meaning.specs.Composition.{all_outputs, internal_outputs, kept_outputs, names_of}
use Rattle.pa_witness.specs.Steps.{Two}
use Rattle.pa_contract.specs.Nominal.{IsNominal, Nominal}
use Rattle.pa_contract.specs.Merge.{row_count, most_rows}
use Rattle.pa_contract.specs.WellFormed.{IsWellFormed}
use Rattle.pa_names.specs.Names.{most_ports}
use Rattle.pa_cert.specs.Tables.{Limits}
use Rattle.pa_cert.specs.Lists.{ComposedAnswer}
use Rattle.pa_cert.specs.declared.answer.Answer.TheVariants.{Composed}
use Rattle.pa_cert.specs.declared.refusal.NameRefusal.TheVariants.{PortClash, NotOutput, Variables, Rows}
use Rattle.pa_holds.specs.Questions.{Composing}
use Rattle.pa_holds.specs.Composed.{HoldsAsComposed}
use Rattle.pa_holds.specs.Limits.{LimitFits, PlaceFits, PivotsFit}
use Rattle.pa_holds.specs.Refusals.{or_due, first_missing, first_repeat, due_compose}
use Rattle.pa_holds.proofs.Refusals.{none_repeated}
use Rattle.pa_holds.proofs.WellFormed.{printed_is_well_formed}
use Rattle.pa_farkas.proofs.Defined.{Holds}
use Rattle.pa_parts.specs.Composing.{Ports, composite_ports}
use Rattle.pa_parts.specs.declared.fault.PortsFault.TheVariants as naming
use Rattle.pa_discharge.proofs.Defined.{discharge_tells}
use Rattle.pa_discharge.specs.Meant.{AreExactAtNominal, AreRounds, IsFirstStuck, IsWholeCircle}
use Rattle.pa_compose.specs.declared.compose_fault.ComposeFault.{ComposeFault}
use Rattle.pa_compose.specs.declared.compose_fault.ComposeFault.TheVariants as fault
use Rattle.pa_compose.specs.Composing.{Found, answer_by, composed_of, composed_with, contract_by, ports_fault, rows_of}
use Rattle.pa_compose.specs.Seen.{CanCompose, IsFound}
use Rattle.pa_compose.proofs.ComposePorts.{kept_kept, kept_known, none_due}
use Rattle.pa_compose.proofs.ComposePlaces.{IsRowsFault}
use Rattle.pa_compose.proofs.ComposeShown.{AreRowsOf, composed_printed, rows_hold, steps_counted}

-- What an answer tells, under limits of rows and of pivots: which refusal is due, and what holds of what is answered.
abbrev pub ComposeTells : Limits → List Contract → List Name → Nominal → Result ComposedAnswer ComposeFault → Type 0
ComposeTells most parts keep nominal (Ok a) =
    (due_compose parts keep ≡ None) × HoldsAsComposed Two most.rows parts keep a × AreRounds parts a.discharges × AreExactAtNominal parts nominal a.discharges
ComposeTells most parts keep nominal (Err fault.Memory) = ⊥
ComposeTells most parts keep nominal (Err (fault.PortClash name)) = due_compose parts keep ≡ Some (PortClash name)
ComposeTells most parts keep nominal (Err (fault.NotOutput name)) = due_compose parts keep ≡ Some (NotOutput name)
ComposeTells most parts keep nominal (Err (fault.VariableLimit count)) = due_compose parts keep ≡ Some (Variables count)
ComposeTells most parts keep nominal (Err (fault.Load count)) = due_compose parts keep ≡ Some (Rows count)
ComposeTells most parts keep nominal (Err (fault.NoMultipliers s)) = (due_compose parts keep ≡ None) × IsFirstStuck parts s
ComposeTells most parts keep nominal (Err (fault.Circle ss)) = (due_compose parts keep ≡ None) × IsWholeCircle parts ss
ComposeTells most parts keep nominal (Err (fault.RowLimit step count)) =
    (due_compose parts keep ≡ None) × LimitFits most.rows (internal_outputs parts keep) step count
ComposeTells most parts keep nominal (Err (fault.PivotLimit p)) =
    (due_compose parts keep ≡ None) × PivotsFit most (Composing parts keep) p.task p.sub
ComposeTells most parts keep nominal (Err (fault.Wide p)) = (due_compose parts keep ≡ None) × PlaceFits most (Composing parts keep) p

module _ (most : Limits) (parts : List Contract) (keep : List Name) (nominal : Nominal) (limit : most.rows ≤ 4096) (formed : All IsWellFormed parts)
    (values : IsNominal nominal) where
  abbrev ports : Ports
  ports = composite_ports parts keep

  rows_tell : due_compose parts keep ≡ None → (r : Result Found ComposeFault) → Holds (AreRowsOf most parts keep nominal) (IsRowsFault most parts keep) r
      → IsDistinct bytes_eq (all_outputs parts) → ComposeTells most parts keep nominal (and_then r (λ f. Ok (answer_by ports f)))
  rows_tell none (Ok f) h apart =
      (none, composed_printed most parts keep nominal apart f h.ok, h.ok.discharged.rounds, h.ok.discharged.exact)
  rows_tell none (Err fault.Memory) h apart = h.err
  rows_tell none (Err (fault.PortClash name)) h apart = absurd h.err
  rows_tell none (Err (fault.NotOutput name)) h apart = absurd h.err
  rows_tell none (Err (fault.VariableLimit count)) h apart = absurd h.err
  rows_tell none (Err (fault.Load count)) h apart = absurd h.err
  rows_tell none (Err (fault.NoMultipliers s)) h apart = (none, h.err)
  rows_tell none (Err (fault.Circle ss)) h apart = (none, h.err)
  rows_tell none (Err (fault.RowLimit step count)) h apart = (none, h.err)
  rows_tell none (Err (fault.PivotLimit p)) h apart = (none, h.err)
  rows_tell none (Err (fault.Wide p)) h apart = (none, h.err)

  by_tests : (repeat missing : Option Name) (wide long : Bool) → first_repeat [] (all_outputs parts) ≡ repeat
      → nat_lt most_ports (length (names_of parts)) ≡ wide → nat_lt most_rows (sum_by row_count parts) ≡ long
      → due_compose parts keep ≡ or_due (option_map PortClash repeat) (or_due (option_map NotOutput missing)
      (or_due (cond wide (Some (Variables (length (names_of parts)))) None) (cond long (Some (Rows (sum_by row_count parts))) None)))
      → ComposeTells most parts keep nominal (and_then (told_as ports_fault (given (given
      (cond wide (Err (naming.VariableLimit (length (names_of parts)))) (Ok ports)) missing
      (λ name. Err (naming.NotOutput name))) repeat (λ name. Err (naming.PortClash name))))
      (λ ns. cond long (Err (fault.Load (sum_by row_count parts))) (composed_with parts ns nominal most.rows most.pivots)))
  by_tests (Some name) missing wide long again names rows due = due
  by_tests None (Some name) wide long again names rows due = due
  by_tests None None true long again names rows due = due
  by_tests None None false true again names rows due = due
  by_tests None None false false again names rows due =
      let apart = none_repeated (all_outputs parts) again in
      let short : length (names_of parts) ≤ 128 = grind (arith) in
      let few : sum_by row_count parts ≤ 4096 = grind (arith) in
      rows_tell due (rows_of parts ports nominal most.rows most.pivots)
      (rows_hold most parts keep nominal limit apart short few (discharge_tells parts nominal most.pivots formed apart few short values)) apart

  pub compose_tells : ComposeTells most parts keep nominal (composed_of parts keep nominal most.rows most.pivots)
  compose_tells =
      by_tests (first_repeat [] (all_outputs parts)) (first_missing (all_outputs parts) keep) (nat_lt most_ports (length (names_of parts)))
      (nat_lt most_rows (sum_by row_count parts)) refl refl refl refl

-- what is found of parts whose names and rows are few makes a contract, whichever outputs are kept
module _ (most : Limits) (parts : List Contract) (nominal : Nominal) (limit : most.rows ≤ 4096) (values : IsNominal nominal)
    (f : Found) where
  of_ok : (P : Found → Type 0) (Q : ComposeFault → Type 0) (r : Result Found ComposeFault) → r ≡ Ok f → Holds P Q r → P f
  of_ok P Q (Ok g) is h = subst P (ok_same g f is) h.ok
  of_ok P Q (Err e) is h = absurd (cc)

  rows_are : (keep : List Name) (names : Ports) → CanCompose parts keep names → rows_of parts (composite_ports parts keep) nominal most.rows most.pivots ≡ Ok f
      → AreRowsOf most parts keep nominal f
  rows_are keep names can is =
      of_ok (AreRowsOf most parts keep nominal) (IsRowsFault most parts keep) (rows_of parts (composite_ports parts keep) nominal most.rows most.pivots) is
      (rows_hold most parts keep nominal limit can.apart can.short can.few
      (discharge_tells parts nominal most.pivots can.formed can.apart can.few can.short values))

  -- the kept outputs are outputs, so that no name is refused where these are to be kept
  formed_by : (keep : List Name) (names : Ports) (can : CanCompose parts keep names)
      → first_missing (all_outputs parts) keep ≡ None → rows_of parts (composite_ports parts keep) nominal most.rows most.pivots ≡ Ok f
      → IsWellFormed (contract_by (composite_ports parts keep) f)
  formed_by keep names can known is =
      printed_is_well_formed Two most (Composing parts keep) (Composed (answer_by (composite_ports parts keep) f))
      (contract_by (composite_ports parts keep) f) limit can.formed
      (none_due parts keep can.apart known can.short can.few, composed_printed most parts keep nominal can.apart f (rows_are keep names can is)) refl

  found_at : (keep : List Name) (names : Ports) → CanCompose parts keep names → rows_of parts names nominal most.rows most.pivots ≡ Ok f → IsFound names f
  found_at keep names can is =
      let here : rows_of parts (composite_ports parts keep) nominal most.rows most.pivots ≡ Ok f =
      subst (λ ns. rows_of parts ns nominal most.rows most.pivots ≡ Ok f) can.ports is in
      let same : names ≡ composite_ports parts (kept_outputs parts keep) = can.ports ∙ kept_kept parts keep in
      let kept : CanCompose parts (kept_outputs parts keep) names = record {
        ports = same;
        apart = can.apart;
        short = can.short;
        few_parts = can.few_parts;
        few = can.few;
        formed = can.formed;
      } in
      let formed : IsWellFormed (contract_by (composite_ports parts (kept_outputs parts keep)) f) =
      formed_by (kept_outputs parts keep) names kept (kept_known parts keep)
      (subst (λ ns. rows_of parts ns nominal most.rows most.pivots ≡ Ok f) same is) in
      record {
        formed = subst (λ ns. IsWellFormed (contract_by ns f)) (sym same) formed;
        steps = subst (λ (ns : Ports). length f.projected.steps ≡ length ns.internal + 1) (sym can.ports)
            (steps_counted most parts keep nominal can.apart f (rows_are keep names can here));
      }

pub found_is : (most : Limits) (parts : List Contract) (keep : List Name) (ports : Ports) (nominal : Nominal) → most.rows ≤ 4096
    → CanCompose parts keep ports → IsNominal nominal → (f : Found) → rows_of parts ports nominal most.rows most.pivots ≡ Ok f → IsFound ports f
found_is most parts keep ports nominal limit can values f is = found_at most parts nominal limit values f keep ports can is
