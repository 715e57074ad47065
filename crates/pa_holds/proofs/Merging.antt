-- What is computed of a merge holds as it is printed: the merge, or the refusal by name that is due.
use Rattle.std.proofs.Common.{◌≡◌, refl, sym, ◌∙◌, ap, ℕ, Bool, true, false, cond, Option, Some, None, option_map, nat_lt, length, ◌+◌, Result, Ok, Err}
use Rattle.pa_math.specs.Answers.{given}
use Rattle.pa_meaning.specs.Contracts.{Name, Contract, ports}
use Rattle.pa_witness.specs.Steps.{Version}
use Rattle.pa_names.specs.Names.{most_ports}
use Rattle.pa_contract.specs.Merge.{first_clash, row_count, most_rows, merged, merge_of}
use Rattle.pa_contract.specs.declared.fault.MergeFault.{MergeFault}
use Rattle.pa_contract.specs.declared.fault.MergeFault.TheVariants as fault
use Rattle.pa_cert.specs.declared.refusal.NameRefusal.{NameRefusal}
use Rattle.pa_cert.specs.declared.refusal.NameRefusal.TheVariants.{PortClash, Variables, Rows}
use Rattle.pa_cert.specs.declared.answer.Answer.TheVariants.{Merged}
use Rattle.pa_cert.specs.Tables.{Limits}
use Rattle.pa_holds.specs.Refusals.{or_due}
use Rattle.pa_holds.specs.Questions.{Merging}
use Rattle.pa_holds.specs.Answers.{due, HoldsAsPrinted}
use Rattle.pa_holds.proofs.Refusals.{merge_computed}

-- ---- over plain values: the name that clashes, whether there are too many ports and rows, how many, and the merge
abbrev computed : Option Name → Bool → Bool → ℕ → ℕ → Contract → Result Contract MergeFault
computed clash ports_over rows_over n k m =
    given (cond ports_over (Err (fault.VariableLimit n)) (cond rows_over (Err (fault.Load k)) (Ok m))) clash (λ name. Err (fault.PortClash name))

abbrev refused : Option Name → Bool → Bool → ℕ → ℕ → Option NameRefusal
refused clash ports_over rows_over n k =
    or_due (option_map PortClash clash) (or_due (cond ports_over (Some (Variables n)) None) (cond rows_over (Some (Rows k)) None))

none_refused : (clash : Option Name) (a b : Bool) (n k : ℕ) (m x : Contract) → computed clash a b n k m ≡ Ok x → refused clash a b n k ≡ None
none_refused None false false n k m x h = refl
none_refused None false true n k m x h = absurd (cc)
none_refused None true b n k m x h = absurd (cc)
none_refused (Some name) a b n k m x h = absurd (cc)

clash_refused : (clash : Option Name) (a b : Bool) (n k : ℕ) (m : Contract) (name : Name) → computed clash a b n k m ≡ Err (fault.PortClash name)
    → refused clash a b n k ≡ Some (PortClash name)
clash_refused None false false n k m name h = absurd (cc)
clash_refused None false true n k m name h = absurd (cc)
clash_refused None true b n k m name h = absurd (cc)
clash_refused (Some other) a b n k m name h = let same : other ≡ name = cc in ap (λ c. Some (PortClash c)) same

ports_refused : (clash : Option Name) (a b : Bool) (n k : ℕ) (m : Contract) (count : ℕ) → computed clash a b n k m ≡ Err (fault.VariableLimit count)
    → refused clash a b n k ≡ Some (Variables count)
ports_refused None false false n k m count h = absurd (cc)
ports_refused None false true n k m count h = absurd (cc)
ports_refused None true b n k m count h = let same : n ≡ count = cc in ap (λ c. Some (Variables c)) same
ports_refused (Some other) a b n k m count h = absurd (cc)

rows_refused : (clash : Option Name) (a b : Bool) (n k : ℕ) (m : Contract) (count : ℕ) → computed clash a b n k m ≡ Err (fault.Load count)
    → refused clash a b n k ≡ Some (Rows count)
rows_refused None false false n k m count h = absurd (cc)
rows_refused None false true n k m count h = let same : k ≡ count = cc in ap (λ c. Some (Rows c)) same
rows_refused None true b n k m count h = absurd (cc)
rows_refused (Some other) a b n k m count h = absurd (cc)

-- ---- of two contracts
module _ (c other : Contract) where
  abbrev ports_over : Bool
  ports_over = nat_lt most_ports (length (ports (merged c other)))

  abbrev rows_over : Bool
  rows_over = nat_lt most_rows (row_count c + row_count other)

  -- where there is a merge, no refusal is due, and it is the merge that is defined
  none_due : (m : Contract) → merge_of c other ≡ Ok m → due (Merging c other) ≡ None
  none_due m h = none_refused (first_clash c other) ports_over rows_over (length (ports (merged c other))) (row_count c + row_count other) (merged c other) m h

  pub merge_holds : (v : Version) (most : Limits) (m : Contract) → merge_of c other ≡ Ok m → HoldsAsPrinted v most (Merging c other) (Merged m)
  merge_holds v most m h =
      let same : Ok m ≡ Ok (merged c other) = sym h ∙ merge_computed c other (none_due m h) in
      let is : m ≡ merged c other = cc in
      (none_due m h, is)

  -- each fault but want of memory is the refusal that is due
  pub clash_due : (name : Name) → merge_of c other ≡ Err (fault.PortClash name) → due (Merging c other) ≡ Some (PortClash name)
  clash_due name h =
      clash_refused (first_clash c other) ports_over rows_over (length (ports (merged c other))) (row_count c + row_count other) (merged c other) name h

  pub many_ports_due : (count : ℕ) → merge_of c other ≡ Err (fault.VariableLimit count) → due (Merging c other) ≡ Some (Variables count)
  many_ports_due count h =
      ports_refused (first_clash c other) ports_over rows_over (length (ports (merged c other))) (row_count c + row_count other) (merged c other) count h

  pub many_rows_due : (count : ℕ) → merge_of c other ≡ Err (fault.Load count) → due (Merging c other) ≡ Some (Rows count)
  many_rows_due count h =
      rows_refused (first_clash c other) ports_over rows_over (length (ports (merged c other))) (row_count c + row_count other) (merged c other) count h
