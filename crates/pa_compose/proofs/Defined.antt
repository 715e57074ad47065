-- What the definition of a hiding answers is true of the contract, also where no call has computed it: the answer holds as it is printed, and each
-- refusal is the one that is due, or at a task of the hiding.
use Rattle.std.proofs.Common.{◌≡◌, refl, sym, ap, ◌∙◌, subst, ℕ, ◌≤◌, Bool, true, false, cond, nat_lt, List, length, arith}
use Rattle.std.proofs.Common.{Option, Some, None, option_map, Result, Ok, Err}
use Rattle.pa_math.specs.Answers.{and_then, given, told_as}
use Rattle.pa_meaning.specs.Contracts.{Name, Contract, ports}
use Rattle.pa_witness.specs.Steps.{Two}
use Rattle.pa_contract.specs.WellFormed.{IsWellFormed}
use Rattle.pa_contract.specs.Merge.{row_count, most_rows}
use Rattle.pa_cert.specs.Lists.{HiddenAnswer}
use Rattle.pa_cert.specs.declared.refusal.NameRefusal.TheVariants.{NotOutput, Rows}
use Rattle.pa_holds.specs.Composed.{HoldsAsHidden}
use Rattle.pa_holds.specs.Limits.{LimitFits}
use Rattle.pa_holds.specs.Refusals.{or_due, first_missing, due_hide}
use Rattle.pa_farkas.proofs.Defined.{Holds}
use Rattle.pa_elim.specs.declared.fault.ElimFault.{ElimFault}
use Rattle.pa_elim.specs.declared.fault.ElimFault.TheVariants as eliminating
use Rattle.pa_elim.specs.Projecting.{Projection, in_turn, eliminated_of}
use Rattle.pa_elim.specs.Meant.{HoldsAsProjected}
use Rattle.pa_elim.specs.Seen.{AreInTurn}
use Rattle.pa_elim.proofs.Defined.{IsElimFault, projected_is}
use Rattle.pa_compose.specs.declared.fault.HideFault.{HideFault}
use Rattle.pa_compose.specs.declared.fault.HideFault.TheVariants as fault
use Rattle.pa_compose.specs.Hiding.{hidden_by, hidden_columns, hidden_names, hidden_of, hidden_rows, hide_fault}
use Rattle.pa_compose.proofs.Columns.{columns_in_turn, length-places_for, there_in_turn}
use Rattle.pa_compose.proofs.Meant.{hidden_printed, hidden_there}

-- What an answer tells: which refusal is due, and what holds of what is answered.
abbrev pub HideTells : ℕ → ℕ → Contract → List Name → Result HiddenAnswer HideFault → Type 0
HideTells limit most c names (Ok a) = (due_hide c names ≡ None) × HoldsAsHidden Two limit c names a
HideTells limit most c names (Err fault.Memory) = ⊥
HideTells limit most c names (Err (fault.NotOutput name)) = due_hide c names ≡ Some (NotOutput name)
HideTells limit most c names (Err (fault.Load count)) = due_hide c names ≡ Some (Rows count)
HideTells limit most c names (Err (fault.RowLimit step count)) = (due_hide c names ≡ None) × LimitFits limit (hidden_names c names) step count
HideTells limit most c names (Err (fault.PivotLimit p)) =
    (due_hide c names ≡ None) × IsElimFault limit most (length c.guarantees) (length (hidden_names c names)) (eliminating.PivotLimit p)
HideTells limit most c names (Err (fault.Wide p)) =
    (due_hide c names ≡ None) × IsElimFault limit most (length c.guarantees) (length (hidden_names c names)) (eliminating.Wide p)

module _ (limit most : ℕ) (c : Contract) (names : List Name) (small : limit ≤ 4096) (w : IsWellFormed c) where
  abbrev columns : List ℕ
  columns = in_turn (hidden_columns c names)

  abbrev Projects : Result Projection ElimFault → Type 0
  Projects r =
      Holds (HoldsAsProjected limit (length (ports c)) c.guarantees columns) (IsElimFault limit most (length c.guarantees) (length (hidden_names c names))) r

  as_many : length columns ≡ length (hidden_names c names)
  as_many = ap length (columns_in_turn names c w.distinct) ∙ length-places_for (ports c) (hidden_names c names)

  turns : AreInTurn (length (ports c)) columns
  turns = subst (AreInTurn (length (ports c))) (sym (columns_in_turn names c w.distinct))
      (there_in_turn (ports c) (hidden_names c names) (hidden_there c names w.distinct))

  projects : row_count c ≤ 4096 → Projects (eliminated_of limit most (length (ports c)) (hidden_columns c names) c.guarantees)
  projects few =
      subst (λ k. Holds (HoldsAsProjected limit (length (ports c)) c.guarantees columns) (IsElimFault limit most (length c.guarantees) k)
      (eliminated_of limit most (length (ports c)) (hidden_columns c names) c.guarantees)) as_many
      (projected_is limit most (length (ports c)) c.guarantees columns small w.guarantees.columns_fit (omega (arith, few)) w.few turns)

  rows_tell : due_hide c names ≡ None → (r : Result Projection ElimFault) → Projects r
      → HideTells limit most c names (and_then (told_as hide_fault r) (λ p. Ok (hidden_by c names p)))
  rows_tell none (Ok p) h = (none, hidden_printed c names limit w p h.ok)
  rows_tell none (Err eliminating.Memory) h = h.err
  rows_tell none (Err (eliminating.RowLimit step count)) h = (none, record { first = h.err.0; last = h.err.1; above = h.err.2 })
  rows_tell none (Err (eliminating.PivotLimit p)) h = (none, h.err)
  rows_tell none (Err (eliminating.Wide p)) h = (none, h.err)

  by_tests : (missing : Option Name) (long : Bool) → nat_lt most_rows (row_count c) ≡ long
      → due_hide c names ≡ or_due (option_map NotOutput missing) (cond long (Some (Rows (row_count c))) None)
      → HideTells limit most c names (given (cond long (Err (fault.Load (row_count c))) (hidden_rows c names limit most)) missing
      (λ name. Err (fault.NotOutput name)))
  by_tests (Some name) long over due = due
  by_tests None true over due = due
  by_tests None false over due =
      rows_tell due (eliminated_of limit most (length (ports c)) (hidden_columns c names) c.guarantees)
      (projects (let few : row_count c ≤ 4096 = grind (arith) in few))

  pub hide_tells : HideTells limit most c names (hidden_of c names limit most)
  hide_tells = by_tests (first_missing c.outputs names) (nat_lt most_rows (row_count c)) refl refl
