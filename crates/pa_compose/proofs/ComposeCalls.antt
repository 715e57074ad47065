-- What the calls of a composition ask for holds of parts that have their names: as many columns as names, few rows, columns that are there, and room.
use Rattle.std.proofs.Common.{◌≡◌, sym, ap, subst, ◌∙◌, ◌+◌, ◌≤◌, All, List, length, length-append, sum_by, arith, ℕ}
use Rattle.pa_meaning.specs.Rows.{Row}
use Rattle.pa_meaning.specs.Contracts.{Name, Contract}
use Rattle.pa_meaning.specs.Composition.{all_outputs, external_inputs, names_of}
use Rattle.pa_contract.specs.Merge.{row_count}
use Rattle.pa_contract.specs.Nominal.{Nominal}
use Rattle.pa_bland.specs.Seen.{KeepsRoom}
use Rattle.pa_tableau.specs.Work.{HasRoom, Work}
use Rattle.pa_elim.specs.Meant.{AreColumns}
use Rattle.pa_holds.specs.Composed.{all_guarantees, shifted_assumptions}
use Rattle.pa_parts.specs.Composing.{Ports, composite_ports}
use Rattle.pa_parts.proofs.Rows.{all_guarantees_few}
use Rattle.pa_discharge.specs.Rounds.{Discharged}
use Rattle.pa_discharge.specs.Meant.{AreDischargedAt}
use Rattle.pa_discharge.proofs.Room.{room_for_fewer}
use Rattle.pa_compose.specs.Composing.{columns_in}
use Rattle.pa_compose.specs.Hiding.{columns_from}
use Rattle.pa_compose.specs.Seen.{CanCompose}
use Rattle.pa_compose.proofs.ComposePorts.{internal_columns}
use Rattle.pa_compose.proofs.ComposeRows.{guarantee_columns, left_columns, left_fewer, rows_counted}

-- the work has room for the guarantees of all parts
pub room_for_guarantees : (parts : List Contract) (n : ℕ) (work : Work) → HasRoom n (sum_by row_count parts) work
    → HasRoom n (length (all_guarantees parts)) work
room_for_guarantees parts n work room = room_for_fewer n (sum_by row_count parts) (length (all_guarantees parts)) work (all_guarantees_few parts) room

module _ (parts : List Contract) (keep : List Name) (ports : Ports) (can : CanCompose parts keep ports) where
  names_counted : length ports.external + length ports.outputs ≡ length (names_of parts)
  names_counted =
      ap (λ (ps : Ports). length ps.external + length ps.outputs) can.ports ∙ sym (length-append (external_inputs parts) (all_outputs parts))

  module _ (rows : List Row) (are : rows ≡ all_guarantees parts) (columns : ℕ) (counted : columns ≡ length ports.external + length ports.outputs) where
    pub guarantees_fit : All (λ (r : Row). length r.c ≡ columns) rows
    guarantees_fit =
        subst (λ (rs : List Row). All (λ (r : Row). length r.c ≡ columns) rs) (sym are)
        (subst (λ n. All (λ (r : Row). length r.c ≡ n) (all_guarantees parts)) (sym (counted ∙ names_counted)) (guarantee_columns parts))

    pub guarantees_few : length rows ≤ 4096
    guarantees_few = let fewer = all_guarantees_few parts in let few = can.few in let same = ap length are in omega (arith, fewer, few, same)

    pub internal_fit : (gone : List ℕ) → gone ≡ columns_from ports.internal (length ports.external) ports.outputs → AreColumns columns gone
    internal_fit gone is =
        subst (AreColumns columns) (sym (is ∙ ap (λ (ps : Ports). columns_from ps.internal (length ps.external) ps.outputs) can.ports))
        (subst (λ n. AreColumns n (columns_in (composite_ports parts keep))) (sym (counted ∙ names_counted)) (internal_columns parts keep))

  -- what is left of the assumptions, which the work has room for too
  module _ (nominal : Nominal) (d : Discharged) (at : AreDischargedAt parts nominal d) (rows : List Row) (are : rows ≡ d.assumptions) (columns : ℕ)
      (counted : columns ≡ length ports.external) where
    rows_left : rows ≡ shifted_assumptions parts d.discharges
    rows_left = are ∙ at.left

    inputs_counted : length (external_inputs parts) ≡ columns
    inputs_counted = sym (counted ∙ ap (λ (ps : Ports). length ps.external) can.ports)

    pub left_fit : All (λ (r : Row). length r.c ≡ columns) rows
    left_fit =
        subst (λ (rs : List Row). All (λ (r : Row). length r.c ≡ columns) rs) (sym rows_left)
        (subst (λ n. All (λ (r : Row). length r.c ≡ n) (shifted_assumptions parts d.discharges)) inputs_counted (left_columns parts d.discharges))

    left_counted : length rows ≤ sum_by row_count parts
    left_counted =
        let same = ap length rows_left in
        let fewer = left_fewer parts d.discharges in
        let all = rows_counted parts in omega (arith, same, fewer, all)

    pub left_few : length rows ≤ 4096
    left_few = let fewer = left_counted in let few = can.few in omega (arith, fewer, few)

    pub room_for_left : (n m : ℕ) (old work : Work) → n ≡ length ports.external + length ports.outputs → m ≡ sum_by row_count parts
        → (old.most_lines ≡ n) × (old.most_rows ≡ m) → KeepsRoom old work → HasRoom columns (length rows) work
    room_for_left n m old work names all (lines, most) keeps =
        let same_lines = keeps.lines in
        let same_rows = keeps.rows in
        let fewer = left_counted in record {
          lines = omega (arith, lines, same_lines, counted, names);
          rows = omega (arith, most, all, same_rows, fewer);
        }
