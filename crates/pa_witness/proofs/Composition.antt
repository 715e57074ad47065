-- Composites: the discharge of the parts round by round.
use Rattle.std.proofs.Common.{◌≡◌, ℕ, zero, suc, ◌<◌, ◌≤◌, true, nat_lt, ltb-true, List, ◌++◌, length, filter, All, Contains, arith}
use Rattle.std.proofs.lemmas.List.Elements.{All-contains}
use Rattle.std.specs.List.{IsDistinct}
use Rattle.std.specs.Str.{bytes_eq}
use Rattle.pa_ring.proofs.Lists.{All-from_contains, All-filter_where, All-flat_map, All-from_flat_map}
use Rattle.pa_meaning.specs.Rows.{Meets, MeetsAll}
use Rattle.pa_meaning.specs.Contracts.{Name, Behaviour, point_over, MeetsAssumptions, MeetsGuarantees, Keeps}
use Rattle.pa_meaning.specs.Composition.{assumptions_over, guarantees_over}
use Rattle.pa_witness.specs.Discharge.{DischargedPart, earlier_guarantees, DischargeHolds, discharge_rows, all_discharge_rows}
use Rattle.pa_witness.proofs.Shifts.{shifts_met}
use Rattle.pa_meaning.proofs.PartRows.{FitsNames, assumptions_met, guarantees_met}

abbrev MeetsPart : Behaviour → DischargedPart → Type 0
MeetsPart v e = MeetsAssumptions e.part v × MeetsGuarantees e.part v

module _ (external others : List Name) (parts : List DischargedPart) (v : Behaviour) (distinct : IsDistinct bytes_eq (external ++ others))
    (fit : All (λ e. FitsNames (external ++ others) e.part) parts)
    (holds : All (DischargeHolds (external ++ others) (length external) parts) parts)
    (assumed : MeetsAll (all_discharge_rows (external ++ others) (length external) parts) (point_over external v))
    (keep : All (λ e. Keeps e.part v) parts) where
  abbrev names : List Name
  names = external ++ others

  -- what the parts of smaller rounds guarantee is met
  earlier_met : (r k : ℕ) → k ≤ r → All (λ e. e.discharge.round < r → MeetsPart v e) parts → MeetsAll (earlier_guarantees names parts k) (point_over names v)
  earlier_met r k le before =
      All-flat_map (λ g. Meets g (point_over names v)) (λ e. guarantees_over names e.part) (filter (λ e. nat_lt e.discharge.round k) parts)
      (All-filter_where (λ e. MeetsAll (guarantees_over names e.part) (point_over names v)) (λ e. nat_lt e.discharge.round k) parts
      (All-from_contains (λ e. nat_lt e.discharge.round k ≡ true → MeetsAll (guarantees_over names e.part) (point_over names v)) parts
      (λ e i t. (guarantees_met names e.part v distinct (All-contains (λ e. FitsNames names e.part) parts e fit i)).1
      (All-contains (λ e. e.discharge.round < r → MeetsPart v e) parts e before i (let less = ltb-true e.discharge.round k t in omega arith)).1)))

  -- a part whose earlier parts are discharged is discharged
  next_met : (r : ℕ) → All (λ e. e.discharge.round < r → MeetsPart v e) parts → (e : DischargedPart) → Contains parts e → e.discharge.round < suc r
      → MeetsPart v e
  next_met r before e i less =
      let given = earlier_guarantees names parts e.discharge.round in
      let rows : MeetsAll (assumptions_over names e.part) (point_over names v) =
      shifts_met external others v given (assumptions_over names e.part) e.discharge.shifts
      (All-contains (DischargeHolds names (length external) parts) parts e holds i)
      (earlier_met r e.discharge.round (omega arith) before)
      (All-contains (λ e. MeetsAll (discharge_rows names (length external) parts e) (point_over external v)) parts e
      (All-from_flat_map (λ r. Meets r (point_over external v)) (discharge_rows names (length external) parts) parts assumed) i) in
      let met : MeetsAssumptions e.part v = (assumptions_met names e.part v distinct (All-contains (λ e. FitsNames names e.part) parts e fit i)).0 rows in
      (met, All-contains (λ e. Keeps e.part v) parts e keep i met)

  by_round : (r : ℕ) → All (λ e. e.discharge.round < r → MeetsPart v e) parts
  by_round zero = All-from_contains (λ e. e.discharge.round < 0 → MeetsPart v e) parts (λ e i less. absurd (omega arith))
  by_round (suc r) = let before = by_round r in All-from_contains (λ e. e.discharge.round < suc r → MeetsPart v e) parts
      (λ e i less. next_met r before e i less)

  -- A behaviour that meets the shifted assumptions of all parts and keeps the parts meets all their assumptions and guarantees.
  pub parts_met : All (MeetsPart v) parts
  parts_met = All-from_contains (MeetsPart v) parts (λ e i. All-contains (λ d. d.discharge.round < suc e.discharge.round → MeetsPart v d) parts e
      (by_round (suc e.discharge.round)) i (omega arith))
