-- The parts of a composite with the rounds in which they are discharged, and the weights that show it.
use Rattle.std.specs.Prelude.{ℕ, List, [], ◌∷◌, filter, flat_map, nat_lt}
use Rattle.pa_meaning.specs.Rows.{Row}
pub use Rattle.pa_witness.specs.Certificates.{Discharge}
use Rattle.pa_meaning.specs.Contracts.{Name, Contract}
use Rattle.pa_meaning.specs.Composition.{assumptions_over, guarantees_over}
use Rattle.pa_witness.specs.Shifts.{ShiftsHold, shifted_rows}

-- a part with its discharge
pub record DischargedPart : Type 0 where
  pub part : Contract
  pub discharge : Discharge

-- each part with its discharge
abbrev pub discharged : List Contract → List Discharge → List DischargedPart
discharged [] ds = []
discharged (p ∷ parts) [] = []
discharged (p ∷ parts) (d ∷ ds) = record { part = p; discharge = d } ∷ discharged parts ds

-- the guarantees, over the names, of the parts of smaller rounds
abbrev pub earlier_guarantees : List Name → List DischargedPart → ℕ → List Row
earlier_guarantees names parts round = flat_map (λ e. guarantees_over names e.part) (filter (λ e. nat_lt e.discharge.round round) parts)

-- the shifts of the part leave, of its assumptions, what can be asked of the first n names
abbrev pub DischargeHolds : List Name → ℕ → List DischargedPart → DischargedPart → Type 0
DischargeHolds names n parts e = ShiftsHold n (earlier_guarantees names parts e.discharge.round) (assumptions_over names e.part) e.discharge.shifts

abbrev pub discharge_rows : List Name → ℕ → List DischargedPart → DischargedPart → List Row
discharge_rows names n parts e = shifted_rows n (earlier_guarantees names parts e.discharge.round) (assumptions_over names e.part) e.discharge.shifts

abbrev pub all_discharge_rows : List Name → ℕ → List DischargedPart → List Row
all_discharge_rows names n parts = flat_map (discharge_rows names n parts) parts
