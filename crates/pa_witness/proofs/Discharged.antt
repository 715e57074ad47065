-- Parts that are discharged round by round, by the contracts of a composition: their ports fit its names, so that what holds
-- of parts over any names holds of them.
use Rattle.std.proofs.Common.{◌≡◌, ap, ℕ, zero, suc, ◌<◌, List, [], ◌∷◌, length, All, Some, slice_get, arith}
use Rattle.std.proofs.lemmas.List.Elements.{All-nil, All-cons, All-head, All-tail}
use Rattle.std.proofs.lemmas.Option.{slice_get_within}
use Rattle.std.specs.List.{IsDistinct}
use Rattle.std.specs.Str.{bytes_eq}
use Rattle.pa_meaning.specs.Rows.{MeetsAll}
use Rattle.pa_meaning.specs.Contracts.{Contract, ports, Behaviour, point_over, MeetsAssumptions, MeetsGuarantees, Keeps}
use Rattle.pa_meaning.specs.Composition.{external_inputs, all_outputs, names_of, IsDischargedBefore}
use Rattle.pa_meaning.proofs.PartRows.{FitsNames}
use Rattle.pa_meaning.proofs.CompositionPorts.{names_distinct, parts_fit}
use Rattle.pa_witness.specs.Discharge.{Discharge, DischargedPart, discharged, all_discharge_rows}
use Rattle.pa_witness.specs.Laws.{AreDischarged}
use Rattle.pa_witness.proofs.Composition.{parts_met}
use Rattle.pa_witness.proofs.Rounds.{discharge_at, discharged_in_time}

-- what is true of each part with its discharge is true of each part, and the other way round
pub parts_from : (P : Contract → Type 0) (parts : List Contract) (ds : List Discharge) → length ds ≡ length parts
    → All (λ e. P e.part) (discharged parts ds) → All P parts
parts_from P [] ds one h = All-nil P
parts_from P (p ∷ parts) [] one h = absurd (omega arith)
parts_from P (p ∷ parts) (d ∷ ds) one h =
    let e : DischargedPart = record { part = p; discharge = d } in
    All-cons P p parts (All-head (λ (e : DischargedPart). P e.part) e (discharged parts ds) h)
    (parts_from P parts ds (omega arith) (All-tail (λ (e : DischargedPart). P e.part) e (discharged parts ds) h))

pub parts_to : (P : Contract → Type 0) (parts : List Contract) (ds : List Discharge) → All P parts → All (λ e. P e.part) (discharged parts ds)
parts_to P [] ds h = All-nil (λ (e : DischargedPart). P e.part)
parts_to P (p ∷ parts) [] h = All-nil (λ (e : DischargedPart). P e.part)
parts_to P (p ∷ parts) (d ∷ ds) h =
    let e : DischargedPart = record { part = p; discharge = d } in
    All-cons (λ (e : DischargedPart). P e.part) e (discharged parts ds) (All-head P p parts h) (parts_to P parts ds (All-tail P p parts h))

pub discharged_parts_met : (parts : List Contract) (ds : List Discharge) (v : Behaviour) → All (λ p. IsDistinct bytes_eq (ports p)) parts
    → IsDistinct bytes_eq (all_outputs parts) → AreDischarged parts ds
    → MeetsAll (all_discharge_rows (names_of parts) (length (external_inputs parts)) (discharged parts ds)) (point_over (external_inputs parts) v)
    → All (λ p. Keeps p v) parts → All (λ p. MeetsAssumptions p v × MeetsGuarantees p v) parts
discharged_parts_met parts ds v distinct apart h assumed keeps =
    parts_from (λ p. MeetsAssumptions p v × MeetsGuarantees p v) parts ds h.one_each
    (parts_met (external_inputs parts) (all_outputs parts) (discharged parts ds) v (names_distinct parts apart)
    (parts_to (FitsNames (names_of parts)) parts ds (parts_fit parts distinct)) h.hold assumed
    (parts_to (λ p. Keeps p v) parts ds keeps))

-- the discharge at a place that is there
found_discharge : (ds : List Discharge) (i : ℕ) (d : Discharge) → slice_get ds i ≡ Some d → discharge_at ds i ≡ d
found_discharge [] i d found = cc found
found_discharge (e ∷ ds) zero d found = cc found
found_discharge (e ∷ ds) (suc i) d found = found_discharge ds i d found

pub in_time : (parts : List Contract) (ds : List Discharge) → AreDischarged parts ds
    → (i : ℕ) (d : Discharge) → slice_get ds i ≡ Some d → IsDischargedBefore parts (suc d.round) i
in_time parts ds h i d found =
    let within : i < length ds = slice_get_within ds i d found in
    let round : (discharge_at ds i).round ≡ d.round = ap (λ (e : Discharge). e.round) (found_discharge ds i d found) in
    discharged_in_time parts ds h.one_each h.hold (suc d.round) i (omega (arith, within, h.one_each)) (omega (arith, round))
