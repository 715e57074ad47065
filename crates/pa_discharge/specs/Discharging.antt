-- Which rounds discharge the parts of a composition exactly, and where a fault stands: in each round every part that is not discharged is tried, row by
-- row, over the guarantees of those that were discharged before it.
use Rattle.std.specs.Prelude.{ℕ, zero, suc, ◌==◌, List, [], ◌∷◌, ◌++◌, length, map, replicate, filter, flat_map, Bool, is_some}
use Rattle.std.specs.Prelude.{Option, None, Some, Result, Ok, Err, if◌then◌else◌}
use Rattle.std.specs.List.{list_all}
use Rattle.pa_math.specs.Answers.{and_then, given, told_as}
use Rattle.pa_meaning.specs.Rows.{Row, Point}
use Rattle.pa_meaning.specs.Directions.{Stuck}
use Rattle.pa_meaning.specs.Contracts.{Name, Contract}
use Rattle.pa_meaning.specs.Composition.{external_inputs, names_of, assumptions_over, guarantees_over}
use Rattle.pa_witness.specs.Certificates.{Discharge}
use Rattle.pa_contract.specs.Nominal.{Nominal}
use Rattle.pa_holds.specs.Composed.{all_guarantees}
use Rattle.pa_row.specs.declared.place.Halt.{Halt}
use Rattle.pa_row.specs.declared.place.Halt.TheVariants as halt
use Rattle.pa_shift.specs.Shifting.{Premises}
use Rattle.pa_trial.specs.declared.trial.Trial.{Trial}
use Rattle.pa_trial.specs.declared.trial.Trial.TheVariants.{Through, Stopped}
use Rattle.pa_trial.specs.declared.trial.Turn.{Turn}
use Rattle.pa_trial.specs.declared.trial.Turn.TheVariants as turns
use Rattle.pa_trial.specs.Lefts.{Lefts}
use Rattle.pa_trial.specs.Trying.{nominal_in, tried_of}
use Rattle.pa_discharge.specs.declared.fault.DischargeFault.{DischargeFault}
use Rattle.pa_discharge.specs.declared.fault.DischargeFault.TheVariants as fault
use Rattle.pa_trial.specs.Lefts.{Lefts}
use Rattle.pa_discharge.specs.Rounds.{Brought, AfterRound, Discharged}

-- ---- rows over the names of the composition
-- each part's assumptions
abbrev pub terms_of : List Contract → List (List Row)
terms_of parts = map (assumptions_over (names_of parts)) parts

-- the guarantees of the parts that are discharged, in the order of the parts
abbrev pub discharged_rows : List Name → List Contract → List (Option Brought) → List Row
discharged_rows names [] bs = []
discharged_rows names (p ∷ parts) [] = []
discharged_rows names (p ∷ parts) (b ∷ bs) = given [] b (λ b. guarantees_over names p) ++ discharged_rows names parts bs

-- ---- a round
-- the round with one part more, and with a stuck row more
abbrev pub with_standing : AfterRound → Option Brought → AfterRound
with_standing r b = record { brought = r.brought ++ b ∷ []; stuck = r.stuck }

abbrev pub with_stuck : AfterRound → Stuck → AfterRound
with_stuck r s = record { brought = r.brought; stuck = r.stuck ++ s ∷ [] }

-- how the next part comes out of its trial: through, or stuck at a row
abbrev pub after_trial : ℕ → ℕ → AfterRound → Trial → AfterRound
after_trial round part r (Through lefts) = with_standing r (Some (record { round = round; lefts = lefts }))
after_trial round part r (Stopped i d) = with_stuck (with_standing r None) (record { part = part; row = i; direction = d })

-- the next part's turn: one that was discharged before stays so
abbrev pub turn_of : Premises → ℕ → ℕ → ℕ → List Row → AfterRound → Option Brought → Result AfterRound Halt
turn_of premises most round part rows r (Some b) = Ok (with_standing r (Some b))
turn_of premises most round part rows r None =
    and_then (tried_of premises most (turns.InRound round) part rows) (λ trial. Ok (after_trial round part r trial))

-- the turns of these parts, of which the first has this place
abbrev pub round_from : Premises → ℕ → ℕ → ℕ → List (List Row) → AfterRound → List (Option Brought) → Result AfterRound Halt
round_from premises most round part [] r bs = Ok r
round_from premises most round part (rows ∷ terms) r [] = Ok r
round_from premises most round part (rows ∷ terms) r (b ∷ bs) =
    and_then (turn_of premises most round part rows r b) (λ next. round_from premises most round (suc part) terms next bs)

abbrev pub round_of : Premises → ℕ → ℕ → List (List Row) → List (Option Brought) → Result AfterRound Halt
round_of premises most round terms bs = round_from premises most round 0 terms (record { brought = []; stuck = [] }) bs

-- ---- where a round discharges none
-- the row at which a trial over all parts' guarantees ended, where one did
abbrev pub stuck_at : ℕ → Trial → Option Stuck
stuck_at part (Through lefts) = None
stuck_at part (Stopped i d) = Some (record { part = part; row = i; direction = d })

abbrev pub whole_trial : Premises → ℕ → ℕ → List Row → Result (Option Stuck) Halt
whole_trial premises most part rows = and_then (tried_of premises most turns.Whole part rows) (λ trial. Ok (stuck_at part trial))

-- the first row of these undischarged parts, of which the first has this place, without weights over all parts' guarantees
abbrev pub whole_turn : Premises → ℕ → ℕ → List Row → Option Brought → Result (Option Stuck) Halt
whole_turn premises most part rows (Some b) = Ok None
whole_turn premises most part rows None = whole_trial premises most part rows

abbrev pub whole_from : Premises → ℕ → ℕ → List (List Row) → List (Option Brought) → Result (Option Stuck) Halt
whole_from premises most part [] bs = Ok None
whole_from premises most part (rows ∷ terms) [] = Ok None
whole_from premises most part (rows ∷ terms) (b ∷ bs) =
    and_then (whole_turn premises most part rows b) (λ found. given (whole_from premises most (suc part) terms bs) found (λ stuck. Ok (Some stuck)))

abbrev pub halted : Halt → DischargeFault
halted halt.Memory = fault.Memory
halted (halt.PivotLimit place) = fault.PivotLimit place
halted (halt.Wide place) = fault.Wide place

-- no multipliers, or a circle of the parts that stay undischarged, each with its row of the last round
abbrev pub refused_by : List Stuck → Option Stuck → DischargeFault
refused_by stuck None = fault.Circle stuck
refused_by stuck (Some s) = fault.NoMultipliers s

-- ---- the rounds
-- what is asked: the parts, the nominal point of their external inputs, and how many pivots a problem may take
pub record Asked : Type 0 where
  pub parts : List Contract
  pub nominal : Point
  pub most : ℕ

-- the premises of a round: the guarantees of the parts that are discharged before it
abbrev pub premises_of : Asked → List (Option Brought) → Premises
premises_of asked bs = record { nominal = asked.nominal; rows = discharged_rows (names_of asked.parts) asked.parts bs }

abbrev pub whole_of : Asked → Premises
whole_of asked = record { nominal = asked.nominal; rows = all_guarantees asked.parts }

abbrev pub are_discharged : List (Option Brought) → Bool
are_discharged bs = list_all (λ (b : Option Brought). is_some b) bs

abbrev pub discharged_count : List (Option Brought) → ℕ
discharged_count bs = length (filter (λ (b : Option Brought). is_some b) bs)

-- the refusal of a round that discharged none
abbrev pub no_discharge : Asked → List (Option Brought) → List Stuck → Result (List (Option Brought)) DischargeFault
no_discharge asked bs stuck =
    and_then (told_as halted (whole_from (whole_of asked) asked.most 0 (terms_of asked.parts) bs)) (λ found. Err (refused_by stuck found))

-- how the parts stand after this round, or the refusal where it discharged none
abbrev pub settled : Asked → List (Option Brought) → AfterRound → Result (List (Option Brought)) DischargeFault
settled asked bs r = if discharged_count r.brought == discharged_count bs then no_discharge asked bs r.stuck else Ok r.brought

abbrev pub round_in : Asked → ℕ → List (Option Brought) → Result (List (Option Brought)) DischargeFault
round_in asked round bs =
    and_then (told_as halted (round_of (premises_of asked bs) asked.most round (terms_of asked.parts) bs)) (settled asked bs)

-- rounds from this one on until all parts are discharged, of which as many are left; each discharges at least one part
abbrev pub rounds_from : Asked → ℕ → ℕ → List (Option Brought) → Result (List (Option Brought)) DischargeFault
rounds_from asked round zero bs = Ok bs
rounds_from asked round (suc left) bs =
    if are_discharged bs then Ok bs else and_then (round_in asked round bs) (rounds_from asked (suc round) left)

-- at the start no part is discharged
abbrev pub brought_of : Asked → Result (List (Option Brought)) DischargeFault
brought_of asked = rounds_from asked 0 (length asked.parts) (replicate (length asked.parts) None)

-- ---- what the rounds leave
-- what is left of the assumptions of all parts, part by part, and the rounds and weights
abbrev pub left_rows : List (Option Brought) → List Row
left_rows bs = flat_map (λ (b : Option Brought). given [] b (λ (b : Brought). b.lefts.rows)) bs

abbrev pub discharges_of : List (Option Brought) → List Discharge
discharges_of bs = flat_map (λ (b : Option Brought). given [] b (λ (b : Brought). record { round = b.round; shifts = b.lefts.weights } ∷ [])) bs

abbrev pub discharged_by : List (Option Brought) → Discharged
discharged_by bs = record { discharges = discharges_of bs; assumptions = left_rows bs }

-- the parts discharged at the nominal values of their external inputs, or the first refusal
abbrev pub discharged_of : List Contract → Nominal → ℕ → Result Discharged DischargeFault
discharged_of parts nominal most =
    and_then (told_as halted (nominal_in nominal (external_inputs parts))) (λ x.
    and_then (brought_of (record { parts = parts; nominal = x; most = most })) (λ bs. Ok (discharged_by bs)))
