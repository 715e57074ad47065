-- What the discharges of parts say: in which round each part is discharged, what its assumptions come to at the nominal values, and which refusal
-- is chosen.
use Rattle.std.specs.Prelude.{◌≡◌, ◌⊎◌, ℕ, suc, ◌<◌, List, length, flat_map, slice_get, Some, ◌*ℤ◌, All}
use Rattle.std.specs.List.{AllZip}
use Rattle.pa_meaning.specs.Rows.{Row, row_at}
use Rattle.pa_meaning.specs.Weights.{Weights}
use Rattle.pa_meaning.specs.Directions.{Makes, Stuck}
use Rattle.pa_meaning.specs.Shifting.{less_weighted}
use Rattle.pa_meaning.specs.Contracts.{Name, Contract, Behaviour}
use Rattle.pa_meaning.specs.Composition.{all_outputs, external_inputs, names_of, assumptions_over, guarantees_over, part_at, IsExactAtNominal}
use Rattle.pa_meaning.specs.Composition.{AreGuaranteesOf, IsDischargedBefore, IsStuckForGood, IsBrokenSomewhere, IsCircle, AreNeverDischarged}
use Rattle.pa_witness.specs.Discharge.{Discharge, DischargedPart, DischargeHolds, discharged, earlier_guarantees}
use Rattle.pa_contract.specs.Nominal.{Nominal, value_of}
use Rattle.pa_holds.specs.Composed.{shifted_assumptions}
use Rattle.pa_trial.specs.Meant.{IsNominalAt}
use Rattle.pa_discharge.specs.declared.fault.DischargeFault.{DischargeFault}
use Rattle.pa_discharge.specs.declared.fault.DischargeFault.TheVariants.{NoMultipliers, Circle}
use Rattle.pa_discharge.specs.Rounds.{Discharged}

-- ---- rounds
-- the part at this place is discharged in this round: not before it, and before the next one
pub record IsDischargedIn (parts : List Contract) (round i : ℕ) : Type 0 where
  pub before : IsDischargedBefore parts (suc round) i
  pub not_earlier : ¬ IsDischargedBefore parts round i

-- each part is discharged in the round that stands with it
abbrev pub AreRounds : List Contract → List Discharge → Type 0
AreRounds parts ds = (i : ℕ) (d : Discharge) → slice_get ds i ≡ Some d → IsDischargedIn parts d.round i

-- ---- the nominal values
-- what the shifts of a part leave of its assumptions is exact at this behaviour, over the guarantees of the parts of smaller rounds
abbrev pub IsExactPart : List Contract → List DischargedPart → Behaviour → DischargedPart → Type 0
IsExactPart parts all v e = AllZip
    (λ t w. IsExactAtNominal (external_inputs parts) (names_of parts) (earlier_guarantees (names_of parts) all e.discharge.round) t
    (less_weighted t (earlier_guarantees (names_of parts) all e.discharge.round) w) v)
    (assumptions_over (names_of parts) e.part) e.discharge.shifts

-- the same of each part, at each behaviour with the nominal values
abbrev pub AreExactAtNominal : List Contract → Nominal → List Discharge → Type 0
AreExactAtNominal parts nominal ds =
    (v : Behaviour) → IsNominalAt nominal (external_inputs parts) v → All (IsExactPart parts (discharged parts ds) v) (discharged parts ds)

-- ---- refusals
-- an assumption of a part, over the outputs
abbrev pub term_at : List Contract → ℕ → ℕ → Row
term_at parts i row = row_at (assumptions_over (all_outputs parts) (part_at parts i)) row

-- an assumption of a part, by the places of both
abbrev pub IsTermOf : List Contract → ℕ → ℕ → Type 0
IsTermOf parts i row = (i < length parts) × (row < length (part_at parts i).assumptions)

-- the assumption stands before the other one, by part and row
abbrev pub IsEarlier : ℕ → ℕ → Stuck → Type 0
IsEarlier i row s = (i < s.part) ⊎ ((i ≡ s.part) × (row < s.row))

-- some weights over all parts' guarantees make it in the columns of the outputs
abbrev pub HasMultipliers : List Contract → ℕ → ℕ → Type 0
HasMultipliers parts i row = (w : Weights) × Makes w (flat_map (guarantees_over (all_outputs parts)) parts) (term_at parts i row)

-- some weights over guarantees of parts that are discharged in some round do
abbrev pub CanBeServed : List Contract → ℕ → ℕ → Type 0
CanBeServed parts i row = (rows : List Row) × (w : Weights) × (r : ℕ)
    × AreGuaranteesOf parts (IsDischargedBefore parts r) rows × Makes w rows (term_at parts i row)

-- the direction has a number for each output
abbrev pub HasNumbers : List Contract → Stuck → Type 0
HasNumbers parts s = length s.direction ≡ length (all_outputs parts)

-- The direction sticks the assumption, which is the first one, by part and row, without weights over all parts' guarantees. From each behaviour
-- that meets all guarantees one reaches another one, with the same external inputs, that meets them and breaks the assumption.
pub record IsFirstStuck (parts : List Contract) (s : Stuck) : Type 0 where
  pub numbers : HasNumbers parts s
  pub stuck : IsStuckForGood parts s
  pub first : (i row : ℕ) → IsTermOf parts i row → IsEarlier i row s → HasMultipliers parts i row
  pub broken : IsBrokenSomewhere parts s.part s.row

-- the row of a stuck part is its first one that the parts that are discharged can't serve
pub record IsFirstUnserved (parts : List Contract) (s : Stuck) : Type 0 where
  pub unserved : ¬ CanBeServed parts s.part s.row
  pub first : (row : ℕ) → row < s.row → CanBeServed parts s.part row

-- Each assumption has weights over all parts' guarantees, and yet these parts, which are all that are discharged in no round, wait for one another:
-- each with the first of its assumptions that the other parts can't serve.
pub record IsWholeCircle (parts : List Contract) (stuck : List Stuck) : Type 0 where
  pub numbers : All (HasNumbers parts) stuck
  pub circle : IsCircle parts stuck
  pub multipliers : (i row : ℕ) → IsTermOf parts i row → HasMultipliers parts i row
  pub never : AreNeverDischarged parts stuck
  pub others : (i : ℕ) → i < length parts → All (λ (s : Stuck). ¬ (i ≡ s.part)) stuck → (r : ℕ) × IsDischargedBefore parts r i
  pub rows : All (IsFirstUnserved parts) stuck

-- what a refusal says of the parts
abbrev pub IsTrueRefusal : List Contract → DischargeFault → Type 0
IsTrueRefusal parts (NoMultipliers s) = IsFirstStuck parts s
IsTrueRefusal parts (Circle stuck) = IsWholeCircle parts stuck
IsTrueRefusal parts other = Unit {0}

-- ---- the parts discharged
-- The weights of each part, over the guarantees of the parts of smaller rounds, leave nothing of its assumptions in the columns of the outputs, and
-- these rows are left of the assumptions of all parts.
pub record AreDischargedAt (parts : List Contract) (nominal : Nominal) (d : Discharged) : Type 0 where
  pub one_each : length d.discharges ≡ length parts
  pub holds : All (DischargeHolds (names_of parts) (length (external_inputs parts)) (discharged parts d.discharges)) (discharged parts d.discharges)
  pub left : d.assumptions ≡ shifted_assumptions parts d.discharges
  pub rounds : AreRounds parts d.discharges
  pub exact : AreExactAtNominal parts nominal d.discharges
