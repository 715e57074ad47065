-- What private functions of the rounds find and hold. No public clause names one of these but CanDischarge.
use Rattle.std.specs.Prelude.{◌≡◌, ◌⊎◌, ◌≤◌, ◌<◌, ◌+◌, ℕ, List, [], ◌∷◌, ◌++◌, length, map, replicate, sum_by, nat_eq}
use Rattle.std.specs.Prelude.{Option, None, Some, Result, Err, if◌then◌else◌, All}
use Rattle.pa_meaning.specs.Rows.{Row, Point}
use Rattle.pa_meaning.specs.Contracts.{Contract}
use Rattle.pa_meaning.specs.Composition.{external_inputs, names_of, guarantees_over}
use Rattle.pa_contract.specs.Merge.{row_count}
use Rattle.pa_shift.specs.Shifting.{Premises, with_between}
use Rattle.pa_trial.specs.Meant.{CanTry}
use Rattle.pa_parts.specs.Composing.{Ports, ArePortsOf, names_in}
use Rattle.pa_discharge.specs.declared.fault.DischargeFault.{DischargeFault}
use Rattle.pa_discharge.specs.declared.fault.DischargeFault.TheVariants as fault
use Rattle.pa_discharge.specs.Rounds.{Brought, Discharged}
use Rattle.pa_discharge.specs.Discharging.{Asked, terms_of, discharged_rows}

-- ---- trials
-- each list of terms can be tried
abbrev pub CanTryEach : ℕ → Premises → List (List Row) → Type 0
CanTryEach n premises terms = All (CanTry n premises) terms

-- ---- what is composed
-- the parts with their names, and their assumptions over these, of which there are this many
pub record Composition : Type 0 where
  pub parts : List Contract
  pub ports : Ports
  pub terms : List (List Row)
  pub columns : ℕ

-- it is that of at most 32 parts, with at most 128 names and at most 4,096 rows
pub record CanDischarge (c : Composition) : Type 0 where
  pub names : ArePortsOf c.parts c.ports
  pub rows : c.terms ≡ terms_of c.parts
  pub wide : c.columns ≡ length (names_in c.ports)
  pub short : c.columns ≤ 128
  pub few_parts : length c.parts ≤ 32
  pub few : sum_by row_count c.parts ≤ 4096

-- what is asked of it, at a nominal point and with a limit of pivots
abbrev pub asked_by : Composition → Point → ℕ → Asked
asked_by c x most = record { parts = c.parts; nominal = x; most = most }

-- ---- rounds
-- how the parts stand, with the guarantees of those that are discharged
pub record Discharging : Type 0 where
  pub brought : List (Option Brought)
  pub premises : Premises

-- before any round
abbrev pub start_of : ℕ → Point → Discharging
start_of count x = record { brought = replicate count None; premises = record { nominal = x; rows = [] } }

-- how a part stood before this round
abbrev pub before : ℕ → Option Brought → Option Brought
before round None = None
before round (Some b) = if nat_eq b.round round then None else Some b

-- the part was discharged before this round, or is not discharged
abbrev pub IsBefore : ℕ → Option Brought → Type 0
IsBefore round None = Unit {0}
IsBefore round (Some b) = b.round < round

-- a round leads from these parts to the new ones: before it they stood so, and each that is discharged now was so in this round or before it
pub record IsAfter (round : ℕ) (old new : List (Option Brought)) : Type 0 where
  pub parts : length new ≡ length old
  pub same : map (before round) new ≡ old
  pub rounds : All (IsBefore (round + 1)) new

-- the state before this round: the premises are the guarantees of the parts that are discharged
pub record IsStanding (c : Composition) (round : ℕ) (d : Discharging) : Type 0 where
  pub parts : length d.brought ≡ length c.parts
  pub rows : d.premises.rows ≡ discharged_rows (names_of c.parts) c.parts d.brought
  pub nominal : length d.premises.nominal.p ≡ length (external_inputs c.parts)
  pub rounds : All (IsBefore round) d.brought

-- premises that are grown part by part, and how many rows of the parts so far are among them
pub record Grown : Type 0 where
  pub premises : Premises
  pub place : ℕ

-- once the next part is passed
abbrev pub with_guarantees : Ports → Contract → Grown → Premises
with_guarantees ports part g = record {
  nominal = g.premises.nominal;
  rows = with_between g.place (guarantees_over (names_in ports) part) g.premises.rows;
}

abbrev pub after_part : Ports → ℕ → Contract → Option Brought → Grown → Grown
after_part ports round part None g = g
after_part ports round part (Some b) g = record {
  premises = if nat_eq b.round round then with_guarantees ports part g else g.premises;
  place = g.place + length part.guarantees;
}

-- the premises are the guarantees of the parts that were discharged before this round
abbrev pub IsGrown : List Contract → ℕ → List (Option Brought) → Premises → Type 0
IsGrown parts round bs premises = premises.rows ≡ discharged_rows (names_of parts) parts (map (before round) bs)

-- the fault is this refusal, or want of memory
abbrev pub IsRefusal : Result (List (Option Brought)) DischargeFault → DischargeFault → Type 0
IsRefusal due f = (f ≡ fault.Memory) ⊎ (due ≡ Err f)

-- ---- what the rounds leave
-- what the parts so far leave, and one part more
abbrev pub with_part : Discharged → Option Brought → Discharged
with_part rest None = rest
with_part rest (Some b) = record {
  discharges = rest.discharges ++ record { round = b.round; shifts = b.lefts.weights } ∷ [];
  assumptions = rest.assumptions ++ b.lefts.rows;
}
