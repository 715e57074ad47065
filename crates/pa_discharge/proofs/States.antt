-- How the parts stand between rounds, and what the refusals find: what the theorems on the definitions speak of, beside the contracts.
use Rattle.std.proofs.Common.{◌≡◌, ◌⊎◌, ◌≤◌, ◌<◌, ℕ, suc, List, [], ◌∷◌, length, map, Option, None, Some, All}
use Rattle.std.specs.Prelude.{◌↔◌, take, sum_by, nat_lt, pos, ◌<ℤ◌, if◌then◌else◌, slice_get}
use Rattle.std.specs.List.{AllZip, IsDistinct}
use Rattle.std.specs.Str.{bytes_eq}
use Rattle.pa_meaning.specs.Rows.{Row, row_at}
use Rattle.pa_meaning.specs.Weights.{Weights}
use Rattle.pa_meaning.specs.Directions.{Stuck}
use Rattle.pa_meaning.specs.Shifting.{Leaves, shifted}
use Rattle.pa_meaning.specs.Composition.{all_outputs, external_inputs, names_of, IsDischargedBefore}
use Rattle.pa_contract.specs.Merge.{row_count}
use Rattle.pa_contract.specs.WellFormed.{IsWellFormed}
use Rattle.pa_witness.specs.Shifts.{ShiftsHold, shifted_rows}
use Rattle.pa_shift.specs.Shifting.{Premises}
use Rattle.pa_shift.specs.Meant.{IsExactAt, ShowsStuck}
use Rattle.pa_trial.specs.declared.trial.Trial.{Trial}
use Rattle.pa_trial.specs.declared.trial.Trial.TheVariants.{Through, Stopped}
use Rattle.pa_trial.specs.Meant.{AreServed, IsTrial}
use Rattle.pa_discharge.specs.Rounds.{Brought}
use Rattle.pa_discharge.specs.Discharging.{Asked, terms_of, premises_of, discharged_count}

-- ---- trials
-- a trial of these terms of the part ended at this row
abbrev pub StopsAt : Premises → ℕ → List Row → Stuck → Type 0
StopsAt premises part terms s = (s.part ≡ part) × IsTrial premises terms (Stopped s.row s.direction)

-- the stuck rows are those at which the trials of the undischarged parts ended, of which the first part has this place
abbrev pub AreStuck : Premises → ℕ → List (List Row) → List (Option Brought) → List Stuck → Type 0
AreStuck premises part [] bs ss = ss ≡ []
AreStuck premises part (rows ∷ terms) [] ss = ss ≡ []
AreStuck premises part (rows ∷ terms) (Some b ∷ bs) ss = AreStuck premises (suc part) terms bs ss
AreStuck premises part (rows ∷ terms) (None ∷ bs) [] = ⊥
AreStuck premises part (rows ∷ terms) (None ∷ bs) (s ∷ ss) = StopsAt premises part rows s × AreStuck premises (suc part) terms bs ss

-- the row at which the first trial of an undischarged part ended, where one did: all trials before it went through
abbrev pub IsFirstFound : Premises → ℕ → List (List Row) → List (Option Brought) → Option Stuck → Type 0
IsFirstFound premises part [] bs found = found ≡ None
IsFirstFound premises part (rows ∷ terms) [] found = found ≡ None
IsFirstFound premises part (rows ∷ terms) (Some b ∷ bs) found = IsFirstFound premises (suc part) terms bs found
IsFirstFound premises part (rows ∷ terms) (None ∷ bs) None = AreServed premises rows × IsFirstFound premises (suc part) terms bs None
IsFirstFound premises part (rows ∷ terms) (None ∷ bs) (Some s) =
    StopsAt premises part rows s ⊎ (AreServed premises rows × IsFirstFound premises (suc part) terms bs (Some s))

-- ---- what is asked
-- parts that are well formed, of which no two make the same output, with at most 128 names and 4,096 rows; the nominal point has a number for each
-- external input
pub record CanAsk (asked : Asked) : Type 0 where
  pub formed : All IsWellFormed asked.parts
  pub apart : IsDistinct bytes_eq (all_outputs asked.parts)
  pub few : sum_by row_count asked.parts ≤ 4096
  pub short : length (names_of asked.parts) ≤ 128
  pub fits : length asked.nominal.p ≡ length (external_inputs asked.parts)
  pub positive : pos 0 <ℤ asked.nominal.q

-- ---- the states between rounds
-- how a part stood before an earlier round: what was discharged in that round or after it was not yet
abbrev pub before_round : ℕ → Option Brought → Option Brought
before_round round None = None
before_round round (Some b) = if nat_lt b.round round then Some b else None

-- the premises of an earlier round
abbrev pub premises_before : Asked → ℕ → List (Option Brought) → Premises
premises_before asked round bs = premises_of asked (map (before_round round) bs)

-- the part could not be discharged in any round before this one
abbrev pub IsUnserved : Asked → ℕ → List (Option Brought) → List Row → Type 0
IsUnserved asked round bs terms = (r : ℕ) → r < round → ¬ AreServed (premises_before asked r bs) terms

-- before this round, a part is discharged over the guarantees of the parts of rounds before its own, and could not be in an earlier round; one that is
-- not discharged could not be either
abbrev pub IsHeld : Asked → ℕ → List (Option Brought) → Option Brought → List Row → Type 0
IsHeld asked round bs None terms = IsUnserved asked round bs terms
IsHeld asked round bs (Some b) terms =
    (b.round < round) × IsTrial (premises_before asked b.round bs) terms (Through b.lefts) × IsUnserved asked b.round bs terms

-- the state before this round
pub record IsState (asked : Asked) (round : ℕ) (bs : List (Option Brought)) : Type 0 where
  pub parts : length bs ≡ length asked.parts
  pub held : AllZip (IsHeld asked round bs) bs (terms_of asked.parts)
  pub progress : round ≤ discharged_count bs

-- the parts stand so, and this round discharges none: the trials of the others end at these rows
pub record IsLastRound (asked : Asked) (round : ℕ) (bs : List (Option Brought)) (stuck : List Stuck) : Type 0 where
  pub state : IsState asked round bs
  pub ends : AreStuck (premises_of asked bs) 0 (terms_of asked.parts) bs stuck
  pub some : discharged_count bs < length asked.parts

-- ---- rounds and meaning
-- a part that is discharged is so, by the meaning, exactly before the rounds behind its own
abbrev pub AreTimely : Asked → List (Option Brought) → Type 0
AreTimely asked bs = (i : ℕ) (b : Brought) → slice_get bs i ≡ Some (Some b) → (r : ℕ) → IsDischargedBefore asked.parts r i ↔ (b.round < r)

-- one half of it
abbrev pub AreInTime : Asked → List (Option Brought) → Type 0
AreInTime asked bs = (i : ℕ) (b : Brought) → slice_get bs i ≡ Some (Some b) → IsDischargedBefore asked.parts (suc b.round) i
