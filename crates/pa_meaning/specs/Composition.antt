-- The composite of several parts: what it assumes discharges what the parts assume, and what it guarantees is what shows
-- of the parts' guarantees at its own ports.
use Rattle.std.specs.Prelude.{◌≡◌, ◌↔◌, ◌⊎◌, ℕ, zero, suc, ◌<◌, List, [], ◌∷◌, ◌++◌, length, map, filter, flat_map, nat_eq}
use Rattle.std.specs.Prelude.{Bool, not, ◌||◌, if◌then◌else◌, All, Contains, AllPairs}
use Rattle.std.specs.List.{list_any}
use Rattle.std.specs.Str.{bytes_eq}
use Rattle.pa_math.specs.Lists.{without_repeats}
use Rattle.pa_meaning.specs.Rows.{Row, Meets, MeetsAll, Breaks, row_at}
use Rattle.pa_meaning.specs.Weights.{Weights}
use Rattle.pa_meaning.specs.Contracts.{Name, Contract, ports, Behaviour, Extends, point_over, over_names, MeetsAssumptions, MeetsGuarantees, Keeps}
pub use Rattle.pa_meaning.specs.Directions.{Stuck}
use Rattle.pa_meaning.specs.Directions.{Sticks, Makes}

-- ---- the ports
abbrev pub is_among : List Name → Name → Bool
is_among names name = list_any (bytes_eq name) names

-- all inputs of the parts, and all outputs, part by part
abbrev pub all_inputs : List Contract → List Name
all_inputs parts = flat_map (λ p. p.inputs) parts

abbrev pub all_outputs : List Contract → List Name
all_outputs parts = flat_map (λ p. p.outputs) parts

-- the inputs that no part makes, each where it is first met
abbrev pub external_inputs : List Contract → List Name
external_inputs parts = without_repeats bytes_eq (filter (λ name. not (is_among (all_outputs parts) name)) (all_inputs parts))

-- an output is kept where no part takes it or where the keep list has it; the others are internal
abbrev pub is_kept : List Contract → List Name → Name → Bool
is_kept parts keep name = not (is_among (all_inputs parts) name) || is_among keep name

abbrev pub kept_outputs : List Contract → List Name → List Name
kept_outputs parts keep = filter (is_kept parts keep) (all_outputs parts)

abbrev pub internal_outputs : List Contract → List Name → List Name
internal_outputs parts keep = filter (λ name. not (is_kept parts keep name)) (all_outputs parts)

-- the names of the composition
abbrev pub names_of : List Contract → List Name
names_of parts = external_inputs parts ++ all_outputs parts

-- ---- what the composite means
-- A behaviour that meets the composite's assumptions and keeps every part meets every part's assumptions and guarantees.
abbrev pub DischargesParts : List Contract → Contract → Type 0
DischargesParts parts c =
    (v : Behaviour) → MeetsAssumptions c v → All (λ p. Keeps p v) parts → All (λ p. MeetsAssumptions p v × MeetsGuarantees p v) parts

-- A behaviour meets the guarantees of c exactly where some extension, from the ports of c, meets every part's guarantees.
abbrev pub ProjectsExactly : List Contract → Contract → Type 0
ProjectsExactly parts c = (v : Behaviour) → MeetsGuarantees c v ↔ ((w : Behaviour) × Extends (ports c) v w × All (λ p. MeetsGuarantees p w) parts)

pub record IsComposite (parts : List Contract) (keep : List Name) (c : Contract) : Type 0 where
  pub inputs : c.inputs ≡ external_inputs parts
  pub outputs : c.outputs ≡ kept_outputs parts keep
  pub sound : DischargesParts parts c
  pub exact : ProjectsExactly parts c

-- the contract without these outputs: the assumptions stay, and the guarantees are what shows of them at the other ports
pub record IsHidden (c : Contract) (names : List Name) (hidden : Contract) : Type 0 where
  pub inputs : hidden.inputs ≡ c.inputs
  pub outputs : hidden.outputs ≡ filter (λ name. not (is_among names name)) c.outputs
  pub assumptions : hidden.assumptions ≡ c.assumptions
  pub exact : ProjectsExactly (c ∷ []) hidden

-- the nominal behaviour: where some extension of it, from the external inputs, meets these guarantees, it meets the shifted row
-- exactly where every such extension meets the term
pub record IsExactAtNominal (external names : List Name) (given : List Row) (term left : Row) (nominal : Behaviour) : Type 0 where
  pub exact : (w : Behaviour) → Extends external nominal w → MeetsAll given (point_over names w)
      → Meets left (point_over names nominal)
      ↔ ((u : Behaviour) → Extends external nominal u → MeetsAll given (point_over names u) → Meets term (point_over names u))

-- ---- which parts can be discharged, round by round
-- the rows of a part over other names
abbrev pub assumptions_over : List Name → Contract → List Row
assumptions_over names p = map (over_names p.inputs names) p.assumptions

abbrev pub guarantees_over : List Name → Contract → List Row
guarantees_over names p = map (over_names (ports p) names) p.guarantees

-- the part at a place; past the end one without ports
abbrev pub part_at : List Contract → ℕ → Contract
part_at [] i = record { inputs = []; outputs = []; assumptions = []; guarantees = [] }
part_at (p ∷ ps) zero = p
part_at (p ∷ ps) (suc i) = part_at ps i

-- each row is a guarantee of one of these parts, over the outputs
abbrev pub AreGuaranteesOf : List Contract → (ℕ → Type 0) → List Row → Type 0
AreGuaranteesOf parts these rows = All (λ g. (j : ℕ) × these j × (j < length parts) × Contains (guarantees_over (all_outputs parts) (part_at parts j)) g) rows

-- The part is discharged before this round: before an earlier one, or some guarantees of the parts that are discharged
-- before it make, in the columns of the outputs, each assumption of the part.
abbrev pub IsDischargedBefore : List Contract → ℕ → ℕ → Type 0
IsDischargedBefore parts zero i = ⊥
IsDischargedBefore parts (suc r) i = IsDischargedBefore parts r i
    ⊎ ((i < length parts)
    × All (λ t. (rows : List Row) × (w : Weights) × AreGuaranteesOf parts (IsDischargedBefore parts r) rows × Makes w rows t)
    (assumptions_over (all_outputs parts) (part_at parts i)))

-- ---- parts that are never discharged
abbrev pub stuck_row : List Contract → Stuck → Row
stuck_row parts s = row_at (assumptions_over (all_outputs parts) (part_at parts s.part)) s.row

pub record IsPlaced (parts : List Contract) (s : Stuck) : Type 0 where
  pub part : s.part < length parts
  pub row : s.row < length (part_at parts s.part).assumptions

-- the direction sticks the assumption over the guarantees of all parts: no weights make it
pub record IsStuckForGood (parts : List Contract) (s : Stuck) : Type 0 where
  pub placed : IsPlaced parts s
  pub sticks : Sticks s.direction (flat_map (guarantees_over (all_outputs parts)) parts) (stuck_row parts s)

-- the place is that of a listed part
abbrev pub is_listed : List Stuck → ℕ → Bool
is_listed stuck i = list_any (λ s. nat_eq i s.part) stuck

-- the guarantees, over the names, of the parts whose places pass the test, where the first part has the place i
abbrev pub guarantees_where : List Name → (ℕ → Bool) → ℕ → List Contract → List Row
guarantees_where names test i [] = []
guarantees_where names test i (p ∷ parts) = (if test i then guarantees_over names p else []) ++ guarantees_where names test (suc i) parts

-- each listed part waits for the others: its direction sticks one of its assumptions over the guarantees of the parts that
-- are not listed
pub record IsCircle (parts : List Contract) (stuck : List Stuck) : Type 0 where
  pub some : 0 < length stuck
  pub ascending : AllPairs (λ (s t : Stuck). s.part < t.part) stuck
  pub placed : All (IsPlaced parts) stuck
  pub sticks : All (λ s. Sticks s.direction (guarantees_where (all_outputs parts) (λ i. not (is_listed stuck i)) 0 parts) (stuck_row parts s)) stuck

-- ---- why these are final
-- From a behaviour that meets every part's guarantees one reaches another with the same external inputs that does so too
-- and breaks the assumption.
abbrev pub IsBrokenSomewhere : List Contract → ℕ → ℕ → Type 0
IsBrokenSomewhere parts i row = (v : Behaviour) → All (λ p. MeetsGuarantees p v) parts
    → (w : Behaviour) × Extends (external_inputs parts) v w × All (λ p. MeetsGuarantees p w) parts
    × Breaks (row_at (part_at parts i).assumptions row) (point_over (part_at parts i).inputs w)

-- no listed part is discharged in any round
abbrev pub AreNeverDischarged : List Contract → List Stuck → Type 0
AreNeverDischarged parts stuck = All (λ s. (r : ℕ) → ¬ IsDischargedBefore parts r s.part) stuck
