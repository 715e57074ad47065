-- What the certificates show. Each law is the clause of a function of its name in `src/laws.rt`.
use Rattle.std.specs.Prelude.{◌≡◌, ◌↔◌, ℕ, suc, List, ◌++◌, length, map, slice_get, Some, pos, ◌*ℤ◌, ◌<ℤ◌, All}
use Rattle.std.specs.List.{IsDistinct}
use Rattle.std.specs.Str.{bytes_eq}
use Rattle.pa_meaning.specs.Rows.{Row, Point, MeetsAll}
use Rattle.pa_ring.specs.Sums.{dot}
use Rattle.pa_meaning.specs.Weights.{Weights, combined}
use Rattle.pa_meaning.specs.Contracts.{Name, Contract, ports, Behaviour, Extends, point_over, MeetsAssumptions, MeetsGuarantees, Keeps}
use Rattle.pa_meaning.specs.Shifting.{less_weighted, Leaves}
use Rattle.pa_meaning.specs.Composition.{external_inputs, all_outputs, names_of, IsDischargedBefore, IsExactAtNominal}
use Rattle.pa_witness.specs.Thinning.{Dropped, thinned, ThinningHolds}
use Rattle.pa_witness.specs.Steps.{Version, stepped, IsElimination}
use Rattle.pa_witness.specs.Projection.{names_left, AreThere, projected, StepsHold}
use Rattle.pa_witness.specs.Columns.{ExtendsAt, projected_columns, ColumnStepsHold}
use Rattle.pa_witness.specs.Discharge.{Discharge, discharged, DischargeHolds, all_discharge_rows}

-- at a point that meets the context, the thinned list is met exactly where the given one is
abbrev pub ThinningIsExact : Type 0
ThinningIsExact = (n : ℕ) (rows context : List Row) (drops : List Dropped) (x : Point) → pos 0 <ℤ x.q
    → ThinningHolds n rows context drops → MeetsAll context x → MeetsAll (thinned n rows drops) x ↔ MeetsAll rows x

-- a point meets the rows of a step, of either version, exactly where some extension of it meets the given rows
abbrev pub StepIsExact : Type 0
StepIsExact = (v : Version) (k : ℕ) (rows : List Row) → IsElimination k rows (stepped v k rows)

-- the same of several columns, one after another, each list thinned
abbrev pub ColumnsAreExact : Type 0
ColumnsAreExact = (v : Version) (most n : ℕ) (rows : List Row) (ks : List ℕ) (steps : List (List Dropped))
    → ColumnStepsHold v most n rows ks steps → (x : Point) → pos 0 <ℤ x.q
    → MeetsAll (projected_columns v n rows ks steps) x ↔ ((y : Point) × ExtendsAt ks x y × MeetsAll rows y)

-- the same by names: a behaviour meets the rows that are left exactly where some extension, from the names that are left,
-- meets the given rows
abbrev pub ProjectionIsExact : Type 0
ProjectionIsExact = (s : Version) (most : ℕ) (names : List Name) (rows : List Row) (gone : List Name) (steps : List (List Dropped))
    → IsDistinct bytes_eq names → AreThere names gone → StepsHold s most names rows gone steps
    → (v : Behaviour) → MeetsAll (projected s names rows gone steps) (point_over (names_left names gone) v)
    ↔ ((w : Behaviour) × Extends (names_left names gone) v w × MeetsAll rows (point_over names w))

-- ---- parts that are discharged round by round
-- each part has its discharge, whose shifts hold over the guarantees of the parts of smaller rounds
pub record AreDischarged (parts : List Contract) (ds : List Discharge) : Type 0 where
  pub one_each : length ds ≡ length parts
  pub hold : All (DischargeHolds (names_of parts) (length (external_inputs parts)) (discharged parts ds)) (discharged parts ds)

-- a behaviour that meets what the shifts leave of all parts' assumptions, and keeps every part, meets every part's
-- assumptions and guarantees
abbrev pub DischargedPartsAreMet : Type 0
DischargedPartsAreMet = (parts : List Contract) (ds : List Discharge) (v : Behaviour) → All (λ p. IsDistinct bytes_eq (ports p)) parts
    → IsDistinct bytes_eq (all_outputs parts) → AreDischarged parts ds
    → MeetsAll (all_discharge_rows (names_of parts) (length (external_inputs parts)) (discharged parts ds)) (point_over (external_inputs parts) v)
    → All (λ p. Keeps p v) parts → All (λ p. MeetsAssumptions p v × MeetsGuarantees p v) parts

-- each part is discharged in the round of its discharge, or before
abbrev pub DischargesAreInTime : Type 0
DischargesAreInTime = (parts : List Contract) (ds : List Discharge) → AreDischarged parts ds
    → (i : ℕ) (d : Discharge) → slice_get ds i ≡ Some d → IsDischargedBefore parts (suc d.round) i

-- Where an extension of the nominal behaviour meets the rows, and the weighted rows exactly, what the weights leave of a term is
-- exact at the nominal behaviour: no weaker row that mentions the external names alone would do.
abbrev pub LeftTermsAreExactAtNominal : Type 0
LeftTermsAreExactAtNominal = (external others : List Name) (given : List Row) (term : Row) (w : Weights) (nominal u : Behaviour)
    → Leaves (length external) given term w → Extends external nominal u → MeetsAll given (point_over (external ++ others) u)
    → dot (combined w.parts given).c (map u.value (external ++ others)) ≡ (combined w.parts given).b *ℤ u.den
    → IsExactAtNominal external (external ++ others) given term (less_weighted term given w) nominal
