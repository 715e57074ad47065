-- What follows from the definitions alone, with no procedure. Each law is the clause of a function of its name in
-- `src/laws.rt`.
use Rattle.std.specs.Prelude.{◌≡◌, ◌↔◌, ℕ, List, length, ℤ, pos, ◌<ℤ◌, All}
use Rattle.std.specs.List.{IsDistinct}
use Rattle.std.specs.Str.{bytes_eq}
use Rattle.pa_math.specs.Lists.{AreAmong, AreApart}
use Rattle.pa_meaning.specs.Rows.{Row, Point, Meets, MeetsAll}
use Rattle.pa_meaning.specs.Weights.{Weights, NoneNegative, Proves}
use Rattle.pa_meaning.specs.Contracts.{Name, Contract, ports, Behaviour, point_over, over_names, behaviour_of}
use Rattle.pa_meaning.specs.Directions.{Stuck, Sticks, Makes}
use Rattle.pa_meaning.specs.Shifting.{less_weighted}
use Rattle.pa_meaning.specs.Composition.{all_outputs, IsStuckForGood, IsBrokenSomewhere, IsCircle, AreNeverDischarged}
use Rattle.pa_meaning.specs.Quotient.{IsStuckGuarantee, IsGuaranteeBroken}

-- a row over wider names says of a behaviour what the row says over its own
abbrev pub RowsKeepTheirMeaning : Type 0
RowsKeepTheirMeaning = (names wider : List Name) (v : Behaviour) → IsDistinct bytes_eq names → IsDistinct bytes_eq wider
    → AreAmong bytes_eq names wider → (r : Row) → Meets (over_names names wider r) (point_over wider v) ↔ Meets r (point_over names v)

-- a point over different names, read as a behaviour, is that point over them
abbrev pub PointsAreBehaviours : Type 0
PointsAreBehaviours = (names : List Name) (x : Point) (up : pos 0 <ℤ x.q) → IsDistinct bytes_eq names → length x.p ≡ length names
    → point_over names (behaviour_of names x up) ≡ x

-- what weights prove over rows holds at each point that meets them
abbrev pub ProvedRowsAreMet : Type 0
ProvedRowsAreMet = (w : Weights) (rows : List Row) (row : Row) (x : Point) → pos 0 <ℤ x.q → Proves w rows row → MeetsAll rows x → Meets row x

-- a point that meets the rows, and what weights leave of a term, meets the term
abbrev pub LeftTermsAreEnough : Type 0
LeftTermsAreEnough = (t : Row) (rows : List Row) (w : Weights) (x : Point) → pos 0 <ℤ w.den → NoneNegative w.parts
    → MeetsAll rows x → Meets (less_weighted t rows w) x → Meets t x

-- where a direction sticks a row, no weights make it
abbrev pub NoWeightsWhereStuck : Type 0
NoWeightsWhereStuck = (d : List ℤ) (rows : List Row) (t : Row) (w : Weights) → Sticks d rows t → ¬ Makes w rows t

-- an assumption that a direction sticks over all parts' guarantees can be broken from everywhere
abbrev pub StuckRowsAreBroken : Type 0
StuckRowsAreBroken = (parts : List Contract) → All (λ p. IsDistinct bytes_eq (ports p)) parts → IsDistinct bytes_eq (all_outputs parts)
    → (s : Stuck) → IsStuckForGood parts s → IsBrokenSomewhere parts s.part s.row

-- and so can a guarantee of the whole that a direction sticks over the part's guarantees
abbrev pub StuckGuaranteesAreBroken : Type 0
StuckGuaranteesAreBroken = (whole part : Contract) (row : ℕ) (d : List ℤ) → IsDistinct bytes_eq (ports whole) → IsDistinct bytes_eq (ports part)
    → AreApart bytes_eq whole.inputs part.outputs → IsStuckGuarantee whole part row d → IsGuaranteeBroken whole part row

-- no part of a circle is discharged in any round
abbrev pub CirclesStay : Type 0
CirclesStay = (parts : List Contract) (stuck : List Stuck) → IsCircle parts stuck → AreNeverDischarged parts stuck
