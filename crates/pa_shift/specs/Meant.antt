-- What the answers say, of rows, points and weights alone.
use Rattle.std.specs.Prelude.{◌≡◌, ◌↔◌, ℕ, ◌+◌, ◌≤◌, List, length, map, take, drop, ℤ, pos, ◌<ℤ◌, All}
use Rattle.pa_ring.specs.Sums.{SameNumbers, times}
use Rattle.pa_meaning.specs.Rows.{Row, Point, Meets, MeetsAll}
use Rattle.pa_meaning.specs.Weights.{Weights}
use Rattle.pa_meaning.specs.Directions.{Sticks}
use Rattle.pa_meaning.specs.Shifting.{Leaves, shifted}
use Rattle.pa_witness.specs.Shifts.{ShiftHolds}
use Rattle.pa_shift.specs.declared.shifting.Shifted.{Shifted}
use Rattle.pa_shift.specs.declared.shifting.Shifted.TheVariants.{Term, Ray}
use Rattle.pa_shift.specs.Shifting.{Premises}

-- the row over the columns behind the first n
abbrev pub back_row : ℕ → Row → Row
back_row n row = record { c = drop n row.c; b = row.b }

-- the point y extends x: it has the same fractions in the columns of x, which come first
pub record ExtendsInFront (x y : Point) : Type 0 where
  pub positive : pos 0 <ℤ y.q
  pub agrees : SameNumbers (times x.q (take (length x.p) y.p)) (times y.q x.p)

-- Where some extension of the nominal point meets the given rows, the point meets the row exactly where every such extension meets the term: no
-- row that shows the term asks less there.
abbrev pub IsExactAt : Premises → Row → Row → Type 0
IsExactAt given t row = (y : Point) → ExtendsInFront given.nominal y → MeetsAll given.rows y
    → Meets row given.nominal ↔ ((z : Point) → ExtendsInFront given.nominal z → MeetsAll given.rows z → Meets t z)

-- The row is what the weights leave of the term, with 0 in the columns that go: at a point that meets the given rows it is enough for the term.
pub record ShowsLeft (given : Premises) (t row : Row) (w : Weights) : Type 0 where
  pub holds : ShiftHolds (length given.nominal.p) given.rows t w
  pub left : row ≡ shifted t given.rows w
  pub columns : length row.c ≡ length t.c
  pub enough : (y : Point) → MeetsAll given.rows y → Meets row y → Meets t y
  pub exact : IsExactAt given t row

-- Along the direction, in the columns that go, none of the given rows rises and the term does. So no weights equal the term there.
pub record ShowsStuck (given : Premises) (t : Row) (d : List ℤ) : Type 0 where
  pub columns : length given.nominal.p + length d ≡ length t.c
  pub sticks : Sticks d (map (back_row (length given.nominal.p)) given.rows) (back_row (length given.nominal.p) t)
  pub none : (w : Weights) → ¬ Leaves (length given.nominal.p) given.rows t w

-- what an answer says of the given rows and the term
abbrev pub IsShifting : Premises → Row → Shifted → Type 0
IsShifting given t (Term row w) = ShowsLeft given t row w
IsShifting given t (Ray d) = ShowsStuck given t d

-- the given rows have as many columns as the term, at most 128, of which the nominal point has the first ones, and they are at most 4,096
pub record CanShift (given : Premises) (t : Row) : Type 0 where
  pub columns : All (λ (r : Row). length r.c ≡ length t.c) given.rows
  pub nominal : length given.nominal.p ≤ length t.c
  pub positive : pos 0 <ℤ given.nominal.q
  pub few : length given.rows ≤ 4096
  pub short : length t.c ≤ 128
