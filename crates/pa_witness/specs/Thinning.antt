-- Needless rows of a list: which are left out at sight, and which are dropped by weights.
use Rattle.std.specs.Prelude.{◌≡◌, ℕ, suc, ◌<◌, List, [], ◌∷◌, ◌++◌, length, map, filter, pos, ◌*ℤ◌, int_lt, int_le, nat_eq}
use Rattle.std.specs.Prelude.{Bool, false, not, ◌&&◌, ◌||◌, if◌then◌else◌, All, AllPairs}
use Rattle.std.specs.List.{list_any, list_all}
use Rattle.std.specs.Ordering.{int_eq}
use Rattle.std.specs.Cmp.Lexicographic.{pointwise}
use Rattle.pa_math.specs.Divisors.{gcd_all, quotients}
use Rattle.pa_meaning.specs.Rows.{Row, row_at}
use Rattle.pa_meaning.specs.Weights.{Weights, Proves, impossible}
pub use Rattle.pa_witness.specs.Certificates.{Dropped}

-- ---- rows that are needless at sight
abbrev pub is_constant : Row → Bool
is_constant r = list_all (λ z. int_eq z (pos 0)) r.c

abbrev pub is_impossible : Row → Bool
is_impossible r = is_constant r && int_lt r.b (pos 0)

-- the coefficients of one are a positive number times the other's: without their greatest common divisors they are equal
abbrev pub are_parallel : Row → Row → Bool
are_parallel r s = pointwise int_eq (quotients (gcd_all r.c) r.c) (quotients (gcd_all s.c) s.c)

-- s is parallel to r and has at most r's bound, each over its greatest common divisor; and less than it
abbrev pub is_within : Row → Row → Bool
is_within r s = are_parallel r s && int_le (s.b *ℤ gcd_all r.c) (r.b *ℤ gcd_all s.c)

abbrev pub is_well_within : Row → Row → Bool
is_well_within r s = are_parallel r s && int_lt (s.b *ℤ gcd_all r.c) (r.b *ℤ gcd_all s.c)

-- the rows of the second list that no row of both lists stands in for: one before it within it, or one after it well within it
abbrev pub tightest : List Row → List Row → List Row
tightest before [] = []
tightest before (r ∷ after) =
    if list_any (is_within r) before || list_any (is_well_within r) after then tightest (r ∷ before) after
    else r ∷ tightest (r ∷ before) after

-- over n columns: `0 <= -1` alone where some row has coefficients 0 and a negative bound; else the rows with coefficients,
-- and of parallel ones the tightest
abbrev pub cleaned : ℕ → List Row → List Row
cleaned n rows = if list_any is_impossible rows then impossible n ∷ [] else tightest [] (filter (λ r. not (is_constant r)) rows)

-- ---- rows that weights show to be needless
abbrev pub places_of : List Dropped → List ℕ
places_of drops = map (λ d. d.row) drops

abbrev pub is_place_of : List ℕ → ℕ → Bool
is_place_of places i = list_any (nat_eq i) places

-- the rows at the other places, where the first row has the place i
abbrev pub without_places : List ℕ → ℕ → List Row → List Row
without_places gone i [] = []
without_places gone i (r ∷ rows) = if is_place_of gone i then without_places gone (suc i) rows else r ∷ without_places gone (suc i) rows

-- the weights name none of these places
abbrev pub NamesNone : List ℕ → Weights → Type 0
NamesNone gone w = All (λ part. is_place_of gone part.0 ≡ false) w.parts

-- each drop's weights prove its row over the rows, and name neither it nor a row that was dropped before
abbrev pub DropsHold : List Row → List ℕ → List Dropped → Type 0
DropsHold rows gone [] = Unit {0}
DropsHold rows gone (d ∷ drops) = Proves d.weights rows (row_at rows d.row) × NamesNone (d.row ∷ gone) d.weights × DropsHold rows (d.row ∷ gone) drops

-- the cleaned list without the drops
abbrev pub thinned : ℕ → List Row → List Dropped → List Row
thinned n rows drops = without_places (places_of drops) 0 (cleaned n rows)

-- the drops ascend, stand in the cleaned list, and hold over it with a context that stays
pub record ThinningHolds (n : ℕ) (rows context : List Row) (drops : List Dropped) : Type 0 where
  pub ascending : AllPairs (λ (d e : Dropped). d.row < e.row) drops
  pub placed : All (λ d. d.row < length (cleaned n rows)) drops
  pub shown : DropsHold (cleaned n rows ++ context) [] drops
