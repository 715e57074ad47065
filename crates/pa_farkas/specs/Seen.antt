-- What private functions find at the least end, and the list that a thinning filters. No public clause names one of these.
use Rattle.std.specs.Prelude.{◌≡◌, ◌⊎◌, ℕ, zero, suc, ◌+◌, ◌<◌, ◌≤◌, ℤ, pos, ◌+ℤ◌, ◌*ℤ◌, ◌≤ℤ◌, ◌<ℤ◌, List, [], ◌∷◌, ◌++◌, take, drop, length, get_or}
use Rattle.std.specs.Prelude.{All, AllPairs}
use Rattle.std.specs.Prelude.{Option, None, Some, Result, Ok, true, false, if◌then◌else◌}
use Rattle.std.specs.List.{insert, remove}
use Rattle.std.specs.declared.cmp.Ordering.{Ordering}
use Rattle.pa_math.specs.Answers.{and_then, given}
use Rattle.pa_ring.specs.Sums.{dot}
use Rattle.pa_meaning.specs.Rows.{Breaks, Row, Point, row_at}
use Rattle.pa_meaning.specs.Weights.{Proves, Weights}
use Rattle.pa_witness.specs.Thinning.{Dropped, DropsHold, is_place_of, places_of}
use Rattle.pa_row.specs.declared.place.Group.{Group}
use Rattle.pa_row.specs.declared.place.Halt.{Halt}
use Rattle.pa_row.specs.declared.place.Task.TheVariants.{Filter}
use Rattle.pa_row.specs.Fractions.{AreOver}
use Rattle.pa_replay.specs.Readings.{LeastRead}
use Rattle.pa_farkas.specs.Answered.{at_places, covered_of, is_above}

-- the least value is at most the row's bound, and above it
abbrev pub IsWithin : Row → LeastRead → Type 0
IsWithin row a = a.value.0 ≤ℤ (a.value.1 *ℤ row.b)

abbrev pub IsBeyond : Row → LeastRead → Type 0
IsBeyond row a = (a.value.1 *ℤ row.b) <ℤ a.value.0

-- what the comparison of the value with the bound tells
pub record IsCompared (row : Row) (a : LeastRead) (order : Ordering) : Type 0 where
  pub within : is_above order ≡ false → IsWithin row a
  pub beyond : is_above order ≡ true → IsBeyond row a

-- the point of the least end, over a common denominator
pub record IsPointOf (a : LeastRead) (x : Point) : Type 0 where
  pub positive : pos 0 <ℤ x.q
  pub over : AreOver x.q a.point x.p
  pub columns : length x.p ≡ length a.point

-- the point is found where the value is above the bound
abbrev pub IsFound : Row → LeastRead → Option Point → Type 0
IsFound row a None = IsWithin row a
IsFound row a (Some x) = IsBeyond row a × IsPointOf a x

-- the point y, from x so far along the direction, breaks the row
pub record IsAway (row : Row) (x : Point) (d : List ℤ) (y : Point) : Type 0 where
  pub way : ℤ
  pub forward : pos 0 ≤ℤ way
  pub denominator : y.q ≡ x.q
  pub columns : length y.p ≡ length x.p
  pub sums : (cs : List ℤ) → dot cs y.p ≡ dot cs x.p +ℤ way *ℤ dot cs d
  pub broken : Breaks row y

-- it is away from a point of the least end
abbrev pub IsAwayFrom : Row → LeastRead → List ℤ → Point → Type 0
IsAwayFrom row a d y = (x : Point) × IsPointOf a x × IsAway row x d y

-- ---- a list that is filtered
-- the rows that are left with their places, the drops so far, and at which of the rows it goes on
pub record Filtering : Type 0 where
  pub rows : List Row
  pub places : List ℕ
  pub drops : List Dropped
  pub next : ℕ

-- a row in hand with its place, and the others
pub record InHand : Type 0 where
  pub row : Row
  pub place : ℕ
  pub others : Filtering

-- the next row is taken in hand
abbrev pub taken : Filtering → InHand
taken f = record {
  row = row_at f.rows f.next;
  place = get_or f.places f.next 0;
  others = record { rows = remove f.rows f.next; places = remove f.places f.next; drops = f.drops; next = f.next };
}

-- it is put back, and stays
abbrev pub put_back : InHand → Filtering
put_back t = record {
  rows = insert t.others.rows t.others.next t.row;
  places = insert t.others.places t.others.next t.place;
  drops = t.others.drops;
  next = t.others.next + 1;
}

-- it is dropped by weights over the others
abbrev pub dropped : InHand → Weights → Filtering
dropped t w = record {
  rows = t.others.rows;
  places = t.others.places;
  drops = t.others.drops ++ record { row = t.place; weights = at_places t.others.places w } ∷ [];
  next = t.others.next;
}

-- it is asked about
abbrev pub asked_about : Group → ℕ → InHand → Result Filtering Halt
asked_about group most t =
    and_then (covered_of t.others.rows t.row most (Filter group t.place)) (λ found. Ok (given (put_back t) found (dropped t)))

-- it stays, or the others imply it
abbrev pub IsNext : InHand → Filtering → Type 0
IsNext t g = (g ≡ put_back t) ⊎ ((w : Weights) × (g ≡ dropped t w) × Proves w t.others.rows t.row)

-- it can be asked about
pub record IsReady (t : InHand) : Type 0 where
  pub next : t.others.next ≤ length t.others.rows
  pub fewer : length t.others.rows < 4096
  pub places : length t.others.places ≡ length t.others.rows
  pub ascending : AllPairs (λ (a b : ℕ). a < b) t.others.places
  pub columns : All (λ (r : Row). length r.c ≡ length t.row.c) t.others.rows
  pub short : length t.row.c ≤ 128

-- this many numbers, from i on
abbrev pub numbers_from : ℕ → ℕ → List ℕ
numbers_from i zero = []
numbers_from i (suc n) = i ∷ numbers_from (suc i) n

-- a list without the elements at some places, where the first one has place i
abbrev pub left : {A : Type 0} → List ℕ → ℕ → List A → List A
left gone i [] = []
left gone i (x ∷ xs) = if is_place_of gone i then left gone (suc i) xs else x ∷ left gone (suc i) xs

-- what is left of the first i elements, and then the others
abbrev pub left_up_to : {A : Type 0} → List ℕ → ℕ → List A → List A
left_up_to gone i xs = left gone 0 (take i xs) ++ drop i xs

-- the rows of a list up to place i were asked about
pub record IsFiltered (all : List Row) (i : ℕ) (f : Filtering) : Type 0 where
  pub below : AllPairs (λ (d e : Dropped). d.row < e.row) f.drops × All (λ (d : Dropped). d.row < i) f.drops
  pub rows : f.rows ≡ left_up_to (places_of f.drops) i all
  pub places : f.places ≡ left_up_to (places_of f.drops) i (numbers_from 0 (length all))
  pub next : f.next ≡ length (left (places_of f.drops) 0 (take i all))
  pub shown : DropsHold all [] f.drops

-- a list before any row was asked about
abbrev pub start_of : List Row → Filtering
start_of all = record { rows = all; places = numbers_from 0 (length all); drops = []; next = 0 }

-- a list of rows over n columns can be filtered
pub record CanStart (n : ℕ) (all : List Row) : Type 0 where
  pub few : length all ≤ 4096
  pub columns : All (λ (r : Row). length r.c ≡ n) all
  pub short : n ≤ 128
