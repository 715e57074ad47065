-- One step of an elimination, in both versions: which rows it makes, how many, and what they mean at points.
use Rattle.std.specs.Prelude.{◌↔◌, ℕ, List, [], ◌∷◌, ◌++◌, length, map, filter, pos, ◌<ℤ◌, int_lt, not, if◌then◌else◌, Option, None}
use Rattle.std.specs.Ordering.{int_eq}
use Rattle.pa_ring.specs.Sums.{number_at}
use Rattle.pa_math.specs.Answers.{given}
use Rattle.pa_meaning.specs.Rows.{Row, Point, MeetsAll, row_at, without_column}
use Rattle.pa_witness.specs.Elimination.{cancelled, zeros_at, eliminated, IsExtension}
use Rattle.pa_witness.specs.Equalities.{equality_of}
use Rattle.pa_witness.specs.Thinning.{without_places}

-- The version of a report. In version 1 a step cancels all pairs of a positive and a negative row. In version 2 it
-- substitutes an equality of the column where there is one.
pub data Version : Type 0 where
  One : Version
  Two : Version

-- the rows with 0 in column k, without it
abbrev pub kept_at : ℕ → List Row → List Row
kept_at k rows = map (without_column k) (zeros_at k rows)

-- the rows with another number than 0 in column k
abbrev pub nonzeros_at : ℕ → List Row → List Row
nonzeros_at k rows = filter (λ row. not (int_eq (number_at row.c k) (pos 0))) rows

-- the rows that an equality at the places i and j is substituted into
abbrev pub others_at : ℕ → ℕ → ℕ → List Row → List Row
others_at k i j rows = nonzeros_at k (without_places (i ∷ j ∷ []) 0 rows)

-- the row cancelled with p or with its negative n, whichever has the other sign in column k
abbrev pub substituted : ℕ → Row → Row → Row → Row
substituted k p n row = if int_lt (pos 0) (number_at row.c k) then cancelled k row n else cancelled k p row

-- the rows of a step where the equality at these places is substituted
abbrev pub substituted_at : ℕ → List Row → ℕ × ℕ → List Row
substituted_at k rows places = kept_at k rows
    ++ map (λ row. without_column k (substituted k (row_at rows places.0) (row_at rows places.1) row))
    (others_at k places.0 places.1 rows)

-- the places of the equality that a step substitutes
abbrev pub equality_in : Version → ℕ → List Row → Option (ℕ × ℕ)
equality_in One k rows = None
equality_in Two k rows = equality_of k rows

-- the rows of a step: where it substitutes no equality, those with 0 in the column and the sums of all pairs
abbrev pub stepped : Version → ℕ → List Row → List Row
stepped v k rows = given (eliminated k rows) (equality_in v k rows) (substituted_at k rows)

-- how many rows a step makes, before the clean
abbrev pub step_count : Version → ℕ → List Row → ℕ
step_count v k rows = length (stepped v k rows)

-- a point meets the new rows exactly where some extension of it in column k meets the old ones
abbrev pub IsElimination : ℕ → List Row → List Row → Type 0
IsElimination k old new =
    (x : Point) → pos 0 <ℤ x.q → MeetsAll new x ↔ ((y : Point) × IsExtension k x y × MeetsAll old y)
