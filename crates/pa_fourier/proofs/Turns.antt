-- One turn of each loop over rows.
use Rattle.std.proofs.Common.{◌≡◌, ℕ, zero, suc, ◌<◌, ◌+◌, List, [], ◌∷◌, ◌++◌, take, drop, length, get_or, Bool}
use Rattle.std.proofs.Common.{if◌then◌else◌, Some, refl, ap, add-one, int_lt}
use Rattle.std.proofs.Math.Seq.{drop-cons}
use lib.IntN.{ℤ, pos}
use Rattle.pa_ring.specs.Sums.{number_at, without}
use Rattle.pa_math.specs.Answers.{given}
use Rattle.pa_meaning.specs.Rows.{Row}
use Rattle.pa_witness.specs.Elimination.{positives_at, negatives_at}
use Rattle.pa_witness.specs.Equalities.{place_from, opposite_of, equality_from}

-- one row of a search
pub place_turn : (test : Row → Bool) (rows : List Row) (i : ℕ) (r : Row) → i < length rows → r ≡ get_or rows i r →
    place_from test i (drop i rows) ≡ (if test r then Some i else place_from test (i + 1) (drop (i + 1) rows))
place_turn test rows i r h is = rw (add-one, drop-cons rows i r h, ← is) refl

pub equality_turn : (k : ℕ) (rows : List Row) (i : ℕ) (r : Row) → i < length rows → r ≡ get_or rows i r →
    equality_from k rows i (drop i rows) ≡
    (if int_lt (pos 0) (number_at r.c k) then given (equality_from k rows (i + 1) (drop (i + 1) rows)) (opposite_of rows r) (λ j. Some (i, j))
    else equality_from k rows (i + 1) (drop (i + 1) rows))
equality_turn k rows i r h is = rw (add-one, drop-cons rows i r h, ← is) refl

-- one row of a count
pub signs_turn : (k : ℕ) (rows : List Row) (i : ℕ) (r : Row) → i < length rows → r ≡ get_or rows i r →
    (positives_at k (drop i rows) ≡ (if int_lt (pos 0) (number_at r.c k) then r ∷ positives_at k (drop (i + 1) rows) else positives_at k (drop (i + 1) rows)))
    × (negatives_at k (drop i rows) ≡ (if int_lt (number_at r.c k) (pos 0) then r ∷ negatives_at k (drop (i + 1) rows) else negatives_at k (drop (i + 1) rows)))
signs_turn k rows i r h is = (rw (add-one, drop-cons rows i r h, ← is) refl, rw (add-one, drop-cons rows i r h, ← is) refl)

-- ---- a column taken out
pub removed_is_without : (k : ℕ) (xs : List ℤ) → take k xs ++ drop (suc k) xs ≡ without k xs
removed_is_without zero [] = refl
removed_is_without (suc k) [] = refl
removed_is_without zero (x ∷ xs) = refl
removed_is_without (suc k) (x ∷ xs) = ap (λ t. x ∷ t) (removed_is_without k xs)
