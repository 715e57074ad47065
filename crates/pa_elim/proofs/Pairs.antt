-- How many rows a step can make: where it substitutes no equality, the pairs are most where half of the rows are positive in the column and half negative.
use Rattle.std.proofs.Common.{◌≡◌, refl, sym, subst, ℕ, zero, suc, ◌+◌, ◌-◌, ◌*◌, ◌≤◌, nat_le, Bool, true, false, List, length, Option, None, Some, arith}
use Rattle.std.proofs.Math.Nat.{mul-le-mul}
use Rattle.pa_math.specs.Answers.{given}
use Rattle.pa_meaning.specs.Rows.{Row}
use Rattle.pa_witness.specs.Elimination.{negatives_at, positives_at, zeros_at}
use Rattle.pa_witness.specs.Steps.{Two, equality_in, step_count}
use Rattle.pa_witness.proofs.Counts.{counted, length_signs}
use Rattle.pa_elim.specs.FewBases.{most_made}

-- z rows with 0, and one for each pair, where there are at least as many on the one side as on the other
pairs_above : (z n d : ℕ) → z + suc (d + n) * suc n ≤ most_made (z + suc (d + n) + suc n)
pairs_above z n d =
    let r : ℕ = z + suc (d + n) + suc n in
    let square : r * r ≡ 4 * (z + suc (d + n) * suc n) + (z * z + 4 * (z * n) + 2 * (z * d) + d * d) = omega arith in
    omega (arith, square)

-- z rows with 0, p positive ones and n negative ones
pairs_fit : (z p n : ℕ) → z + p * n ≤ most_made (z + p + n)
pairs_fit z zero n = omega arith
pairs_fit z (suc p) zero = omega arith
pairs_fit z (suc p) (suc n) = by (nat_le n p) refl
  where
    by : (b : Bool) → nat_le n p ≡ b → z + suc p * suc n ≤ most_made (z + suc p + suc n)
    by true h =
        let same : p - n + n ≡ p = grind (arith, h) in
        subst (λ k. z + suc k * suc n ≤ most_made (z + suc k + suc n)) same (pairs_above z n (p - n))
    by false h =
        let same : n - p + p ≡ n = grind (arith, h) in
        let pairs : z + suc p * suc n ≡ z + suc n * suc p = omega arith in
        let rows : z + suc n + suc p ≡ z + suc p + suc n = omega arith in
        subst (λ m. m ≤ most_made (z + suc p + suc n)) (sym pairs) (subst (λ r. z + suc n * suc p ≤ most_made r) rows
        (subst (λ k. z + suc k * suc p ≤ most_made (z + suc k + suc p)) same (pairs_above z p (n - p))))

pub step_makes_few : (k : ℕ) (rows : List Row) → step_count Two k rows ≤ most_made (length rows)
step_makes_few k rows = subst (λ m. m ≤ most_made (length rows)) (sym (counted Two k rows)) (by (equality_in Two k rows))
  where
    by : (found : Option (ℕ × ℕ))
        → given (length (zeros_at k rows) + length (positives_at k rows) * length (negatives_at k rows)) found (λ places. length rows - 2)
        ≤ most_made (length rows)
    by None = subst (λ r. length (zeros_at k rows) + length (positives_at k rows) * length (negatives_at k rows) ≤ most_made r) (length_signs k rows)
        (pairs_fit (length (zeros_at k rows)) (length (positives_at k rows)) (length (negatives_at k rows)))
    by (Some places) = omega arith

-- out of fewer rows no more can be made
pub more_made : (fewer rows : ℕ) → fewer ≤ rows → most_made fewer ≤ most_made rows
more_made fewer rows less = let squares = mul-le-mul less less in omega (arith, less, squares)
