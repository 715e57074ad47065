-- The point of the least end and the direction where no weights exist, in whole numbers.
use Rattle.std.proofs.Common.{◌≡◌, ℕ, zero, suc, ◌<◌, ◌≤◌, ◌+◌, Bool, true, false, if◌then◌else◌, ℤ, pos, List}
use Rattle.std.proofs.Common.{[], ◌∷◌, length, map, get_or, All, Ok, refl, sym, ap, subst, ◌∙◌, arith}
use Rattle.std.specs.List.{slice_index_or}
use lib.IntN.{◌*ℤ◌}
use lib.Signed.{◌<ℤ◌}
use Rattle.pa_ring.specs.Sums.{dot, number_at, sum_below}
use Rattle.pa_ring.proofs.Sums.{dot_is_sum_below}
use Rattle.pa_math.specs.Rational.{ℚ, den, over, whole, neg_ℚ, ◌+ℚ◌, ◌*ℚ◌}
use Rattle.pa_math.specs.RationalOrder.{◌≤ℚ◌}
use Rattle.pa_math.proofs.Rationals.{whole-*ℤ, whole-+ℤ}
use Rattle.pa_math.proofs.RationalOrders.{whole-<ℤ, ≤ℤ-whole}
use Rattle.pa_math.proofs.RationalTactics.{by_ring, reads}
use Rattle.pa_math.proofs.Rationals.{over_parts, den_positive}
use Rattle.pa_math.proofs.RationalTactics.{by_le, gap, ◌·◌, weak}
use Rattle.std.proofs.lemmas.List.Elements.{All-get_or}
use Rattle.std.proofs.lemmas.List.FromFn.{get_or-map-range_with_len, length-map-range_with_len}
use Rattle.pa_meaning.specs.Rows.{Meets, Row}
use Rattle.pa_row.specs.Fractions.{AreOver}
use Rattle.pa_tableau.specs.Tableau.{Tableau, cell}
use Rattle.pa_replay.specs.declared.«end».End.TheVariants.{Least}
use Rattle.pa_replay.specs.Problem.{Problem, is_turned}
use Rattle.pa_replay.specs.Readings.{numbers_in, point_read, signed, value_read}
use Rattle.pa_replay.specs.Replay.{Ended}
use Rattle.pa_replay.proofs.Bridges.{cells_of}
use Rattle.pa_replay.proofs.Ends.{point}
use Rattle.pa_replay.proofs.LoadedStart.{row_bound, row_number, row_of, sign_of}
use Rattle.pa_replay.proofs.Solved.{IsLeast, IsSolved, least_of}
use Rattle.pa_replay.proofs.Sums.{total, total_same, total-*ℚ}
use Rattle.pa_replay.proofs.WeightSums.{number_over}

-- a sum of whole numbers is their sum in fractions
pub whole_sum : (n : ℕ) (f : ℕ → ℤ) → whole (sum_below n f) ≡ total n (λ k. whole (f k))
whole_sum zero f = refl
whole_sum (suc n) f = whole-+ℤ (sum_below n f) (f n) ∙ ap (λ s. s +ℚ whole (f n)) (whole_sum n f)

-- Numbers that are a factor times fractions: their sum of products is the factor times that of the fractions.
pub dot_scaled : (n : ℕ) (cs ns : List ℤ) (x : ℕ → ℚ) (factor : ℚ) → length cs ≤ n → ((k : ℕ) → k < n → whole (number_at ns k) ≡ factor *ℚ x k) →
    whole (dot cs ns) ≡ factor *ℚ total n (λ k. x k *ℚ whole (number_at cs k))
dot_scaled n cs ns x factor room h =
    ap whole (dot_is_sum_below n cs ns room)
    ∙ whole_sum n (λ k. number_at cs k *ℤ number_at ns k)
    ∙ total_same n (λ k. whole (number_at cs k *ℤ number_at ns k)) (λ k. factor *ℚ (x k *ℚ whole (number_at cs k)))
    (λ k low. whole-*ℤ (number_at cs k) (number_at ns k) ∙ ap (λ w. whole (number_at cs k) *ℚ w) (h k low)
    ∙ by_ring (whole (number_at cs k) ∷ factor ∷ x k ∷ []) (search reads depth 40) tt)
    ∙ total-*ℚ n factor (λ k. x k *ℚ whole (number_at cs k))

-- the tableau's signs are the problem's
abbrev pub HasSigns : Problem → Tableau → Type 0
HasSigns p t = (k : ℕ) → k < length p.target → slice_index_or t.turned k false ≡ is_turned p.target k

pub signed_is : (p : Problem) (t : Tableau) (k : ℕ) (q : ℚ) → slice_index_or t.turned k false ≡ is_turned p.target k → signed t k q ≡ sign_of p k *ℚ q
signed_is p t k q e = ap (λ b. if b then neg_ℚ q else q) e ∙ by_sign (is_turned p.target k)
  where
    by_sign : (b : Bool) → (if b then neg_ℚ q else q) ≡ (if b then neg_ℚ (whole (pos 1)) else whole (pos 1)) *ℚ q
    by_sign true = by_ring (q ∷ []) (search reads depth 40) tt
    by_sign false = by_ring (q ∷ []) (search reads depth 40) tt

-- numbers over a denominator, one by one
pub over_at : (q : ℤ) (xs : List ℚ) (ns : List ℤ) (k : ℕ) → AreOver q (map numbers_in xs) ns → k < length xs →
    whole (number_at ns k) ≡ whole q *ℚ get_or xs k (whole (pos 0))
over_at q [] ns k h low = absurd (omega arith)
over_at q (x ∷ xs) [] k h low = absurd h
over_at q (x ∷ xs) (n ∷ ns) zero h low = number_over q n x.num (den x) (den_positive x) h.0 ∙ ap (λ r. whole q *ℚ r) (over_parts x)
over_at q (x ∷ xs) (n ∷ ns) (suc k) h low = over_at q xs ns k h.1 (omega arith)

-- The point of the least end, over a positive denominator: it meets each row, and the target has the value at it, times the denominator.
pub point_whole : (p : Problem) (ended : Ended) (s : IsSolved p ended) (q : ℤ) (ns : List ℤ) → ended.answer ≡ Ok Least →
    All (λ (row : Row). length row.c ≡ length p.target) p.rows → pos 0 <ℤ q →
    HasSigns p ended.table → AreOver q (map numbers_in (point_read (length p.target) (length p.rows) ended.table)) ns →
    ((j : ℕ) → j < length p.rows → Meets (row_of p j) (record { p = ns; q = q }))
    × (whole (dot p.target ns) ≡ whole q *ℚ value_read (length p.target) (length p.rows) ended.table)
point_whole p ended s q ns e columns up signs over =
    let least : IsLeast p t = least_of p ended s e in (
      λ j low.
          (let long : length (row_of p j).c ≡ n = All-get_or (λ (row : Row). length row.c ≡ n) p.rows j (record { c = []; b = pos 0 }) low columns in
          let sum : whole (dot (row_of p j).c ns) ≡ whole q *ℚ total n (λ k. point m (sign_of p) (cells_of t (n + 1)) k *ℚ row_number p j k) =
          dot_scaled n (row_of p j).c ns (point m (sign_of p) (cells_of t (n + 1))) (whole q) (omega (arith, long)) read in
          let bound : whole ((row_of p j).b *ℤ q) ≡ row_bound p j *ℚ whole q = whole-*ℤ (row_of p j).b q in
          record {
            meets = ≤ℤ-whole (subst (λ a. a ≤ℚ whole ((row_of p j).b *ℤ q)) (sym sum)
                (subst (λ b. (whole q *ℚ total n (λ k. point m (sign_of p) (cells_of t (n + 1)) k *ℚ row_number p j k)) ≤ℚ b) (sym bound)
                (by_le (whole q ∷ total n (λ k. point m (sign_of p) (cells_of t (n + 1)) k *ℚ row_number p j k) ∷ row_bound p j ∷ [])
                (weak (whole-<ℤ up) · gap (least.meets j low)) (search reads depth 40) tt)));
          }),
      dot_scaled n p.target ns (point m (sign_of p) (cells_of t (n + 1))) (whole q) (omega arith) read ∙ ap (λ s. whole q *ℚ s) least.value,
    )
  where
    n : ℕ
    n = length p.target

    m : ℕ
    m = length p.rows

    t : Tableau
    t = ended.table

    read : (k : ℕ) → k < n → whole (number_at ns k) ≡ whole q *ℚ point m (sign_of p) (cells_of t (n + 1)) k
    read k low =
        let inside : k < length (point_read n m t) = rw length-map-range_with_len low in
        let none : 0 + k ≡ k = omega arith in
        over_at q (point_read n m t) ns k over inside
        ∙ ap (λ x. whole q *ℚ x) (get_or-map-range_with_len (λ i. neg_ℚ (signed t i (cell t (n + 1) (m + i)))) 0 n k k (whole (pos 0)) low none
        ∙ ap neg_ℚ (signed_is p t k (cell t (n + 1) (m + k)) (signs k low)))
