-- The ends of a run in whole numbers: what the weights, the ray, the point and the direction that are read prove of the rows.
use Rattle.std.proofs.Common.{◌≡◌, ℕ, ◌<◌, ◌≤◌, ◌+◌, ◌⊎◌, inl, inr, ℤ, pos, List, [], ◌∷◌, length, map, All, Ok, sym, ap, subst, ◌∙◌, arith}
use Rattle.std.proofs.lemmas.List.{get_or_past}
use Rattle.std.proofs.lemmas.List.Elements.{All-get_or}
use Rattle.pa_ring.specs.Sums.{SameNumbers, number_at, times}
use Rattle.pa_ring.proofs.Sums.{number_at-times}
use Rattle.pa_math.specs.Rational.{whole, ◌*ℚ◌}
use Rattle.pa_math.proofs.Rationals.{whole-*ℤ, whole_injective}
use Rattle.pa_math.proofs.RationalTactics.{by_ring, reads}
use Rattle.pa_meaning.specs.Rows.{Row}
use Rattle.pa_meaning.specs.Weights.{combined, row_at}
use Rattle.pa_row.specs.Fractions.{AreOver, fraction_of, placed}
use Rattle.pa_row.proofs.Turns.{row_at_read}
use Rattle.pa_tableau.specs.Tableau.{Tableau, cell}
use Rattle.pa_replay.specs.declared.«end».End.TheVariants.{Least, Endless}
use Rattle.pa_replay.specs.Problem.{Problem}
use Rattle.pa_replay.specs.Readings.{value_read, weights_read}
use Rattle.pa_replay.specs.Replay.{Ended, basic}
use Rattle.pa_replay.proofs.Ended.{Known}
use Rattle.pa_replay.proofs.Kept.{IsReached}
use Rattle.pa_replay.proofs.LoadedStart.{row_bound, row_number, row_of, sign_of, target_number}
use Rattle.pa_replay.proofs.Numbers.{number_is}
use Rattle.pa_replay.proofs.Solved.{IsLeast, IsSolved, least_of}
use Rattle.pa_replay.proofs.Sums.{total, total_same, total_zeros}
use Rattle.pa_replay.proofs.Theorems.{solution}
use Rattle.pa_replay.proofs.Weighted.{least_weights}
use Rattle.pa_replay.proofs.WeightSums.{AreApart, combined_bound, combined_sum, weights_positive, weights_sum}

-- no two lines have one basic column, since it is 1 in its line and 0 in the others
pub reached_apart : (n m w : ℕ) (loaded t : Tableau) → IsReached n m w loaded t → AreApart n t
reached_apart n m w loaded t r k l low below same = by_same (same_or_not k l)
  where
    same_or_not : (i l : ℕ) → (i ≡ l) ⊎ (i ≡ l → ⊥)
    same_or_not i l = search arith

    by_same : (k ≡ l) ⊎ (k ≡ l → ⊥) → k ≡ l
    by_same (inl e) = e
    by_same (inr d) =
        let one : cell t k (basic t k) ≡ whole (pos 1) = (r.basics k low).one in
        let none : cell t k (basic t l) ≡ whole (pos 0) = (r.basics l below).zeros k d in
        let equal : pos 1 ≡ pos 0 = whole_injective (sym one ∙ ap (cell t k) same ∙ none) in
        absurd (cc equal)

-- past the columns each row has 0
pub row_past : (p : Problem) (j k : ℕ) → All (λ (row : Row). length row.c ≡ length p.target) p.rows → j < length p.rows → length p.target ≤ k →
    number_at (row_of p j).c k ≡ pos 0
row_past p j k all low past =
    let long : length (row_of p j).c ≡ length p.target = All-get_or (λ (row : Row). length row.c ≡ length p.target) p.rows j
    (record { c = []; b = pos 0 }) low all in
    number_is (row_of p j).c k ∙ get_or_past (row_of p j).c k (pos 0) (omega (arith, long, past))

-- Where the values of the basic columns combine the rows to the target in fractions, the weights that are read do so in whole numbers.
weights_whole : (p : Problem) (t : Tableau) (q : ℤ) (ns : List ℤ) → AreApart (length p.target) t →
    ((k : ℕ) → k < length p.target → total (length p.rows) (λ j. solution (length p.target) (length p.rows) t j *ℚ row_number p j k) ≡ target_number p k) →
    All (λ (row : Row). length row.c ≡ length p.target) p.rows →
    AreOver q (map fraction_of (weights_read (length p.target) (length p.rows) t)) ns →
    SameNumbers (combined (placed (weights_read (length p.target) (length p.rows) t) ns) p.rows).c (times q p.target)
weights_whole p t q ns apart makes columns over k = by_column (below_or_past k n)
  where
    n : ℕ
    n = length p.target

    m : ℕ
    m = length p.rows

    below_or_past : (k n : ℕ) → (k < n) ⊎ (n ≤ k)
    below_or_past k n = search arith

    in_rows : whole (number_at (combined (placed (weights_read n m t) ns) p.rows).c k) ≡ whole q *ℚ total m (λ j. solution n m t j *ℚ row_number p j k)
    in_rows =
        combined_sum q (weights_read n m t) ns p.rows k (weights_positive n m t) over
        ∙ ap (λ s. whole q *ℚ s)
        (weights_sum (λ j. whole (number_at (row_at p.rows j).c k)) n m t apart
        ∙ total_same m (λ j. solution n m t j *ℚ whole (number_at (row_at p.rows j).c k)) (λ j. solution n m t j *ℚ row_number p j k)
        (λ j low. ap (λ (r : Row). solution n m t j *ℚ whole (number_at r.c k)) (row_at_read p.rows j (record { c = []; b = pos 0 }) low)))

    by_column : (k < n) ⊎ (n ≤ k) → number_at (combined (placed (weights_read n m t) ns) p.rows).c k ≡ number_at (times q p.target) k
    by_column (inl low) =
        whole_injective (in_rows ∙ ap (λ s. whole q *ℚ s) (makes k low) ∙ sym (whole-*ℤ q (number_at p.target k))
        ∙ ap whole (sym (number_at-times q p.target k)))
    by_column (inr past) =
        let none : number_at p.target k ≡ pos 0 = number_is p.target k ∙ get_or_past p.target k (pos 0) past in
        whole_injective (in_rows
        ∙ ap (λ s. whole q *ℚ s)
        (total_same m (λ j. solution n m t j *ℚ row_number p j k) (λ j. whole (pos 0))
        (λ j low. ap (λ z. solution n m t j *ℚ whole z) (row_past p j k columns low past) ∙ by_ring (solution n m t j ∷ []) (search reads depth 40) tt)
        ∙ total_zeros m)
        ∙ ap (λ z. whole q *ℚ whole z) (sym none)
        ∙ sym (whole-*ℤ q (number_at p.target k)) ∙ ap whole (sym (number_at-times q p.target k)))

-- The weights of the least end: the rows times their weights have the target's coefficients and the value, times the denominator.
pub least_whole : (p : Problem) (ended : Ended) (s : IsSolved p ended) (q : ℤ) (ns : List ℤ) → ended.answer ≡ Ok Least →
    All (λ (row : Row). length row.c ≡ length p.target) p.rows →
    AreOver q (map fraction_of (weights_read (length p.target) (length p.rows) ended.table)) ns →
    SameNumbers (combined (placed (weights_read (length p.target) (length p.rows) ended.table) ns) p.rows).c (times q p.target)
    × (whole (combined (placed (weights_read (length p.target) (length p.rows) ended.table) ns) p.rows).b ≡ whole q *ℚ value_read (length p.target)
    (length p.rows) ended.table)
least_whole p ended s q ns e columns over =
    let n : ℕ = length p.target in
    let m : ℕ = length p.rows in
    let t : Tableau = ended.table in
    let known : Known n m s.start t (Ok Least) = subst (Known n m s.start t) e s.known in
    let apart : AreApart n t = reached_apart n m (n + m + 1) s.start t known.feasible.reached in
    let least : IsLeast p t = least_of p ended s e in (
      weights_whole p t q ns apart least.combined columns over,
      combined_bound q (weights_read n m t) ns p.rows (weights_positive n m t) over
          ∙ ap (λ s. whole q *ℚ s)
          (weights_sum (λ j. whole (row_at p.rows j).b) n m t apart
          ∙ total_same m (λ j. solution n m t j *ℚ whole (row_at p.rows j).b) (λ j. solution n m t j *ℚ row_bound p j)
          (λ j low. ap (λ (r : Row). solution n m t j *ℚ whole r.b) (row_at_read p.rows j (record { c = []; b = pos 0 }) low))
          ∙ least.costs),
    )

-- The last weights of the endless end have the target's coefficients too.
pub last_whole : (p : Problem) (ended : Ended) (c : ℕ) (s : IsSolved p ended) (q : ℤ) (ns : List ℤ) → ended.answer ≡ Ok (Endless c) →
    All (λ (row : Row). length row.c ≡ length p.target) p.rows →
    AreOver q (map fraction_of (weights_read (length p.target) (length p.rows) ended.table)) ns →
    SameNumbers (combined (placed (weights_read (length p.target) (length p.rows) ended.table) ns) p.rows).c (times q p.target)
last_whole p ended c s q ns e columns over =
    let n : ℕ = length p.target in
    let m : ℕ = length p.rows in
    let t : Tableau = ended.table in
    let known : Known n m s.start t (Ok (Endless c)) = subst (Known n m s.start t) e s.known in
    weights_whole p t q ns (reached_apart n m (n + m + 1) s.start t known.feasible.reached)
    (least_weights n m (sign_of p) (row_number p) (target_number p) (row_bound p) s.start t s.holds s.units known.feasible known.clean).0 columns over
