-- The ray of an endless column in whole numbers: it proves that no point meets the rows.
use Rattle.std.proofs.Common.{◌≡◌, ℕ, ◌<◌, ◌≤◌, ◌+◌, ◌==◌, ◌⊎◌, inl, inr, Bool, true, false, if◌then◌else◌, ℤ, pos, Option}
use Rattle.std.proofs.Common.{None, Some, List, [], ◌∷◌, length, map, All, Ok, sym, ap, ap₂, subst, ◌∙◌, arith}
use lib.Signed.{◌<ℤ◌}
use Rattle.pa_ring.specs.Sums.{number_at}
use Rattle.pa_math.specs.Answers.{given}
use Rattle.pa_math.specs.Rational.{ℚ, whole, neg_ℚ, ◌-ℚ◌, ◌*ℚ◌}
use Rattle.pa_math.specs.RationalOrder.{◌<ℚ◌}
use Rattle.pa_math.proofs.Rationals.{whole_injective}
use Rattle.pa_math.proofs.RationalOrders.{<ℚ_irrefl, <ℤ-whole, whole-<ℤ}
use Rattle.pa_math.proofs.RationalTactics.{by_ring, by_lt, rise, ◌⊙◌, reads}
use Rattle.pa_meaning.specs.Rows.{Row}
use Rattle.pa_meaning.specs.Weights.{IsContradiction, combined, row_at}
use Rattle.pa_row.specs.Fractions.{AreOver, fraction_of, placed}
use Rattle.pa_row.proofs.Turns.{row_at_read}
use Rattle.pa_tableau.specs.Tableau.{Tableau, cell}
use Rattle.pa_replay.specs.declared.«end».End.TheVariants.{Endless}
use Rattle.pa_replay.specs.Problem.{Problem}
use Rattle.pa_replay.specs.Readings.{line_of, ray_read, weight_at}
use Rattle.pa_replay.specs.Replay.{Ended, basic}
use Rattle.pa_replay.proofs.Ended.{Known}
use Rattle.pa_replay.proofs.LoadedStart.{row_bound, row_number, sign_of, target_number}
use Rattle.pa_replay.proofs.Never.{falls_at, negative_sign}
use Rattle.pa_replay.proofs.Solved.{IsSolved}
use Rattle.pa_replay.proofs.Sums.{total, total_same, total-*ℚ, total_zeros, unit, unit_here, unit_other}
use Rattle.pa_replay.proofs.Weighted.{endless_ray, minus_ray}
use Rattle.pa_replay.proofs.WeightSums.{AreApart, ArePositive, combined_bound, combined_sum, line_sum}
use Rattle.pa_replay.proofs.WeightSums.{part_sum, parts_range, parts_sum, positive_part, positive_range}
use Rattle.pa_replay.proofs.WholeEnds.{reached_apart, row_past}

same_or_not : (i l : ℕ) → (i ≡ l) ⊎ (i ≡ l → ⊥)
same_or_not i l = search arith

-- what is read at one place
ray_at : (f : ℕ → ℚ) (n c j : ℕ) (t : Tableau) → AreApart n t → ((k : ℕ) → k < n → basic t k ≡ c → ⊥) →
    parts_sum f (if j == c then weight_at j (whole (pos 1)) else given [] (line_of n t j) (λ k. weight_at j (neg_ℚ (cell t k c)))) ≡ neg_ℚ
    (minus_ray n c t j) *ℚ f j
ray_at f n c j t apart free = by_place (same_or_not j c)
  where
    by_place : (j ≡ c) ⊎ (j ≡ c → ⊥) →
        parts_sum f (if j == c then weight_at j (whole (pos 1)) else given [] (line_of n t j) (λ k. weight_at j (neg_ℚ (cell t k c)))) ≡ neg_ℚ
        (minus_ray n c t j) *ℚ f j
    by_place (inl e) =
        let test : (j == c) ≡ true = search (arith, e) in
        let none : total n (λ k. cell t k c *ℚ unit (basic t k) j) ≡ whole (pos 0) =
        total_same n (λ k. cell t k c *ℚ unit (basic t k) j) (λ k. whole (pos 0))
        (λ k low. ap (λ u. cell t k c *ℚ u) (unit_other (basic t k) j (λ s. free k low (sym s ∙ e))) ∙ by_ring (cell t k c ∷ []) (search reads depth 40) tt)
        ∙ total_zeros n in
        let one : unit c j ≡ whole (pos 1) = ap (unit c) e ∙ unit_here c in
        ap (λ b. parts_sum f (if b then weight_at j (whole (pos 1)) else given [] (line_of n t j) (λ k. weight_at j (neg_ℚ (cell t k c))))) test
        ∙ part_sum f j (whole (pos 1))
        ∙ by_ring (f j ∷ []) (search reads depth 40) tt
        ∙ sym (ap₂ (λ s u. neg_ℚ (s -ℚ whole (pos 1) *ℚ u) *ℚ f j) none one)
    by_place (inr d) =
        let test : (j == c) ≡ false = grind (arith, d) in
        let turned : total n (λ k. neg_ℚ (cell t k c) *ℚ unit (basic t k) j) ≡ neg_ℚ (whole (pos 1)) *ℚ total n (λ k. cell t k c *ℚ unit (basic t k) j) =
        total_same n (λ k. neg_ℚ (cell t k c) *ℚ unit (basic t k) j) (λ k. neg_ℚ (whole (pos 1)) *ℚ (cell t k c *ℚ unit (basic t k) j))
        (λ k low. by_ring (cell t k c ∷ unit (basic t k) j ∷ []) (search reads depth 40) tt)
        ∙ total-*ℚ n (neg_ℚ (whole (pos 1))) (λ k. cell t k c *ℚ unit (basic t k) j) in
        ap (λ b. parts_sum f (if b then weight_at j (whole (pos 1)) else given [] (line_of n t j) (λ k. weight_at j (neg_ℚ (cell t k c))))) test
        ∙ line_sum f n j t (λ k. neg_ℚ (cell t k c)) apart ∙ ap (λ s. s *ℚ f j) turned
        ∙ by_ring (total n (λ k. cell t k c *ℚ unit (basic t k) j) ∷ f j ∷ []) (search reads depth 40) tt
        ∙ sym (ap (λ u. neg_ℚ (total n (λ k. cell t k c *ℚ unit (basic t k) j) -ℚ whole (pos 1) *ℚ u) *ℚ f j) (unit_other c j d))

pub ray_sum : (f : ℕ → ℚ) (n m c : ℕ) (t : Tableau) → AreApart n t → ((k : ℕ) → k < n → basic t k ≡ c → ⊥) →
    parts_sum f (ray_read n m c t) ≡ neg_ℚ (total m (λ j. minus_ray n c t j *ℚ f j))
ray_sum f n m c t apart free =
    parts_range f (λ j. if j == c then weight_at j (whole (pos 1)) else given [] (line_of n t j) (λ k. weight_at j (neg_ℚ (cell t k c)))) 0 m
    ∙ total_same m (λ j. parts_sum f (if (0 + j) == c then weight_at (0 + j) (whole (pos 1)) else given [] (line_of n t (0 + j))
    (λ k. weight_at (0 + j) (neg_ℚ (cell t k c)))))
    (λ j. neg_ℚ (whole (pos 1)) *ℚ (minus_ray n c t j *ℚ f j))
    (λ j low. (let none : 0 + j ≡ j = omega arith in
    ap (λ j. parts_sum f (if j == c then weight_at j (whole (pos 1)) else given [] (line_of n t j) (λ k. weight_at j (neg_ℚ (cell t k c))))) none
    ∙ ray_at f n c j t apart free ∙ by_ring (minus_ray n c t j ∷ f j ∷ []) (search reads depth 40) tt))
    ∙ total-*ℚ m (neg_ℚ (whole (pos 1))) (λ j. minus_ray n c t j *ℚ f j)
    ∙ by_ring (total m (λ j. minus_ray n c t j *ℚ f j) ∷ []) (search reads depth 40) tt

pub ray_positive : (n m c : ℕ) (t : Tableau) → ArePositive (ray_read n m c t)
ray_positive n m c t = positive_range (λ j. if j == c then weight_at j (whole (pos 1)) else given [] (line_of n t j)
    (λ k. weight_at j (neg_ℚ (cell t k c)))) 0 m (λ j. by_test j (j == c) (line_of n t j))
  where
    by_test : (j : ℕ) (b : Bool) (o : Option ℕ) → ArePositive (if b then weight_at j (whole (pos 1)) else given [] o (λ k. weight_at j (neg_ℚ (cell t k c))))
    by_test j true o = positive_part j (whole (pos 1))
    by_test j false None = tt
    by_test j false (Some k) = positive_part j (neg_ℚ (cell t k c))

-- The ray, over a positive denominator: its combined row has coefficients 0 and a negative bound.
pub endless_whole : (p : Problem) (ended : Ended) (c : ℕ) (s : IsSolved p ended) (q : ℤ) (ns : List ℤ) → ended.answer ≡ Ok (Endless c) →
    All (λ (row : Row). length row.c ≡ length p.target) p.rows → pos 0 <ℤ q →
    AreOver q (map fraction_of (ray_read (length p.target) (length p.rows) c ended.table)) ns →
    IsContradiction (combined (placed (ray_read (length p.target) (length p.rows) c ended.table) ns) p.rows)
endless_whole p ended c s q ns e columns up over =
    let known : Known n m s.start t (Ok (Endless c)) = subst (Known n m s.start t) e s.known in
    let apart : AreApart n t = reached_apart n m (n + m + 1) s.start t known.feasible.reached in
    let (inside, down, stuck) = falls_at n m (n + 1) c t known.comes in
    let low : cell t (n + 1) c <ℚ whole (pos 0) = negative_sign (cell t (n + 1) c) down in
    let free : (k : ℕ) → k < n → basic t k ≡ c → ⊥ =
    λ k below same. (let none : cell t (n + 1) (basic t k) ≡ whole (pos 0) = (known.feasible.reached.basics k below).zeros (n + 1)
    (λ e. omega (arith, e, below)) in
    <ℚ_irrefl (subst (λ q. q <ℚ whole (pos 0)) (ap (cell t (n + 1)) (sym same) ∙ none) low)) in
    let twice : neg_ℚ (neg_ℚ (cell t (n + 1) c)) ≡ cell t (n + 1) c = by_ring (cell t (n + 1) c ∷ []) (search reads depth 40) tt in
    let ray = endless_ray n m c (sign_of p) (row_number p) (target_number p) (row_bound p) s.start t s.holds s.units known.feasible known.clean inside in
    record {
      coefficients = λ k. by_column k apart free ray.0 (below_or_past k n);
      bound =
          <ℤ-whole (subst (λ b. b <ℚ whole (pos 0))
          (sym (combined_bound q (ray_read n m c t) ns p.rows (ray_positive n m c t) over
          ∙ ap (λ s. whole q *ℚ s)
          (ray_sum (λ j. whole (row_at p.rows j).b) n m c t apart free
          ∙ ap neg_ℚ (total_same m (λ j. minus_ray n c t j *ℚ whole (row_at p.rows j).b) (λ j. minus_ray n c t j *ℚ row_bound p j)
          (λ j low. ap (λ (r : Row). minus_ray n c t j *ℚ whole r.b) (row_at_read p.rows j (record { c = []; b = pos 0 }) low)) ∙ ray.1)
          ∙ twice)))
          (by_lt (whole q ∷ cell t (n + 1) c ∷ []) (whole-<ℤ up ⊙ rise low) (search reads depth 40) tt));
    }
  where
    n : ℕ
    n = length p.target

    m : ℕ
    m = length p.rows

    t : Tableau
    t = ended.table

    below_or_past : (k n : ℕ) → (k < n) ⊎ (n ≤ k)
    below_or_past k n = search arith

    by_column : (k : ℕ) → AreApart n t → ((k : ℕ) → k < n → basic t k ≡ c → ⊥) →
        ((k : ℕ) → k < n → total m (λ j. minus_ray n c t j *ℚ row_number p j k) ≡ whole (pos 0)) → (k < n) ⊎ (n ≤ k) →
        number_at (combined (placed (ray_read n m c t) ns) p.rows).c k ≡ pos 0
    by_column k apart free ray place =
        whole_injective
        (combined_sum q (ray_read n m c t) ns p.rows k (ray_positive n m c t) over
        ∙ ap (λ s. whole q *ℚ s)
        (ray_sum (λ j. whole (number_at (row_at p.rows j).c k)) n m c t apart free
        ∙ ap neg_ℚ (total_same m (λ j. minus_ray n c t j *ℚ whole (number_at (row_at p.rows j).c k)) (λ j. minus_ray n c t j *ℚ row_number p j k)
        (λ j low. ap (λ (r : Row). minus_ray n c t j *ℚ whole (number_at r.c k)) (row_at_read p.rows j (record { c = []; b = pos 0 }) low)) ∙ all place))
        ∙ by_ring (whole q ∷ []) (search reads depth 40) tt)
      where
        all : (k < n) ⊎ (n ≤ k) → total m (λ j. minus_ray n c t j *ℚ row_number p j k) ≡ whole (pos 0)
        all (inl low) = ray k low
        all (inr past) =
            total_same m (λ j. minus_ray n c t j *ℚ row_number p j k) (λ j. whole (pos 0))
            (λ j low. ap (λ z. minus_ray n c t j *ℚ whole z) (row_past p j k columns low past) ∙ by_ring (minus_ray n c t j ∷ []) (search reads depth 40) tt)
            ∙ total_zeros m
