-- What the ends mean for the problem that was loaded.
use Rattle.std.proofs.Common.{◌≡◌, ℕ, ◌<◌, ◌+◌, ◌⊎◌, inl, inr, false, sym, ap, subst, ◌∙◌, arith, pos, [], ◌∷◌}
use Rattle.pa_math.specs.Rational.{ℚ, whole, ◌-ℚ◌, ◌*ℚ◌, neg_ℚ}
use Rattle.pa_math.specs.RationalOrder.{◌≤ℚ◌, ◌<ℚ◌}
use Rattle.pa_math.proofs.RationalOrders.{trichotomy_ℚ, lt_not_le_ℚ}
use Rattle.pa_math.proofs.RationalTactics.{by_ring, by_le, gap, reads}
use Rattle.pa_frac.specs.Operations.{is_zero}
use Rattle.pa_frac.proofs.Signs.{nonzero_value}
use Rattle.pa_tableau.specs.Tableau.{Tableau, cell}
use Rattle.pa_replay.specs.declared.next.Next.TheVariants.{Settled}
use Rattle.pa_replay.specs.Replay.{next_in}
use Rattle.pa_replay.specs.Replay as replay
use Rattle.pa_replay.proofs.Sums.{total, total_same, total-*ℚ, total_nonneg, unit, unit_other}
use Rattle.pa_replay.proofs.Steps.{Line, Cells, Solves}
use Rattle.pa_replay.proofs.Ends.{point, point_meets, point_value, direction, direction_lowers, direction_raises}
use Rattle.pa_replay.proofs.Basics.{basic, basic_solves, basic_cost, basic_nonneg, IsFirstCost, first_cost_is}
use Rattle.pa_replay.proofs.Bridges.{cells_of}
use Rattle.pa_replay.proofs.Kept.{IsReached}
use Rattle.pa_replay.proofs.Runs.{IsFeasible, settled_costs}

-- A tableau that is loaded with a problem: row j has the numbers `row j k` for each line k, and the bound `bound j`.
pub record HoldsProblem (n m : ℕ) (sign : ℕ → ℚ) (row : ℕ → ℕ → ℚ) (target bound : ℕ → ℚ) (t : Tableau) : Type 0 where
  pub rows : (k j : ℕ) → k < n → j < m → cell t k j ≡ sign k *ℚ row j k
  pub value : (k : ℕ) → k < n → cell t k (n + m) ≡ sign k *ℚ target k
  pub first : IsFirstCost n m (cells_of t) (cells_of t n)
  pub bounds : (j : ℕ) → j < m → cell t (n + 1) j ≡ bound j
  pub bounds_value : cell t (n + 1) (n + m) ≡ whole (pos 0)

-- in a column that is not artificial cost row 1 is loaded with minus the sum of the lines
first_there : (n m : ℕ) (loaded : Cells) (start : Line) (j : ℕ) → IsFirstCost n m loaded start → ((k : ℕ) → k < n → j ≡ m + k → ⊥) →
    start j ≡ neg_ℚ (total n (λ k. loaded k j))
first_there n m loaded start j f away =
    f.is j
    ∙ total_same n (λ k. unit (m + k) j -ℚ whole (pos 1) *ℚ loaded k j) (λ k. neg_ℚ (whole (pos 1)) *ℚ loaded k j)
    (λ k low. ap (λ u. u -ℚ whole (pos 1) *ℚ loaded k j) (unit_other (m + k) j (away k low)) ∙ by_ring (loaded k j ∷ []) (search reads depth 40) tt)
    ∙ total-*ℚ n (neg_ℚ (whole (pos 1))) (λ k. loaded k j)
    ∙ by_ring (total n (λ k. loaded k j) ∷ []) (search reads depth 40) tt

-- ---- the basic solution of a tableau that is reached
abbrev pub solution : ℕ → ℕ → Tableau → Line
solution n m t = basic n (n + m) (replay.basic t) (λ k. cell t k (n + m))

pub solution_solves : (n m : ℕ) (loaded t : Tableau) → IsReached n m (n + m + 1) loaded t → Solves n (n + m + 1) (cells_of t) (solution n m t)
solution_solves n m loaded t r =
    basic_solves n (n + m + 1) (n + m) (replay.basic t) (cells_of t) (λ k low. (let h = r.inside k low in omega (arith, h))) (omega arith) r.basics

-- cost row 1 has in its value column minus the sum of the artificial columns' values
pub first_cost_value : (n m : ℕ) (sign : ℕ → ℚ) (row : ℕ → ℕ → ℚ) (target bound : ℕ → ℚ) (loaded t : Tableau) →
    HoldsProblem n m sign row target bound loaded → IsReached n m (n + m + 1) loaded t →
    neg_ℚ (cell t n (n + m)) ≡ total n (λ k. solution n m t (m + k))
first_cost_value n m sign row target bound loaded t p r =
    let solves : Solves n (n + m + 1) (cells_of t) (solution n m t) = solution_solves n m loaded t r in
    sym (basic_cost n (n + m + 1) (n + m) n (replay.basic t) (cells_of t) (omega arith) (λ k low. (let h = r.inside k low in omega (arith, h)))
    (omega arith) r.basics)
    ∙ r.costs (solution n m t) solves n (omega arith)
    ∙ first_cost_is n m (n + m + 1) (cells_of loaded) (cells_of loaded n) (solution n m t) (omega arith) p.first (r.solved (solution n m t) solves)

pub solution_nonneg : (n m : ℕ) (loaded t : Tableau) → IsFeasible n m loaded t → (j : ℕ) → (j ≡ n + m → ⊥) → whole (pos 0) ≤ℚ solution n m t j
solution_nonneg n m loaded t f j d = basic_nonneg n (n + m) (replay.basic t) (λ k. cell t k (n + m)) f.values j d

-- ---- no weights: where phase 1 settles above 0, the direction sticks the target over the rows
pub no_weights_end : (n m : ℕ) (sign : ℕ → ℚ) (row : ℕ → ℕ → ℚ) (target bound : ℕ → ℚ) (loaded t : Tableau) → HoldsProblem n m sign row target bound loaded →
    IsFeasible n m loaded t →
    next_in n m n t ≡ Settled → is_zero (cell t n (n + m)) ≡ false →
    ((j : ℕ) → j < m → total n (λ k. direction m sign (cells_of t n) k *ℚ row j k) ≤ℚ whole (pos 0)) ×
    (whole (pos 0) <ℚ total n (λ k. direction m sign (cells_of t n) k *ℚ target k))
no_weights_end n m sign row target bound loaded t p f settled nonzero = (
  λ j low. direction_lowers n m j sign (row j) (cells_of loaded) (cells_of loaded n) (cells_of t n) (λ k below. p.rows k j below low)
      (f.reached.combined_costs n (omega arith))
      (first_there n m (cells_of loaded) (cells_of loaded n) j p.first (λ k below e. omega (arith, e, low))) (settled_costs n m n t settled j low),
  direction_raises n m (n + m) sign target (cells_of loaded) (cells_of loaded n) (cells_of t n) p.value (f.reached.combined_costs n (omega arith))
      (first_there n m (cells_of loaded) (cells_of loaded n) (n + m) p.first (λ k below e. omega (arith, e, below)))
      (below_zero (trichotomy_ℚ (cell t n (n + m)) (whole (pos 0)))),
)
  where
    sum_up : whole (pos 0) ≤ℚ neg_ℚ (cell t n (n + m))
    sum_up =
        subst (λ q. whole (pos 0) ≤ℚ q) (sym (first_cost_value n m sign row target bound loaded t p f.reached))
        (total_nonneg n (λ k. solution n m t (m + k)) (λ k low. solution_nonneg n m loaded t f (m + k) (λ e. omega (arith, e, low))))

    below_zero : (cell t n (n + m) <ℚ whole (pos 0)) ⊎ (cell t n (n + m) ≡ whole (pos 0)) ⊎ (whole (pos 0) <ℚ cell t n (n + m)) →
        cell t n (n + m) <ℚ whole (pos 0)
    below_zero (inl low) = low
    below_zero (inr (inl none)) = absurd (nonzero_value (cell t n (n + m)) nonzero none)
    below_zero (inr (inr up)) =
        absurd (lt_not_le_ℚ up (by_le (cell t n (n + m) ∷ []) (gap sum_up) (search reads depth 40) tt))

-- ---- the least end: the point meets each row, and its value is the target's
pub least_end : (n m : ℕ) (sign : ℕ → ℚ) (row : ℕ → ℕ → ℚ) (target bound : ℕ → ℚ) (loaded t : Tableau) → HoldsProblem n m sign row target bound loaded →
    IsReached n m (n + m + 1) loaded t →
    next_in n m (n + 1) t ≡ Settled →
    ((j : ℕ) → j < m → total n (λ k. point m sign (cells_of t (n + 1)) k *ℚ row j k) ≤ℚ bound j)
    × (total n (λ k. point m sign (cells_of t (n + 1)) k *ℚ target k) ≡ neg_ℚ (cell t (n + 1) (n + m)))
least_end n m sign row target bound loaded t p r settled = (
  λ j low. subst (λ b. total n (λ k. point m sign (cells_of t (n + 1)) k *ℚ row j k) ≤ℚ b) (p.bounds j low)
      (point_meets n m j sign (row j) (cells_of loaded) (cells_of loaded (n + 1)) (cells_of t (n + 1)) (λ k below. p.rows k j below low)
      (r.combined_costs (n + 1) (omega arith)) (settled_costs n m (n + 1) t settled j low)),
  point_value n m (n + m) sign target (cells_of loaded) (cells_of loaded (n + 1)) (cells_of t (n + 1)) p.value
      (r.combined_costs (n + 1) (omega arith)) p.bounds_value,
)
