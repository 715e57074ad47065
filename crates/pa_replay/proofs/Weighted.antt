-- The weights of the least end and the ray of an endless column, as combinations of the problem's rows.
use Rattle.std.proofs.Common.{◌≡◌, ℕ, zero, suc, ◌<◌, ◌+◌, ◌⊎◌, inl, inr, false, Option, Some, None}
use Rattle.std.proofs.Common.{is_some, refl, sym, ap, ap₂, subst, ◌∙◌, arith, pos, [], ◌∷◌}
use Rattle.pa_math.specs.Rational.{ℚ, whole, ◌+ℚ◌, ◌-ℚ◌, ◌*ℚ◌, neg_ℚ}
use Rattle.pa_math.specs.RationalOrder.{◌≤ℚ◌, ◌<ℚ◌}
use Rattle.pa_math.proofs.RationalOrders.{≤ℚ_refl, lt_or_le_ℚ}
use Rattle.pa_math.proofs.RationalTactics.{by_ring, by_equations, by_le, null, ◌⋆◌, ◌⊞◌, gap, ◌·◌, ◌∔◌, reads}
use Rattle.pa_tableau.specs.Tableau.{Tableau, cell}
use Rattle.pa_replay.specs.Replay.{first_from, is_negative, is_positive, entering, can_leave, next_in}
use Rattle.pa_replay.specs.Replay as replay
use Rattle.pa_replay.proofs.Sums.{total, total_same, total-*ℚ, total_zeros, total_nonneg, unit, unit_here, unit_other, unit_nonneg}
use Rattle.pa_replay.proofs.Steps.{Line, at, Solves}
use Rattle.pa_replay.proofs.Basics.{basic, basic_solves, basic_cost}
use Rattle.pa_replay.proofs.Bridges.{cells_of}
use Rattle.pa_replay.proofs.Runs.{IsFeasible, sign_positive, first_absent}
use Rattle.pa_replay.proofs.Theorems.{HoldsProblem, solution, solution_solves}
use Rattle.pa_replay.proofs.Clean.{IsClean}

-- a sum in two parts
pub total_split : (m n : ℕ) (f : ℕ → ℚ) → total (m + n) f ≡ total m f +ℚ total n (λ k. f (m + k))
total_split m zero f =
    let e : m + 0 ≡ m = omega arith in
    ap (λ k. total k f) e ∙ by_ring (total m f ∷ []) (search reads depth 40) tt
total_split m (suc n) f =
    let e : m + suc n ≡ suc (m + n) = omega arith in
    ap (λ k. total k f) e ∙ ap (λ t. t +ℚ f (m + n)) (total_split m n f)
    ∙ by_ring (total m f ∷ total n (λ k. f (m + k)) ∷ f (m + n) ∷ []) (search reads depth 40) tt

columns : (m n : ℕ) (f : ℕ → ℚ) → total (n + m + 1) f ≡ total m f +ℚ total n (λ k. f (m + k)) +ℚ f (n + m)
columns m n f =
    let e : n + m + 1 ≡ suc (n + m) = omega arith in
    let d : n + m ≡ m + n = omega arith in
    ap (λ k. total k f) e ∙ ap (λ s. s +ℚ f (n + m)) (ap (λ k. total k f) d ∙ total_split m n f)

-- what was loaded in the artificial columns
pub record HasUnits (n m : ℕ) (sign : ℕ → ℚ) (t : Tableau) : Type 0 where
  pub signs : (k : ℕ) → sign k *ℚ sign k ≡ whole (pos 1)
  pub units : (k i : ℕ) → k < n → i < n → cell t k (m + i) ≡ unit k i
  pub no_costs : (i : ℕ) → i < n → cell t (n + 1) (m + i) ≡ whole (pos 0)

-- numbers that solve the loaded lines, with 0 in the artificial columns, combine the rows to a multiple of the target
pub solved_rows : (n m : ℕ) (sign : ℕ → ℚ) (row : ℕ → ℕ → ℚ) (target bound : ℕ → ℚ) (loaded : Tableau) (z : Line) →
    HoldsProblem n m sign row target bound loaded → HasUnits n m sign loaded →
    Solves n (n + m + 1) (cells_of loaded) z → ((i : ℕ) → i < n → z (m + i) ≡ whole (pos 0)) → (k : ℕ) → k < n →
    total m (λ j. z j *ℚ row j k) ≡ neg_ℚ (z (n + m) *ℚ target k)
solved_rows n m sign row target bound loaded z p h s none k low =
    let own : total m (λ j. z j *ℚ cell loaded k j) ≡ sign k *ℚ total m (λ j. z j *ℚ row j k) =
    total_same m (λ j. z j *ℚ cell loaded k j) (λ j. sign k *ℚ (z j *ℚ row j k))
    (λ j below. ap (λ c. z j *ℚ c) (p.rows k j low below) ∙ by_ring (z j ∷ sign k ∷ row j k ∷ []) (search reads depth 40) tt)
    ∙ total-*ℚ m (sign k) (λ j. z j *ℚ row j k) in
    let others : total n (λ i. z (m + i) *ℚ cell loaded k (m + i)) ≡ whole (pos 0) =
    total_same n (λ i. z (m + i) *ℚ cell loaded k (m + i)) (λ i. whole (pos 0))
    (λ i below. ap (λ q. q *ℚ cell loaded k (m + i)) (none i below) ∙ by_ring (cell loaded k (m + i) ∷ []) (search reads depth 40) tt)
    ∙ total_zeros n in
    let all : total m (λ j. z j *ℚ cell loaded k j) +ℚ total n (λ i. z (m + i) *ℚ cell loaded k (m + i)) +ℚ z (n + m) *ℚ cell loaded k (n + m) ≡ whole (pos 0) =
    sym (columns m n (λ j. z j *ℚ cell loaded k j)) ∙ s k low in
    let one : sign k *ℚ sign k ≡ whole (pos 1) = h.signs k in
    let last : cell loaded k (n + m) ≡ sign k *ℚ target k = p.value k low in
    by_equations
    (total m (λ j. z j *ℚ row j k) ∷ total m (λ j. z j *ℚ cell loaded k j) ∷ total n (λ i. z (m + i) *ℚ cell loaded k (m + i)) ∷ z (n + m) ∷ cell loaded k
    (n + m) ∷ sign k ∷ target k ∷ [])
    (sign k ⋆ null all ⊞ neg_ℚ (sign k) ⋆ null own ⊞ neg_ℚ (sign k) ⋆ null others ⊞ neg_ℚ (sign k *ℚ z (n + m)) ⋆ null last
    ⊞ neg_ℚ (total m (λ j. z j *ℚ row j k) +ℚ z (n + m) *ℚ target k) ⋆ null one) (search reads depth 40) tt

-- and cost row 2 has the weighted sum of the bounds at them
pub solved_cost : (n m : ℕ) (sign : ℕ → ℚ) (row : ℕ → ℕ → ℚ) (target bound : ℕ → ℚ) (loaded : Tableau) (z : Line) →
    HoldsProblem n m sign row target bound loaded → HasUnits n m sign loaded →
    at (n + m + 1) (cells_of loaded (n + 1)) z ≡ total m (λ j. z j *ℚ bound j)
solved_cost n m sign row target bound loaded z p h =
    columns m n (λ j. z j *ℚ cell loaded (n + 1) j)
    ∙ ap₂ ◌+ℚ◌
    (ap₂ ◌+ℚ◌ (total_same m (λ j. z j *ℚ cell loaded (n + 1) j) (λ j. z j *ℚ bound j) (λ j low. ap (λ c. z j *ℚ c) (p.bounds j low)))
    (total_same n (λ i. z (m + i) *ℚ cell loaded (n + 1) (m + i)) (λ i. whole (pos 0))
    (λ i low. ap (λ c. z (m + i) *ℚ c) (h.no_costs i low) ∙ by_ring (z (m + i) ∷ []) (search reads depth 40) tt) ∙ total_zeros n))
    (ap (λ c. z (n + m) *ℚ c) p.bounds_value)
    ∙ by_ring (total m (λ j. z j *ℚ bound j) ∷ z (n + m) ∷ []) (search reads depth 40) tt

-- ---- numbers by basic columns
-- a column that is basic for no line, or only where the number is 0
away : (n c j : ℕ) (basis : ℕ → ℕ) (v : ℕ → ℚ) → ((k : ℕ) → k < n → basis k ≡ j → v k ≡ whole (pos 0)) → (j ≡ c → ⊥) → basic n c basis v j ≡ whole (pos 0)
away n c j basis v h d =
    ap₂ (λ s u. s -ℚ whole (pos 1) *ℚ u)
    (total_same n (λ k. v k *ℚ unit (basis k) j) (λ k. whole (pos 0)) (λ k low. by_place k low (same_or_not (basis k) j)) ∙ total_zeros n)
    (unit_other c j d)
    ∙ by_ring [] (search reads depth 40) tt
  where
    same_or_not : (i l : ℕ) → (i ≡ l) ⊎ (i ≡ l → ⊥)
    same_or_not i l = search arith

    by_place : (k : ℕ) → k < n → (basis k ≡ j) ⊎ (basis k ≡ j → ⊥) → v k *ℚ unit (basis k) j ≡ whole (pos 0)
    by_place k low (inl e) = ap (λ q. q *ℚ unit (basis k) j) (h k low e) ∙ by_ring (unit (basis k) j ∷ []) (search reads depth 40) tt
    by_place k low (inr f) = ap (λ u. v k *ℚ u) (unit_other (basis k) j (λ e. f (sym e))) ∙ by_ring (v k ∷ []) (search reads depth 40) tt

here : (n c : ℕ) (basis : ℕ → ℕ) (v : ℕ → ℚ) → ((k : ℕ) → k < n → basis k < c) → basic n c basis v c ≡ neg_ℚ (whole (pos 1))
here n c basis v h =
    ap₂ (λ s u. s -ℚ whole (pos 1) *ℚ u)
    (total_same n (λ k. v k *ℚ unit (basis k) c) (λ k. whole (pos 0))
    (λ k low. ap (λ u. v k *ℚ u) (unit_other (basis k) c (λ e. let below = h k low in omega (arith, e, below)))
    ∙ by_ring (v k ∷ []) (search reads depth 40) tt) ∙ total_zeros n)
    (unit_here c)
    ∙ by_ring [] (search reads depth 40) tt

-- ---- the least end: weights that are not negative combine the rows to the target, at the value
pub least_weights : (n m : ℕ) (sign : ℕ → ℚ) (row : ℕ → ℕ → ℚ) (target bound : ℕ → ℚ) (loaded t : Tableau) → HoldsProblem n m sign row target bound loaded →
    HasUnits n m sign loaded → IsFeasible n m loaded t → IsClean n m n t →
    ((k : ℕ) → k < n → total m (λ j. solution n m t j *ℚ row j k) ≡ target k) × (total m (λ j. solution n m t j *ℚ bound j) ≡ neg_ℚ (cell t (n + 1) (n + m)))
least_weights n m sign row target bound loaded t p h f clean = (
  λ k low.
      let last : solution n m t (n + m) ≡ neg_ℚ (whole (pos 1)) = here n (n + m) (replay.basic t) (λ k. cell t k (n + m)) f.reached.inside in
      let rows : total m (λ j. solution n m t j *ℚ row j k) ≡ neg_ℚ (solution n m t (n + m) *ℚ target k) = solved_rows n m sign row target bound loaded
      (solution n m t) p h solves none k low in
      by_equations (total m (λ j. solution n m t j *ℚ row j k) ∷ solution n m t (n + m) ∷ target k ∷ []) (null rows ⊞ neg_ℚ (target k) ⋆ null last)
      (search reads depth 40) tt,
  sym (solved_cost n m sign row target bound loaded (solution n m t) p h)
      ∙ sym (f.reached.costs (solution n m t) (solution_solves n m loaded t f.reached) (n + 1) (omega arith))
      ∙ basic_cost n (n + m + 1) (n + m) (n + 1) (replay.basic t) (cells_of t) (omega arith) (λ k low. (let h = f.reached.inside k low in omega (arith, h)))
      (omega arith) f.reached.basics,
)
  where
    solves : Solves n (n + m + 1) (cells_of loaded) (solution n m t)
    solves = f.reached.solved (solution n m t) (solution_solves n m loaded t f.reached)

    none : (i : ℕ) → i < n → solution n m t (m + i) ≡ whole (pos 0)
    none i low = away n (n + m) (m + i) (replay.basic t) (λ k. cell t k (n + m)) (λ k below e. clean.values k below (omega (arith, e)))
        (λ e. omega (arith, e, low))

-- ---- the endless column: minus the ray is such a list of numbers too
abbrev pub minus_ray : ℕ → ℕ → Tableau → Line
minus_ray n c t = basic n c (replay.basic t) (λ k. cell t k c)

-- the ray combines the rows to 0, and their bounds to the column's negative cost
pub endless_ray : (n m c : ℕ) (sign : ℕ → ℚ) (row : ℕ → ℕ → ℚ) (target bound : ℕ → ℚ) (loaded t : Tableau) → HoldsProblem n m sign row target bound loaded →
    HasUnits n m sign loaded → IsFeasible n m loaded t → IsClean n m n t →
    c < m → ((k : ℕ) → k < n → total m (λ j. minus_ray n c t j *ℚ row j k) ≡ whole (pos 0)) ×
    (total m (λ j. minus_ray n c t j *ℚ bound j) ≡ neg_ℚ (cell t (n + 1) c))
endless_ray n m c sign row target bound loaded t p h f clean column = (
  λ k low.
      let last : minus_ray n c t (n + m) ≡ whole (pos 0) =
      away n c (n + m) (replay.basic t) (λ k. cell t k c) (λ k below e. absurd (let inside = f.reached.inside k below in omega (arith, e, inside)))
      (λ e. omega (arith, e, column)) in
      let rows : total m (λ j. minus_ray n c t j *ℚ row j k) ≡ neg_ℚ (minus_ray n c t (n + m) *ℚ target k) = solved_rows n m sign row target bound loaded
      (minus_ray n c t) p h (f.reached.solved (minus_ray n c t) solves) none k low in
      by_equations (total m (λ j. minus_ray n c t j *ℚ row j k) ∷ minus_ray n c t (n + m) ∷ target k ∷ []) (null rows ⊞ neg_ℚ (target k) ⋆ null last)
      (search reads depth 40) tt,
  sym (solved_cost n m sign row target bound loaded (minus_ray n c t) p h)
      ∙ sym (f.reached.costs (minus_ray n c t) solves (n + 1) (omega arith))
      ∙ basic_cost n (n + m + 1) c (n + 1) (replay.basic t) (cells_of t) (omega arith) (λ k low. (let h = f.reached.inside k low in omega (arith, h)))
      (omega (arith, column)) f.reached.basics,
)
  where
    solves : Solves n (n + m + 1) (cells_of t) (minus_ray n c t)
    solves = basic_solves n (n + m + 1) c (replay.basic t) (cells_of t) (λ k low. (let h = f.reached.inside k low in omega (arith, h)))
        (omega (arith, column)) f.reached.basics

    none : (i : ℕ) → i < n → minus_ray n c t (m + i) ≡ whole (pos 0)
    none i low = away n c (m + i) (replay.basic t) (λ k. cell t k c) (λ k below e. clean.cells k below (omega (arith, e)) c column)
        (λ e. omega (arith, e, column))

-- where no line may leave, no cell of the column is positive
pub never_leaves : (n c : ℕ) (t : Tableau) → can_leave n c t ≡ false → (k : ℕ) → k < n → cell t k c ≤ℚ whole (pos 0)
never_leaves n c t h k low = no_more (lt_or_le_ℚ (whole (pos 0)) (cell t k c))
  where
    absent : (o : Option ℕ) → first_from (λ i. is_positive (cell t i c)) 0 n ≡ o → is_some o ≡ false → is_positive (cell t k c) ≡ false
    absent None e z = subst (λ i. is_positive (cell t i c) ≡ false) (omega arith) (first_absent (λ i. is_positive (cell t i c)) 0 n e k low)
    absent (Some i) e z = absurd (cc z)

    no_more : (whole (pos 0) <ℚ cell t k c) ⊎ (cell t k c ≤ℚ whole (pos 0)) → cell t k c ≤ℚ whole (pos 0)
    no_more (inl up) = absurd (cc (sym (sign_positive (cell t k c) up) ∙ absent (first_from (λ i. is_positive (cell t i c)) 0 n) refl h))
    no_more (inr down) = down

-- no number of the ray is negative, where no cell of the column is positive
pub ray_nonneg : (n m c : ℕ) (t : Tableau) → can_leave n c t ≡ false → (j : ℕ) → minus_ray n c t j ≤ℚ whole (pos 0)
ray_nonneg n m c t h j =
    by_le (total n (λ k. cell t k c *ℚ unit (replay.basic t k) j) ∷ total n (λ k. neg_ℚ (cell t k c *ℚ unit (replay.basic t k) j)) ∷ unit c j ∷ [])
    (gap_same signs ∔ (total_nonneg n (λ k. neg_ℚ (cell t k c *ℚ unit (replay.basic t k) j)) (λ k low. lowers k low) ∔ unit_nonneg c j))
    (search reads depth 40) tt
  where
    gap_same : {q r : ℚ} → q ≡ r → whole (pos 0) ≤ℚ (r -ℚ q)
    gap_same {q} {r} e = gap (subst (λ r. q ≤ℚ r) e (≤ℚ_refl q))

    signs : total n (λ k. neg_ℚ (cell t k c *ℚ unit (replay.basic t k) j)) ≡ neg_ℚ (total n (λ k. cell t k c *ℚ unit (replay.basic t k) j))
    signs =
        total_same n (λ k. neg_ℚ (cell t k c *ℚ unit (replay.basic t k) j)) (λ k. neg_ℚ (whole (pos 1)) *ℚ (cell t k c *ℚ unit (replay.basic t k) j))
        (λ k low. by_ring (cell t k c ∷ unit (replay.basic t k) j ∷ []) (search reads depth 40) tt)
        ∙ total-*ℚ n (neg_ℚ (whole (pos 1))) (λ k. cell t k c *ℚ unit (replay.basic t k) j)
        ∙ by_ring (total n (λ k. cell t k c *ℚ unit (replay.basic t k) j) ∷ []) (search reads depth 40) tt

    lowers : (k : ℕ) → k < n → whole (pos 0) ≤ℚ neg_ℚ (cell t k c *ℚ unit (replay.basic t k) j)
    lowers k low =
        by_le (cell t k c ∷ unit (replay.basic t k) j ∷ []) (gap (never_leaves n c t h k low) · unit_nonneg (replay.basic t k) j)
        (search reads depth 40) tt
