-- Artificial columns after phase 1: they have the value 0, the drive-out clears their lines, and phase 2 keeps them so.
use Rattle.std.proofs.Common.{◌≡◌, ℕ, zero, suc, ◌<◌, ◌≤◌, ◌+◌, ◌-◌, ◌⊎◌, inl, inr, true, false, Ok, get_or, sym, ap, subst, ◌∙◌, arith, pos, [], ◌∷◌}
use Rattle.std.proofs.lemmas.List.{get_or-set_same, get_or-set_other}
use Rattle.pa_math.specs.Rational.{ℚ, whole, ◌+ℚ◌, ◌-ℚ◌, ◌*ℚ◌, neg_ℚ, reciprocal}
use Rattle.pa_math.specs.RationalOrder.{◌≤ℚ◌}
use Rattle.pa_math.proofs.RationalOrders.{≤ℚ_antisym}
use Rattle.pa_math.proofs.RationalTactics.{by_equations, by_le, null, ◌⋆◌, ◌⊞◌, gap, ◌·◌, ◌∔◌, reads}
use Rattle.pa_frac.specs.Operations.{is_zero}
use Rattle.pa_frac.proofs.Signs.{zero_value}
use Rattle.pa_tableau.specs.Arithmetic.{Arithmetic}
use Rattle.pa_tableau.specs.Tableau.{Tableau, cell, pivoted}
use Rattle.pa_replay.specs.Replay.{Candidate, first_from, is_positive, driven}
use Rattle.pa_replay.specs.Replay as replay
use Rattle.pa_replay.proofs.Sums.{total, total_nonneg, unit, unit_here, unit_other, unit_nonneg}
use Rattle.pa_replay.proofs.Steps.{Cells, IsPivot}
use Rattle.pa_replay.proofs.Bridges.{IsSound, cells_of, pivot_of_cells, pivoted_parts}
use Rattle.pa_replay.proofs.Kept.{IsReached, reached_after}
use Rattle.pa_replay.proofs.Runs.{IsFeasible}
use Rattle.pa_replay.proofs.Theorems.{HoldsProblem, solution, solution_nonneg, first_cost_value}

-- ---- sums of numbers that are not negative
term_below : (n : ℕ) (f : ℕ → ℚ) (i : ℕ) → ((k : ℕ) → k < n → whole (pos 0) ≤ℚ f k) → i < n → f i ≤ℚ total n f
term_below zero f i h low = absurd (omega arith)
term_below (suc n) f i h low = by_place (same_or_not i n) (λ before. term_below n f i (λ k b. h k (omega arith)) before)
  where
    same_or_not : (i n : ℕ) → (i ≡ n) ⊎ (i ≡ n → ⊥)
    same_or_not i n = search arith

    by_place : (i ≡ n) ⊎ (i ≡ n → ⊥) → (i < n → f i ≤ℚ total n f) → f i ≤ℚ (total n f +ℚ f n)
    by_place (inl e) before =
        subst (λ k. f k ≤ℚ (total n f +ℚ f n)) (sym e) (by_le (f n ∷ total n f ∷ []) (total_nonneg n f (λ k b. h k (omega arith))) (search reads depth 40) tt)
    by_place (inr d) before = by_le (f i ∷ f n ∷ total n f ∷ []) (gap (before (omega (arith, d))) ∔ h n (omega arith)) (search reads depth 40) tt

-- ---- after phase 1
-- where the sum is 0, an artificial column that is basic has the value 0
pub artificial_zero : (n m : ℕ) (sign : ℕ → ℚ) (row : ℕ → ℕ → ℚ) (target bound : ℕ → ℚ) (loaded t : Tableau) → HoldsProblem n m sign row target bound loaded →
    IsFeasible n m loaded t →
    is_zero (cell t n (n + m)) ≡ true → (k : ℕ) → k < n → m ≤ replay.basic t k → cell t k (n + m) ≡ whole (pos 0)
artificial_zero n m sign row target bound loaded t p f none k low high =
    let b : ℕ = replay.basic t k in
    let inside : b < n + m = f.reached.inside k low in
    let sum : total n (λ k. solution n m t (m + k)) ≡ whole (pos 0) =
    sym (first_cost_value n m sign row target bound loaded t p f.reached)
    ∙ (let z : cell t n (n + m) ≡ whole (pos 0) = zero_value (cell t n (n + m)) none in by_equations (cell t n (n + m) ∷ []) (neg_ℚ (whole (pos 1)) ⋆ null z)
    (search reads depth 40) tt) in
    let part : solution n m t (m + (b - m)) ≤ℚ total n (λ k. solution n m t (m + k)) =
    term_below n (λ k. solution n m t (m + k)) (b - m) (λ k low. solution_nonneg n m loaded t f (m + k) (λ e. omega (arith, e, low)))
    (omega (arith, inside, high)) in
    let there : solution n m t b ≤ℚ whole (pos 0) =
    subst (λ j. solution n m t j ≤ℚ whole (pos 0)) (omega (arith, high)) (subst (λ (q : ℚ). solution n m t (m + (b - m)) ≤ℚ q) sum part) in
    let term : (cell t k (n + m) *ℚ unit b b) ≤ℚ total n (λ i. cell t i (n + m) *ℚ unit (replay.basic t i) b) =
    term_below n (λ i. cell t i (n + m) *ℚ unit (replay.basic t i) b) k (λ i low. f.values i low · unit_nonneg (replay.basic t i) b) low in
    let away : unit (n + m) b ≡ whole (pos 0) = unit_other (n + m) b (λ e. omega (arith, e, inside)) in
    let one : unit b b ≡ whole (pos 1) = unit_here b in
    ≤ℚ_antisym
    (by_le (cell t k (n + m) ∷ total n (λ i. cell t i (n + m) *ℚ unit (replay.basic t i) b) ∷ [])
    (gap (subst (λ u. (cell t k (n + m) *ℚ u) ≤ℚ total n (λ i. cell t i (n + m) *ℚ unit (replay.basic t i) b)) one term)
    ∔ gap (subst (λ u. (total n (λ i. cell t i (n + m) *ℚ unit (replay.basic t i) b) -ℚ whole (pos 1) *ℚ u) ≤ℚ whole (pos 0)) away there))
    (search reads depth 40) tt)
    (f.values k low)

-- ---- clean lines
-- each line below i whose basic column is artificial has 0 in the rows' columns, and each such line has the value 0
pub record IsClean (n m i : ℕ) (t : Tableau) : Type 0 where
  pub cells : (k : ℕ) → k < i → m ≤ replay.basic t k → (j : ℕ) → j < m → cell t k j ≡ whole (pos 0)
  pub values : (k : ℕ) → k < n → m ≤ replay.basic t k → cell t k (n + m) ≡ whole (pos 0)

same_or_not : (i l : ℕ) → (i ≡ l) ⊎ (i ≡ l → ⊥)
same_or_not i l = search arith

basis_here : (A : Arithmetic) (n m pivot l c : ℕ) (loaded t u : Tableau) → IsReached n m (n + m + 1) loaded t → l < n → Ok u ≡ pivoted A pivot l c t →
    replay.basic u l ≡ c
basis_here A n m pivot l c loaded t u r low h = ap (λ b. get_or b l 0) (pivoted_parts A pivot l c t u h).basis
    ∙ get_or-set_same t.basis l c 0 (omega (arith, low, r.basis))

basis_there : (A : Arithmetic) (pivot l c k : ℕ) (t u : Tableau) → Ok u ≡ pivoted A pivot l c t → (k ≡ l → ⊥) → replay.basic u k ≡ replay.basic t k
basis_there A pivot l c k t u h d = ap (λ b. get_or b k 0) (pivoted_parts A pivot l c t u h).basis ∙ get_or-set_other t.basis l k c 0 d

-- a line with 0 in the pivot's column stays as it is
unmoved : (t u : Cells) (l c k j : ℕ) → IsPivot t u l c → (k ≡ l → ⊥) → t k c ≡ whole (pos 0) → u k j ≡ t k j
unmoved t u l c k j p d z = by_equations (u k j ∷ t k j ∷ t k c ∷ u l j ∷ []) (null (p.reduced k j d) ⊞ neg_ℚ (u l j) ⋆ null z) (search reads depth 40) tt

-- a pivot of phase 2 keeps all lines clean
pub clean_after : (A : Arithmetic) (n m pivot l c : ℕ) (loaded t u : Tableau) → IsSound A → IsReached n m (n + m + 1) loaded t → IsClean n m n t → l < n →
    c < m → is_zero (cell t l c) ≡ false → Ok u ≡ pivoted A pivot l c t →
    IsClean n m n u
clean_after A n m pivot l c loaded t u s r clean low column nonzero h = record {
  cells = λ k below high j inside. by_cells k below high j inside (same_or_not k l);
  values = λ k below high. by_values k below high (same_or_not k l);
}
  where
    p : IsPivot (cells_of t) (cells_of u) l c
    p = pivot_of_cells A pivot l c (n + m + 1) t u s r.rectangle (omega (arith, low, r.count)) nonzero h

    by_cells : (k : ℕ) → k < n → m ≤ replay.basic u k → (j : ℕ) → j < m → (k ≡ l) ⊎ (k ≡ l → ⊥) → cell u k j ≡ whole (pos 0)
    by_cells k below high j inside (inl e) = absurd (let same = ap (replay.basic u) e
        ∙ basis_here A n m pivot l c loaded t u r low h in omega (arith, same, high, column))
    by_cells k below high j inside (inr d) =
        let same : replay.basic u k ≡ replay.basic t k = basis_there A pivot l c k t u h d in
        unmoved (cells_of t) (cells_of u) l c k j p d (clean.cells k below (omega (arith, same, high)) c column)
        ∙ clean.cells k below (omega (arith, same, high)) j inside

    by_values : (k : ℕ) → k < n → m ≤ replay.basic u k → (k ≡ l) ⊎ (k ≡ l → ⊥) → cell u k (n + m) ≡ whole (pos 0)
    by_values k below high (inl e) = absurd (let same = ap (replay.basic u) e
        ∙ basis_here A n m pivot l c loaded t u r low h in omega (arith, same, high, column))
    by_values k below high (inr d) =
        let same : replay.basic u k ≡ replay.basic t k = basis_there A pivot l c k t u h d in
        unmoved (cells_of t) (cells_of u) l c k (n + m) p d (clean.cells k below (omega (arith, same, high)) c column)
        ∙ clean.values k below (omega (arith, same, high))

-- a pivot of the drive-out on line i: the lines below i stay clean, the line itself becomes so, and no value changes
pub drive_clean : (A : Arithmetic) (n m pivot i c : ℕ) (loaded t u : Tableau) → IsSound A → IsFeasible n m loaded t → IsClean n m i t → i < n →
    m ≤ replay.basic t i → c < m → is_zero (cell t i c) ≡ false → Ok u ≡ pivoted A pivot i c t →
    IsFeasible n m loaded u × IsClean n m (suc i) u
drive_clean A n m pivot i c loaded t u s f clean low high column nonzero h = (
  record {
    reached = reached_after A n m (n + m + 1) pivot i c loaded t u s f.reached low (omega (arith, column)) nonzero h;
    values = λ k below. subst
        (λ q. whole (pos 0) ≤ℚ q) (sym (kept k)) (f.values k below);
  },
  record {
    cells = λ k below up j inside. by_cells k below up j inside (same_or_not k i);
    values = λ k below up. by_values k below up (same_or_not k i);
  },
)
  where
    p : IsPivot (cells_of t) (cells_of u) i c
    p = pivot_of_cells A pivot i c (n + m + 1) t u s f.reached.rectangle (omega (arith, low, f.reached.count)) nonzero h

    none : cell u i (n + m) ≡ whole (pos 0)
    none =
        let z : cell t i (n + m) ≡ whole (pos 0) = clean.values i low high in
        by_equations (cell u i (n + m) ∷ cell t i (n + m) ∷ reciprocal (cell t i c) ∷ []) (null (p.divided (n + m)) ⊞ reciprocal (cell t i c) ⋆ null z)
        (search reads depth 40) tt

    by_kept : (k : ℕ) → (k ≡ i) ⊎ (k ≡ i → ⊥) → cell u k (n + m) ≡ cell t k (n + m)
    by_kept k (inl e) = ap (λ k. cell u k (n + m)) e ∙ none ∙ sym (ap (λ k. cell t k (n + m)) e ∙ clean.values i low high)
    by_kept k (inr d) =
        let z : cell u i (n + m) ≡ whole (pos 0) = none in
        by_equations (cell u k (n + m) ∷ cell t k (n + m) ∷ cell t k c ∷ cell u i (n + m) ∷ []) (null (p.reduced k (n + m) d) ⊞ neg_ℚ (cell t k c) ⋆ null z)
        (search reads depth 40) tt

    kept : (k : ℕ) → cell u k (n + m) ≡ cell t k (n + m)
    kept k = by_kept k (same_or_not k i)

    by_cells : (k : ℕ) → k < suc i → m ≤ replay.basic u k → (j : ℕ) → j < m → (k ≡ i) ⊎ (k ≡ i → ⊥) → cell u k j ≡ whole (pos 0)
    by_cells k below up j inside (inl e) = absurd (let same = ap (replay.basic u) e
        ∙ basis_here A n m pivot i c loaded t u f.reached low h in omega (arith, same, up, column))
    by_cells k below up j inside (inr d) =
        let same : replay.basic u k ≡ replay.basic t k = basis_there A pivot i c k t u h d in
        unmoved (cells_of t) (cells_of u) i c k j p d (clean.cells k (omega (arith, below, d)) (omega (arith, same, up)) c column)
        ∙ clean.cells k (omega (arith, below, d)) (omega (arith, same, up)) j inside

    by_values : (k : ℕ) → k < n → m ≤ replay.basic u k → (k ≡ i) ⊎ (k ≡ i → ⊥) → cell u k (n + m) ≡ whole (pos 0)
    by_values k below up (inl e) = absurd (let same = ap (replay.basic u) e
        ∙ basis_here A n m pivot i c loaded t u f.reached low h in omega (arith, same, up, column))
    by_values k below up (inr d) =
        let same : replay.basic u k ≡ replay.basic t k = basis_there A pivot i c k t u h d in
        kept k ∙ clean.values k below (omega (arith, same, up))
