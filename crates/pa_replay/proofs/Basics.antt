-- The basic solution of a tableau: each basic column has the value of its line, and the other columns have 0.
use Rattle.std.proofs.Common.{◌≡◌, ℕ, ◌<◌, ◌≤◌, ◌+◌, ◌⊎◌, inl, inr, sym, ap, ap₂, subst, ◌∙◌, arith, pos, [], ◌∷◌}
use Rattle.pa_math.specs.Rational.{ℚ, whole, ◌-ℚ◌, ◌*ℚ◌, neg_ℚ}
use Rattle.pa_math.specs.RationalOrder.{◌≤ℚ◌}
use Rattle.pa_math.proofs.RationalTactics.{by_ring, by_equations, null, ◌⋆◌, ◌·◌, reads}
use Rattle.pa_replay.proofs.Sums.{total, total_same, total_less, total-*ℚ, total_exchange, total_zeros}
use Rattle.pa_replay.proofs.Sums.{total_nonneg, total_unit, unit, unit_nonneg, unit_here, unit_other}
use Rattle.pa_replay.proofs.Steps.{Line, Cells, at, Solves, IsBasic}

-- numbers for all columns: v k in the basic column of line k, and -1 in the value column
abbrev pub basic : ℕ → ℕ → (ℕ → ℕ) → (ℕ → ℚ) → Line
basic n value basis v j = total n (λ k. v k *ℚ unit (basis k) j) -ℚ whole (pos 1) *ℚ unit value j

-- the value of a line at them
pub at_basic : (n w value : ℕ) (basis : ℕ → ℕ) (v : ℕ → ℚ) (line : Line) → ((k : ℕ) → k < n → basis k < w) → value < w →
    at w line (basic n value basis v) ≡ total n (λ k. v k *ℚ line (basis k)) -ℚ line value
at_basic n w value basis v line low end =
    total_same w (λ j. basic n value basis v j *ℚ line j) (λ j. total n (λ k. v k *ℚ (line j *ℚ unit (basis k) j)) -ℚ whole (pos 1) *ℚ (line j *ℚ unit value j))
    (λ j h.
    let parts : total n (λ k. v k *ℚ (line j *ℚ unit (basis k) j)) ≡ line j *ℚ total n (λ k. v k *ℚ unit (basis k) j) =
    total_same n (λ k. v k *ℚ (line j *ℚ unit (basis k) j)) (λ k. line j *ℚ (v k *ℚ unit (basis k) j))
    (λ k i. by_ring (v k ∷ line j ∷ unit (basis k) j ∷ []) (search reads depth 40) tt)
    ∙ total-*ℚ n (line j) (λ k. v k *ℚ unit (basis k) j) in
    by_equations (line j ∷ unit value j ∷ total n (λ k. v k *ℚ unit (basis k) j) ∷ total n (λ k. v k *ℚ (line j *ℚ unit (basis k) j)) ∷ [])
    (neg_ℚ (whole (pos 1)) ⋆ null parts) (search reads depth 40) tt)
    ∙ total_less w (whole (pos 1)) (λ j. total n (λ k. v k *ℚ (line j *ℚ unit (basis k) j))) (λ j. line j *ℚ unit value j)
    ∙ ap₂ (λ s t. s -ℚ whole (pos 1) *ℚ t)
    (total_exchange w n (λ j k. v k *ℚ (line j *ℚ unit (basis k) j))
    ∙ total_same n (λ k. total w (λ j. v k *ℚ (line j *ℚ unit (basis k) j))) (λ k. v k *ℚ line (basis k))
    (λ k h. total-*ℚ w (v k) (λ j. line j *ℚ unit (basis k) j) ∙ ap (λ t. v k *ℚ t) (total_unit w (basis k) line (low k h))))
    (total_unit w value line end)
    ∙ by_ring (line value ∷ total n (λ k. v k *ℚ line (basis k)) ∷ []) (search reads depth 40) tt

-- a basic column in a line
basic_cell : (t : Cells) (basis : ℕ → ℕ) (i k : ℕ) → IsBasic t k (basis k) → t i (basis k) ≡ unit i k
basic_cell t basis i k b = by_line (same_or_not i k)
  where
    same_or_not : (i l : ℕ) → (i ≡ l) ⊎ (i ≡ l → ⊥)
    same_or_not i l = search arith

    by_line : (i ≡ k) ⊎ (i ≡ k → ⊥) → t i (basis k) ≡ unit i k
    by_line (inl e) = ap (λ i. t i (basis k)) e ∙ b.one ∙ sym (ap (λ i. unit i k) e ∙ unit_here k)
    by_line (inr d) = b.zeros i d ∙ sym (unit_other i k (λ e. d (sym e)))

-- the basic solution solves the lines
pub basic_solves : (n w value : ℕ) (basis : ℕ → ℕ) (t : Cells) → ((k : ℕ) → k < n → basis k < w) → value < w → ((k : ℕ) → k < n → IsBasic t k (basis k)) →
    Solves n w t (basic n value basis (λ k. t k value))
basic_solves n w value basis t low end b i h =
    at_basic n w value basis (λ k. t k value) (t i) low end
    ∙ ap (λ s. s -ℚ t i value)
    (total_same n (λ k. t k value *ℚ t i (basis k)) (λ k. t k value *ℚ unit i k) (λ k j. ap (λ c. t k value *ℚ c) (basic_cell t basis i k (b k j)))
    ∙ total_unit n i (λ k. t k value) h)
    ∙ by_ring (t i value ∷ []) (search reads depth 40) tt

-- and a cost row's value at it is minus its value column
pub basic_cost : (n w value q : ℕ) (basis : ℕ → ℕ) (t : Cells) → n ≤ q → ((k : ℕ) → k < n → basis k < w) → value < w →
    ((k : ℕ) → k < n → IsBasic t k (basis k)) →
    at w (t q) (basic n value basis (λ k. t k value)) ≡ neg_ℚ (t q value)
basic_cost n w value q basis t above low end b =
    at_basic n w value basis (λ k. t k value) (t q) low end
    ∙ ap (λ s. s -ℚ t q value)
    (total_same n (λ k. t k value *ℚ t q (basis k)) (λ k. whole (pos 0))
    (λ k j. ap (λ c. t k value *ℚ c) ((b k j).zeros q (λ e. absurd (omega (arith, e)))) ∙ by_ring (t k value ∷ []) (search reads depth 40) tt)
    ∙ total_zeros n)
    ∙ by_ring (t q value ∷ []) (search reads depth 40) tt

-- no number of it is negative, but in the value column
pub basic_nonneg : (n value : ℕ) (basis : ℕ → ℕ) (v : ℕ → ℚ) → ((k : ℕ) → k < n → whole (pos 0) ≤ℚ v k) → (j : ℕ) → (j ≡ value → ⊥) →
    whole (pos 0) ≤ℚ basic n value basis v j
basic_nonneg n value basis v up j d =
    let rest : unit value j ≡ whole (pos 0) = unit_other value j d in
    subst (λ q. whole (pos 0) ≤ℚ q) (by_equations (total n (λ k. v k *ℚ unit (basis k) j) ∷ unit value j ∷ []) (null rest) (search reads depth 40) tt)
    (total_nonneg n (λ k. v k *ℚ unit (basis k) j) (λ k h. up k h · unit_nonneg (basis k) j))

-- ---- the sum of infeasibilities
-- cost row 1 is loaded with 1 in the artificial columns, less the sum of the lines
pub record IsFirstCost (n m : ℕ) (loaded : Cells) (start : Line) : Type 0 where
  pub is : (j : ℕ) → start j ≡ total n (λ k. unit (m + k) j -ℚ whole (pos 1) *ℚ loaded k j)

-- so where numbers solve the loaded lines, it is the sum of those in the artificial columns
pub first_cost_is : (n m w : ℕ) (loaded : Cells) (start z : Line) → m + n < w → IsFirstCost n m loaded start → Solves n w loaded z →
    at w start z ≡ total n (λ k. z (m + k))
first_cost_is n m w loaded start z room f s =
    total_same w (λ j. z j *ℚ start j) (λ j. total n (λ k. z j *ℚ unit (m + k) j -ℚ whole (pos 1) *ℚ (z j *ℚ loaded k j)))
    (λ j h. ap (λ t. z j *ℚ t) (f.is j)
    ∙ sym (total-*ℚ n (z j) (λ k. unit (m + k) j -ℚ whole (pos 1) *ℚ loaded k j))
    ∙ total_same n (λ k. z j *ℚ (unit (m + k) j -ℚ whole (pos 1) *ℚ loaded k j)) (λ k. z j *ℚ unit (m + k) j -ℚ whole (pos 1) *ℚ (z j *ℚ loaded k j))
    (λ k i. by_ring (z j ∷ unit (m + k) j ∷ loaded k j ∷ []) (search reads depth 40) tt))
    ∙ total_exchange w n (λ j k. z j *ℚ unit (m + k) j -ℚ whole (pos 1) *ℚ (z j *ℚ loaded k j))
    ∙ total_same n (λ k. total w (λ j. z j *ℚ unit (m + k) j -ℚ whole (pos 1) *ℚ (z j *ℚ loaded k j))) (λ k. z (m + k))
    (λ k i. total_less w (whole (pos 1)) (λ j. z j *ℚ unit (m + k) j) (λ j. z j *ℚ loaded k j)
    ∙ ap₂ (λ a b. a -ℚ whole (pos 1) *ℚ b) (total_unit w (m + k) z (omega arith)) (s k i)
    ∙ by_ring (z (m + k) ∷ []) (search reads depth 40) tt)
