-- What is read at the ends of a run.
use Rattle.std.proofs.Common.{◌≡◌, ℕ, ◌<◌, ◌+◌, ap, subst, ◌∙◌, pos, [], ◌∷◌}
use Rattle.pa_math.specs.Rational.{ℚ, whole, ◌-ℚ◌, ◌*ℚ◌, neg_ℚ}
use Rattle.pa_math.specs.RationalOrder.{◌≤ℚ◌, ◌<ℚ◌}
use Rattle.pa_math.proofs.RationalTactics.{by_ring, by_equations, by_le, by_lt, null, ◌⋆◌, ◌⊞◌, gap, rise, reads}
use Rattle.pa_replay.proofs.Sums.{total, total_same, total_less, total-*ℚ}
use Rattle.pa_replay.proofs.Steps.{Line, Cells, combination, IsCombined}

-- ---- the least end
-- the point: minus cost row 2 in the artificial columns, by the signs
abbrev pub point : ℕ → (ℕ → ℚ) → Line → ℕ → ℚ
point m sign cost k = neg_ℚ (sign k *ℚ cost (m + k))

-- in a column whose loaded numbers are those of a list by the signs, the cost row has what was loaded there less the list's value at the
-- point
pub cost_is_slack : (n m j : ℕ) (sign numbers : ℕ → ℚ) (loaded : Cells) (start cost : Line) → ((k : ℕ) → k < n → loaded k j ≡ sign k *ℚ numbers k) →
    IsCombined n m loaded start cost →
    cost j ≡ start j -ℚ total n (λ k. point m sign cost k *ℚ numbers k)
cost_is_slack n m j sign numbers loaded start cost l h =
    let terms : total n (λ k. cost (m + k) *ℚ loaded k j) ≡ neg_ℚ (whole (pos 1)) *ℚ total n (λ k. point m sign cost k *ℚ numbers k) =
    total_same n (λ k. cost (m + k) *ℚ loaded k j) (λ k. neg_ℚ (whole (pos 1)) *ℚ (point m sign cost k *ℚ numbers k))
    (λ k low. ap (λ t. cost (m + k) *ℚ t) (l k low) ∙ by_ring (cost (m + k) ∷ sign k ∷ numbers k ∷ []) (search reads depth 40) tt)
    ∙ total-*ℚ n (neg_ℚ (whole (pos 1))) (λ k. point m sign cost k *ℚ numbers k) in
    by_equations (cost j ∷ start j ∷ combination n m loaded cost j ∷ total n (λ k. point m sign cost k *ℚ numbers k) ∷ []) (null (h j) ⊞ null terms)
    (search reads depth 40) tt

-- so where the cost row is not negative in a row's column, the point meets the row
pub point_meets : (n m j : ℕ) (sign row : ℕ → ℚ) (loaded : Cells) (bound cost : Line) → ((k : ℕ) → k < n → loaded k j ≡ sign k *ℚ row k) →
    IsCombined n m loaded bound cost →
    whole (pos 0) ≤ℚ cost j → total n (λ k. point m sign cost k *ℚ row k) ≤ℚ bound j
point_meets n m j sign row loaded bound cost l h up =
    let slack : cost j ≡ bound j -ℚ total n (λ k. point m sign cost k *ℚ row k) = cost_is_slack n m j sign row loaded bound cost l h in
    by_le (bound j ∷ total n (λ k. point m sign cost k *ℚ row k) ∷ []) (gap (subst (λ t. whole (pos 0) ≤ℚ t) slack up)) (search reads depth 40) tt

-- and the target's value at the point is minus the value column
pub point_value : (n m value : ℕ) (sign target : ℕ → ℚ) (loaded : Cells) (bound cost : Line) → ((k : ℕ) → k < n → loaded k value ≡ sign k *ℚ target k) →
    IsCombined n m loaded bound cost →
    bound value ≡ whole (pos 0) → total n (λ k. point m sign cost k *ℚ target k) ≡ neg_ℚ (cost value)
point_value n m value sign target loaded bound cost l h z =
    by_equations (cost value ∷ bound value ∷ total n (λ k. point m sign cost k *ℚ target k) ∷ [])
    (null (cost_is_slack n m value sign target loaded bound cost l h) ⊞ null z) (search reads depth 40) tt

-- ---- the end without weights
-- the direction: 1 less cost row 1 in the artificial columns, by the signs
abbrev pub direction : ℕ → (ℕ → ℚ) → Line → ℕ → ℚ
direction m sign cost k = sign k *ℚ (whole (pos 1) -ℚ cost (m + k))

-- cost row 1 is loaded with minus the sum of the lines in a column that is not artificial, and so stays minus the value of the column's list
-- in the direction
pub cost_is_direction : (n m j : ℕ) (sign numbers : ℕ → ℚ) (loaded : Cells) (start cost : Line) → ((k : ℕ) → k < n → loaded k j ≡ sign k *ℚ numbers k) →
    IsCombined n m loaded start cost →
    start j ≡ neg_ℚ (total n (λ k. loaded k j)) → cost j ≡ neg_ℚ (total n (λ k. direction m sign cost k *ℚ numbers k))
cost_is_direction n m j sign numbers loaded start cost l h z =
    let terms : total n (λ k. direction m sign cost k *ℚ numbers k) ≡ total n (λ k. loaded k j) -ℚ whole (pos 1) *ℚ total n (λ k. cost (m + k) *ℚ loaded k j) =
    total_same n (λ k. direction m sign cost k *ℚ numbers k) (λ k. loaded k j -ℚ whole (pos 1) *ℚ (cost (m + k) *ℚ loaded k j))
    (λ k low. by_equations (sign k ∷ numbers k ∷ loaded k j ∷ cost (m + k) ∷ []) ((cost (m + k) -ℚ whole (pos 1)) ⋆ null (l k low)) (search reads depth 40) tt)
    ∙ total_less n (whole (pos 1)) (λ k. loaded k j) (λ k. cost (m + k) *ℚ loaded k j) in
    by_equations (cost j ∷ start j ∷ total n (λ k. loaded k j) ∷ combination n m loaded cost j ∷ total n (λ k. direction m sign cost k *ℚ numbers k) ∷ [])
    (null (h j) ⊞ null z ⊞ null terms) (search reads depth 40) tt

-- where it is not negative in a row's column, no step in the direction raises the row
pub direction_lowers : (n m j : ℕ) (sign row : ℕ → ℚ) (loaded : Cells) (start cost : Line) → ((k : ℕ) → k < n → loaded k j ≡ sign k *ℚ row k) →
    IsCombined n m loaded start cost →
    start j ≡ neg_ℚ (total n (λ k. loaded k j)) → whole (pos 0) ≤ℚ cost j → total n (λ k. direction m sign cost k *ℚ row k) ≤ℚ whole (pos 0)
direction_lowers n m j sign row loaded start cost l h z up =
    let is : cost j ≡ neg_ℚ (total n (λ k. direction m sign cost k *ℚ row k)) = cost_is_direction n m j sign row loaded start cost l h z in
    by_le (total n (λ k. direction m sign cost k *ℚ row k) ∷ []) (gap (subst (λ t. whole (pos 0) ≤ℚ t) is up)) (search reads depth 40) tt

-- where it is negative in the value column, the target rises in the direction
pub direction_raises : (n m value : ℕ) (sign target : ℕ → ℚ) (loaded : Cells) (start cost : Line) → ((k : ℕ) → k < n → loaded k value ≡ sign k *ℚ target k) →
    IsCombined n m loaded start cost →
    start value ≡ neg_ℚ (total n (λ k. loaded k value)) → cost value <ℚ whole (pos 0) → whole (pos 0) <ℚ total n (λ k. direction m sign cost k *ℚ target k)
direction_raises n m value sign target loaded start cost l h z down =
    let is : cost value ≡ neg_ℚ (total n (λ k. direction m sign cost k *ℚ target k)) = cost_is_direction n m value sign target loaded start cost l h z in
    by_lt (total n (λ k. direction m sign cost k *ℚ target k) ∷ []) (rise (subst (λ t. t <ℚ whole (pos 0)) is down)) (search reads depth 40) tt
