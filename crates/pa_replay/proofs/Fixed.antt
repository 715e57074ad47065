-- A tableau that is reached is fixed by its basis, up to the order of its lines.
use Rattle.std.proofs.Common.{◌≡◌, ℕ, suc, ◌<◌, ◌≤◌, ◌+◌, length, sym, subst, ◌∙◌, arith, pos, [], ◌∷◌}
use Rattle.std.proofs.lemmas.List.{ext_get_or}
use Rattle.pa_ring.specs.Choices.{SameElements}
use Rattle.pa_math.specs.Rational.{whole, ◌+ℚ◌, ◌*ℚ◌}
use Rattle.pa_math.proofs.RationalTactics.{by_ring, by_equations, null, ◌⋆◌, reads}
use Rattle.pa_tableau.specs.Tableau.{Tableau, cell, line_at}
use Rattle.pa_replay.specs.Replay.{basic}
use Rattle.pa_replay.proofs.Sums.{total, total_same, total-+ℚ, total-*ℚ, total_exchange, total_zeros}
use Rattle.pa_replay.proofs.Steps.{Line, Cells, Solves, at, combination, IsCombined}
use Rattle.pa_replay.proofs.Bridges.{cells_of}
use Rattle.pa_replay.proofs.Kept.{IsReached}
use Rattle.pa_replay.proofs.Alike.{IsAlike, IsForm, alike_back, alike_on, same_line, same_cost}
use Rattle.pa_replay.proofs.Apart.{same_basis}

-- at what solves the loaded lines a combination of them has the value 0
combined_value : (n m w : ℕ) (loaded : Cells) (start line z : Line) → IsCombined n m loaded start line → Solves n w loaded z → at w line z ≡ at w start z
combined_value n m w loaded start line z h s =
    let parts : total w (λ j. z j *ℚ combination n m loaded line j) ≡ whole (pos 0) =
    total_same w (λ j. z j *ℚ combination n m loaded line j) (λ j. total n (λ k. z j *ℚ (line (m + k) *ℚ loaded k j)))
    (λ j low. sym (total-*ℚ n (z j) (λ k. line (m + k) *ℚ loaded k j)))
    ∙ total_exchange w n (λ j k. z j *ℚ (line (m + k) *ℚ loaded k j))
    ∙ total_same n (λ k. total w (λ j. z j *ℚ (line (m + k) *ℚ loaded k j))) (λ k. whole (pos 0)) each
    ∙ total_zeros n in
    total_same w (λ j. z j *ℚ line j) (λ j. z j *ℚ start j +ℚ z j *ℚ combination n m loaded line j)
    (λ j low. by_equations (z j ∷ line j ∷ start j ∷ combination n m loaded line j ∷ []) (z j ⋆ null (h j)) (search reads depth 40) tt)
    ∙ total-+ℚ w (λ j. z j *ℚ start j) (λ j. z j *ℚ combination n m loaded line j)
    ∙ by_equations (at w start z ∷ total w (λ j. z j *ℚ combination n m loaded line j) ∷ []) (null parts) (search reads depth 40) tt
  where
    each : (k : ℕ) → k < n → total w (λ j. z j *ℚ (line (m + k) *ℚ loaded k j)) ≡ whole (pos 0)
    each k low =
        total_same w (λ j. z j *ℚ (line (m + k) *ℚ loaded k j)) (λ j. line (m + k) *ℚ (z j *ℚ loaded k j))
        (λ j below. by_ring (z j ∷ line (m + k) ∷ loaded k j ∷ []) (search reads depth 40) tt)
        ∙ total-*ℚ w (line (m + k)) (λ j. z j *ℚ loaded k j)
        ∙ by_equations (line (m + k) ∷ at w (loaded k) z ∷ []) (line (m + k) ⋆ null (s k low)) (search reads depth 40) tt

zero_value_at : (w : ℕ) (z : Line) → at w (λ j. whole (pos 0)) z ≡ whole (pos 0)
zero_value_at w z = total_same w (λ j. z j *ℚ whole (pos 0)) (λ j. whole (pos 0)) (λ j low. by_ring (z j ∷ []) (search reads depth 40) tt) ∙ total_zeros w

-- a tableau that is reached has the solutions of the loaded one
pub reached_alike : (n m w q : ℕ) (loaded t : Tableau) → n ≤ q → IsReached n m w loaded t → IsAlike n w q (cells_of loaded) (cells_of t)
reached_alike n m w q loaded t above r = record {
  after = λ z s i low. combined_value n m w (cells_of loaded) (λ j. whole (pos 0)) (cells_of t i) z (r.combined i low) s ∙ zero_value_at w z;
  before = r.solved;
  cost = λ z s. r.costs z s q above;
}

pub reached_both : (n m w q : ℕ) (loaded t u : Tableau) → n ≤ q → IsReached n m w loaded t → IsReached n m w loaded u → IsAlike n w q (cells_of t) (cells_of u)
reached_both n m w q loaded t u above r k =
    alike_on n w q (cells_of t) (cells_of loaded) (cells_of u) (alike_back n w q (cells_of loaded) (cells_of t) (reached_alike n m w q loaded t above r))
    (reached_alike n m w q loaded u above k)

form_of : (n m : ℕ) (loaded t : Tableau) → IsReached n m (n + m + 1) loaded t → IsForm n (n + m) (cells_of t) (basic t)
form_of n m loaded t r = record { inside = r.inside; basics = r.basics }

-- lines of equal cells are equal
lines_same : (n m i k : ℕ) (loaded t u : Tableau) → IsReached n m (n + m + 1) loaded t → IsReached n m (n + m + 1) loaded u → i < n + 2 → k < n + 2 →
    ((j : ℕ) → j < suc (n + m) → cell t i j ≡ cell u k j) → line_at t i ≡ line_at u k
lines_same n m i k loaded t u r s low below same =
    let here : length (line_at t i) ≡ n + m + 1 = r.rectangle i (let count = r.count in omega (arith, low, count)) in
    let there : length (line_at u k) ≡ n + m + 1 = s.rectangle k (let count = s.count in omega (arith, below, count)) in
    ext_get_or (whole (pos 0)) (line_at t i) (line_at u k) (here ∙ sym there) (λ j inside. same j (omega (arith, inside, here)))

-- Two tableaux that are reached from one loaded tableau, and whose bases have the same elements, have the same line for each basic column.
pub fixed_line : (n m : ℕ) (loaded t u : Tableau) → IsReached n m (n + m + 1) loaded t → IsReached n m (n + m + 1) loaded u → SameElements t.basis u.basis →
    (i k : ℕ) → i < n → k < n → basic t i ≡ basic u k → line_at t i ≡ line_at u k
fixed_line n m loaded t u r s same i k low below e =
    let wide : n + m + 1 ≡ suc (n + m) = omega arith in
    let alike : IsAlike n (suc (n + m)) n (cells_of t) (cells_of u) =
    subst (λ w. IsAlike n w n (cells_of t) (cells_of u)) wide (reached_both n m (n + m + 1) n loaded t u (omega arith) r s) in
    lines_same n m i k loaded t u r s (omega (arith, low)) (omega (arith, below))
    (same_line n (n + m) n (cells_of t) (cells_of u) (basic t) (basic u) alike (form_of n m loaded t r) (form_of n m loaded u s)
    (same_basis n t u r.basis s.basis same).0 i k low below e)

-- And both cost rows are the same.
pub fixed_cost : (n m : ℕ) (loaded t u : Tableau) → IsReached n m (n + m + 1) loaded t → IsReached n m (n + m + 1) loaded u → SameElements t.basis u.basis →
    (q : ℕ) → n ≤ q → q < n + 2 → line_at t q ≡ line_at u q
fixed_cost n m loaded t u r s same q above low =
    let wide : n + m + 1 ≡ suc (n + m) = omega arith in
    let alike : IsAlike n (suc (n + m)) q (cells_of t) (cells_of u) =
    subst (λ w. IsAlike n w q (cells_of t) (cells_of u)) wide (reached_both n m (n + m + 1) q loaded t u above r s) in
    lines_same n m q q loaded t u r s low low
    (same_cost n (n + m) q (cells_of t) (cells_of u) (basic t) (basic u) above alike (form_of n m loaded t r) (form_of n m loaded u s)
    (same_basis n t u r.basis s.basis same).0)
