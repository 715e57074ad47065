-- Phase 1 is never endless: the sum of the artificial columns can't fall without end.
use Rattle.std.proofs.Common.{◌≡◌, ℕ, ◌<◌, ◌+◌, ◌⊎◌, inl, inr, Bool, true, false, if◌then◌else◌, Option}
use Rattle.std.proofs.Common.{Some, None, refl, sym, subst, ◌∙◌, arith, pos, int_lt, [], ◌∷◌}
use Rattle.std.proofs.lemmas.Int.{ints}
use lib.IntN.{ℤ}
use lib.Signed.{◌≤ℤ◌}
use Rattle.pa_math.specs.Answers.{given}
use Rattle.pa_math.specs.Rational.{ℚ, whole, ◌*ℚ◌, neg_ℚ}
use Rattle.pa_math.specs.RationalOrder.{◌≤ℚ◌, ◌<ℚ◌}
use Rattle.pa_math.proofs.RationalOrders.{lt_not_le_ℚ}
use Rattle.pa_math.proofs.RationalOrders as orders
use Rattle.pa_math.proofs.RationalTactics.{by_equations, by_le, null, gap, reads}
use Rattle.pa_tableau.specs.Tableau.{Tableau, cell}
use Rattle.pa_replay.specs.declared.next.Next.TheVariants.{Settled, Falls, Enters}
use Rattle.pa_replay.specs.Replay.{is_negative, entering, can_leave, next_in}
use Rattle.pa_replay.specs.Replay as replay
use Rattle.pa_replay.proofs.Sums.{total, total-*ℚ, total_nonneg}
use Rattle.pa_replay.proofs.Steps.{Solves}
use Rattle.pa_replay.proofs.Basics.{basic_solves, basic_cost, first_cost_is}
use Rattle.pa_replay.proofs.Bridges.{cells_of}
use Rattle.pa_replay.proofs.Runs.{IsFeasible, first_present}
use Rattle.pa_replay.proofs.Theorems.{HoldsProblem}
use Rattle.pa_replay.proofs.Weighted.{minus_ray, ray_nonneg}

-- where a column lowers the cost without end, it is negative in the cost row, and no line may leave
pub falls_at : (n m cost c : ℕ) (t : Tableau) → next_in n m cost t ≡ Falls c → (c < m) × (is_negative (cell t cost c) ≡ true) × (can_leave n c t ≡ false)
falls_at n m cost c t h = by_column (entering m cost t) refl h
  where
    by_leave : (b : Bool) (j : ℕ) → can_leave n j t ≡ b → j < m → is_negative (cell t cost j) ≡ true → (if b then Enters j else Falls j) ≡ Falls c →
        (c < m) × (is_negative (cell t cost c) ≡ true) × (can_leave n c t ≡ false)
    by_leave true j e low down k = absurd (cc k)
    by_leave false j e low down k =
        let same : j ≡ c = cc k in
        subst (λ c. (c < m) × (is_negative (cell t cost c) ≡ true) × (can_leave n c t ≡ false)) same (low, down, e)

    by_column : (o : Option ℕ) → entering m cost t ≡ o → given Settled o (λ c. if can_leave n c t then Enters c else Falls c) ≡ Falls c →
        (c < m) × (is_negative (cell t cost c) ≡ true) × (can_leave n c t ≡ false)
    by_column None e k = absurd (cc k)
    by_column (Some j) e k =
        let (low, down) = first_present (λ j. is_negative (cell t cost j)) 0 m j e in
        by_leave (can_leave n j t) j refl (omega (arith, low)) down k

pub negative_sign : (q : ℚ) → is_negative q ≡ true → q <ℚ whole (pos 0)
negative_sign q h = by_order (orders.lt_or_le_ℚ q (whole (pos 0)))
  where
    by_order : (q <ℚ whole (pos 0)) ⊎ (whole (pos 0) ≤ℚ q) → q <ℚ whole (pos 0)
    by_order (inl low) = low
    by_order (inr up) = absurd (not_both q.num (orders.nonneg_num up) h)
      where
        not_both : (z : ℤ) → pos 0 ≤ℤ z → int_lt z (pos 0) ≡ true → ⊥
        not_both z h k = grind (arith, ints, h, k)

pub never_falls : (n m : ℕ) (sign : ℕ → ℚ) (row : ℕ → ℕ → ℚ) (target bound : ℕ → ℚ) (loaded : Tableau) → HoldsProblem n m sign row target bound loaded →
    (c : ℕ) (t : Tableau) → IsFeasible n m loaded t → next_in n m n t ≡ Falls c → ⊥
never_falls n m sign row target bound loaded p c t f h =
    let (column, down, stuck) = falls_at n m n c t h in
    let low : cell t n c <ℚ whole (pos 0) = negative_sign (cell t n c) down in
    let inside : (k : ℕ) → k < n → replay.basic t k < n + m + 1 = λ k below. (let h = f.reached.inside k below in omega (arith, h)) in
    let solves : Solves n (n + m + 1) (cells_of t) (minus_ray n c t) = basic_solves n (n + m + 1) c (replay.basic t) (cells_of t) inside
    (omega (arith, column)) f.reached.basics in
    let sum : neg_ℚ (cell t n c) ≡ total n (λ k. minus_ray n c t (m + k)) =
    sym (basic_cost n (n + m + 1) c n (replay.basic t) (cells_of t) (omega arith) inside (omega (arith, column)) f.reached.basics)
    ∙ f.reached.costs (minus_ray n c t) solves n (omega arith)
    ∙ first_cost_is n m (n + m + 1) (cells_of loaded) (cells_of loaded n) (minus_ray n c t) (omega arith) p.first (f.reached.solved (minus_ray n c t) solves) in
    let rest : whole (pos 0) ≤ℚ total n (λ k. neg_ℚ (whole (pos 1)) *ℚ minus_ray n c t (m + k)) =
    total_nonneg n (λ k. neg_ℚ (whole (pos 1)) *ℚ minus_ray n c t (m + k))
    (λ k below. by_le (minus_ray n c t (m + k) ∷ []) (gap (ray_nonneg n m c t stuck (m + k))) (search reads depth 40) tt) in
    let negated : total n (λ k. neg_ℚ (whole (pos 1)) *ℚ minus_ray n c t (m + k)) ≡ cell t n c =
    total-*ℚ n (neg_ℚ (whole (pos 1))) (λ k. minus_ray n c t (m + k))
    ∙ by_equations (total n (λ k. minus_ray n c t (m + k)) ∷ cell t n c ∷ []) (null sum) (search reads depth 40) tt in
    lt_not_le_ℚ low (subst (λ q. whole (pos 0) ≤ℚ q) negated rest)
