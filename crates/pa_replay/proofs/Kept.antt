-- What a run keeps from the loaded tableau on.
use Rattle.std.proofs.Common.{◌≡◌, ℕ, ◌<◌, ◌≤◌, ◌+◌, ◌⊎◌, inl, inr, length, get_or, Ok, sym, ap, subst, ◌∙◌, arith, false, pos}
use Rattle.std.proofs.lemmas.List.{get_or-set_same, get_or-set_other, length-set}
use Rattle.pa_math.specs.Rational.{whole}
use Rattle.pa_frac.specs.Operations.{is_zero}
use Rattle.pa_tableau.specs.Arithmetic.{Arithmetic}
use Rattle.pa_tableau.specs.Tableau.{Tableau, cell, pivoted}
use Rattle.pa_replay.specs.Replay.{basic}
use Rattle.pa_replay.proofs.Steps.{Line, IsPivot, IsBasic, IsCombined, Solves, at, solved_before, cost_before}
use Rattle.pa_replay.proofs.Steps.{combined_pivot_line, combined_after, entered_basic, stays_basic}
use Rattle.pa_replay.proofs.Bridges.{IsSound, IsRectangle, cells_of, pivot_of_cells, rectangle_after, pivoted_parts}

-- Between the loaded tableau and a later one, with n lines, m columns of their own and w columns in all:
pub record IsReached (n m w : ℕ) (loaded t : Tableau) : Type 0 where
  -- its form
  pub count : length t.lines ≡ n + 2
  pub rectangle : IsRectangle w t.lines
  pub basis : length t.basis ≡ n
  -- each basic column is 1 in its line and 0 in the other ones
  pub inside : (k : ℕ) → k < n → basic t k < n + m
  pub basics : (k : ℕ) → k < n → IsBasic (cells_of t) k (basic t k)
  -- what solves its lines solves the loaded ones, and the cost rows have the same values there
  pub solved : (z : Line) → Solves n w (cells_of t) z → Solves n w (cells_of loaded) z
  pub costs : (z : Line) → Solves n w (cells_of t) z → (q : ℕ) → n ≤ q → at w (cells_of t q) z ≡ at w (cells_of loaded q) z
  -- each line is the combination of the loaded ones by its artificial columns, and each cost row what was loaded and such a combination
  pub combined : (k : ℕ) → k < n → IsCombined n m (cells_of loaded) (λ j. whole (pos 0)) (cells_of t k)
  pub combined_costs : (q : ℕ) → n ≤ q → IsCombined n m (cells_of loaded) (cells_of loaded q) (cells_of t q)

same_or_not : (i l : ℕ) → (i ≡ l) ⊎ (i ≡ l → ⊥)
same_or_not i l = search arith

-- a pivot keeps all this
pub reached_after : (A : Arithmetic) (n m w pivot l c : ℕ) (loaded t u : Tableau) → IsSound A → IsReached n m w loaded t → l < n → c < n + m →
    is_zero (cell t l c) ≡ false → Ok u ≡ pivoted A pivot l c t →
    IsReached n m w loaded u
reached_after A n m w pivot l c loaded t u s r low column nonzero h =
    let line : l < length t.lines = omega (arith, r.count) in
    let p : IsPivot (cells_of t) (cells_of u) l c = pivot_of_cells A pivot l c w t u s r.rectangle line nonzero h in
    let form = rectangle_after A pivot l c w t u r.rectangle line h in
    let parts = pivoted_parts A pivot l c t u h in
    let here : basic u l ≡ c = ap (λ b. get_or b l 0) parts.basis ∙ get_or-set_same t.basis l c 0 (omega (arith, r.basis)) in
    let there : (k : ℕ) → (k ≡ l → ⊥) → basic u k ≡ basic t k = λ k d. ap (λ b. get_or b k 0) parts.basis ∙ get_or-set_other t.basis l k c 0 d in
    record {
      count = form.0 ∙ r.count;
      rectangle = form.1;
      basis = ap length parts.basis ∙ length-set t.basis l c ∙ r.basis;
      inside = λ k i. by_inside k i here there (same_or_not k l);
      basics = λ k i. by_basics k i p here there (same_or_not k l);
      solved = λ z h. r.solved z (solved_before n w (cells_of t) (cells_of u) l c z low p h);
      costs = λ z h q above.
          cost_before n w (cells_of t) (cells_of u) l c q z low (λ e. absurd (omega (arith, e))) p h
          ∙ r.costs z (solved_before n w (cells_of t) (cells_of u) l c z low p h) q above;
      combined = λ k i. by_combined k i p (same_or_not k l);
      combined_costs = λ q above.
          combined_after n m (cells_of loaded) (cells_of t) (cells_of u) l c q (cells_of loaded q) p (λ e. absurd (omega (arith, e))) (r.combined l low)
          (r.combined_costs q above);
    }
  where
    by_inside : (k : ℕ) → k < n → basic u l ≡ c → ((k : ℕ) → (k ≡ l → ⊥) → basic u k ≡ basic t k) → (k ≡ l) ⊎ (k ≡ l → ⊥) → basic u k < n + m
    by_inside k i here there (inl e) = subst (λ b. b < n + m) (sym (ap (basic u) e ∙ here)) column
    by_inside k i here there (inr d) = subst (λ b. b < n + m) (sym (there k d)) (r.inside k i)

    by_basics : (k : ℕ) → k < n → IsPivot (cells_of t) (cells_of u) l c → basic u l ≡ c → ((k : ℕ) → (k ≡ l → ⊥) → basic u k ≡ basic t k) →
        (k ≡ l) ⊎ (k ≡ l → ⊥) → IsBasic (cells_of u) k (basic u k)
    by_basics k i p here there (inl e) = subst (λ k. IsBasic (cells_of u) k (basic u k)) (sym e)
        (subst (IsBasic (cells_of u) l) (sym here) (entered_basic (cells_of t) (cells_of u) l c p))
    by_basics k i p here there (inr d) = subst (IsBasic (cells_of u) k) (sym (there k d))
        (stays_basic (cells_of t) (cells_of u) l c k (basic t k) p d (r.basics k i))

    by_combined : (k : ℕ) → k < n → IsPivot (cells_of t) (cells_of u) l c → (k ≡ l) ⊎ (k ≡ l → ⊥) →
        IsCombined n m (cells_of loaded) (λ j. whole (pos 0)) (cells_of u k)
    by_combined k i p (inl e) = subst (λ k. IsCombined n m (cells_of loaded) (λ j. whole (pos 0)) (cells_of u k)) (sym e)
        (combined_pivot_line n m (cells_of loaded) (cells_of t) (cells_of u) l c p (r.combined l low))
    by_combined k i p (inr d) = combined_after n m (cells_of loaded) (cells_of t) (cells_of u) l c k (λ j. whole (pos 0)) p d (r.combined l low)
        (r.combined k i)
