-- The tableau that a problem is loaded into is where a run begins.
use Rattle.std.proofs.Common.{◌≡◌, ℕ, ◌<◌, ◌≤◌, ◌+◌, ◌⊎◌, inl, inr, length, refl, sym, ap, subst, ◌∙◌, arith, pos, [], ◌∷◌}
use Rattle.pa_math.specs.Rational.{whole, ◌*ℚ◌}
use Rattle.pa_math.specs.RationalOrder.{◌≤ℚ◌}
use Rattle.pa_math.proofs.RationalTactics.{by_ring, by_equations, null, reads}
use Rattle.pa_tableau.specs.Tableau.{Tableau, cell}
use Rattle.pa_replay.specs.Replay.{basic}
use Rattle.pa_replay.proofs.Sums.{total, total_same, total_zeros, total_unit, unit, unit_here, unit_other}
use Rattle.pa_replay.proofs.Steps.{IsBasic}
use Rattle.pa_replay.proofs.Bridges.{IsRectangle, cells_of}
use Rattle.pa_replay.proofs.Runs.{IsFeasible}

-- the artificial columns are the units, and are basic; the cost rows have 0 there; no value is negative
pub record IsStart (n m : ℕ) (t : Tableau) : Type 0 where
  pub count : length t.lines ≡ n + 2
  pub rectangle : IsRectangle (n + m + 1) t.lines
  pub basis : length t.basis ≡ n
  pub basic_columns : (k : ℕ) → k < n → basic t k ≡ m + k
  pub units : (k i : ℕ) → k < n → i < n → cell t k (m + i) ≡ unit k i
  pub costs : (q i : ℕ) → n ≤ q → i < n → cell t q (m + i) ≡ whole (pos 0)
  pub values : (i : ℕ) → i < n → whole (pos 0) ≤ℚ cell t i (n + m)

pub start_reached : (n m : ℕ) (t : Tableau) → IsStart n m t → IsFeasible n m t t
start_reached n m t s = record {
  reached = record {
    count = s.count;
    rectangle = s.rectangle;
    basis = s.basis;
    inside = λ k low. subst (λ b. b < n + m) (sym (s.basic_columns k low)) (omega (arith, low));
    basics = λ k low. subst (IsBasic (cells_of t) k) (sym (s.basic_columns k low))
        (record { one = s.units k k low low ∙ unit_here k; zeros = λ q d. by_line k low q d (below_or_past q n) });
    solved = λ z h. h;
    costs = λ z h q above. refl;
    combined = λ k low j. by_equations (cell t k j ∷ total n (λ i. cell t k (m + i) *ℚ cell t i j) ∷ []) (null (sym (lines k low j)))
        (search reads depth 40) tt;
    combined_costs = λ q above j. by_equations (cell t q j ∷ total n (λ i. cell t q (m + i) *ℚ cell t i j) ∷ []) (null (sym (none q above j)))
        (search reads depth 40) tt;
  };
  values = s.values;
}
  where
    below_or_past : (q n : ℕ) → (q < n) ⊎ (n ≤ q)
    below_or_past q n = search arith

    by_line : (k : ℕ) → k < n → (q : ℕ) → (q ≡ k → ⊥) → (q < n) ⊎ (n ≤ q) → cell t q (m + k) ≡ whole (pos 0)
    by_line k low q d (inl below) = s.units q k below low ∙ unit_other q k (λ e. d (sym e))
    by_line k low q d (inr past) = s.costs q k past low

    lines : (k : ℕ) → k < n → (j : ℕ) → total n (λ i. cell t k (m + i) *ℚ cell t i j) ≡ cell t k j
    lines k low j =
        total_same n (λ i. cell t k (m + i) *ℚ cell t i j) (λ i. cell t i j *ℚ unit k i)
        (λ i below. ap (λ u. u *ℚ cell t i j) (s.units k i low below) ∙ by_ring (unit k i ∷ cell t i j ∷ []) (search reads depth 40) tt)
        ∙ total_unit n k (λ i. cell t i j) low

    none : (q : ℕ) → n ≤ q → (j : ℕ) → total n (λ i. cell t q (m + i) *ℚ cell t i j) ≡ whole (pos 0)
    none q above j =
        total_same n (λ i. cell t q (m + i) *ℚ cell t i j) (λ i. whole (pos 0))
        (λ i below. ap (λ u. u *ℚ cell t i j) (s.costs q i above below) ∙ by_ring (cell t i j ∷ []) (search reads depth 40) tt)
        ∙ total_zeros n
