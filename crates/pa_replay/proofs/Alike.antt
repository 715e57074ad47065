-- Tableaux of one problem: their lines have the same solutions. Such a tableau is fixed by its basic columns, up to the order of its lines.
use Rattle.std.proofs.Common.{◌≡◌, ℕ, suc, ◌<◌, ◌≤◌, ◌⊎◌, inl, inr, refl, sym, ap, ◌∙◌, arith, pos, [], ◌∷◌}
use Rattle.pa_math.specs.Rational.{whole, ◌-ℚ◌, ◌*ℚ◌, neg_ℚ, reciprocal}
use Rattle.std.proofs.lemmas.Int.{ints}
use Rattle.pa_math.proofs.RationalOrders.{whole-<ℤ}
use Rattle.pa_math.proofs.Reciprocals.{nonzero_from_positive}
use Rattle.pa_math.proofs.RationalTactics.{by_ring, by_equations, null, ◌⋆◌, ◌⊞◌, reads}
use Rattle.pa_replay.proofs.Sums.{total, total_same, total_zeros, total_unit, unit, unit_here, unit_other}
use Rattle.pa_replay.proofs.Steps.{Line, Cells, IsPivot, IsBasic, Solves, at, at_same, at_less, at_times, solved_before, cost_before}
use Rattle.pa_replay.proofs.Basics.{basic, at_basic, basic_cost, basic_solves}

pub same_or_not : (i l : ℕ) → (i ≡ l) ⊎ (i ≡ l → ⊥)
same_or_not i l = search arith

one_not_zero_ℚ : whole (pos 1) ≡ whole (pos 0) → ⊥
one_not_zero_ℚ = nonzero_from_positive (whole-<ℤ (omega (arith, ints)))

-- the lines below n have the same solutions, and a cost row has the same value at them
pub record IsAlike (n w q : ℕ) (t u : Cells) : Type 0 where
  pub after : (z : Line) → Solves n w t z → Solves n w u z
  pub before : (z : Line) → Solves n w u z → Solves n w t z
  pub cost : (z : Line) → Solves n w u z → at w (u q) z ≡ at w (t q) z

pub alike_same : (n w q : ℕ) (t : Cells) → IsAlike n w q t t
alike_same n w q t = record { after = λ z s. s; before = λ z s. s; cost = λ z s. refl }

pub alike_back : (n w q : ℕ) (t u : Cells) → IsAlike n w q t u → IsAlike n w q u t
alike_back n w q t u h = record { after = h.before; before = h.after; cost = λ z s. sym (h.cost z (h.after z s)) }

pub alike_on : (n w q : ℕ) (s t u : Cells) → IsAlike n w q s t → IsAlike n w q t u → IsAlike n w q s u
alike_on n w q s t u h k = record {
  after = λ z s. k.after z (h.after z s);
  before = λ z s. h.before z (k.before z s);
  cost = λ z s. k.cost z s ∙ h.cost z (k.before z s);
}

-- what solves the lines before a pivot solves them after it
solved_after : (n w : ℕ) (t u : Cells) (l c : ℕ) (z : Line) → l < n → IsPivot t u l c → Solves n w t z → Solves n w u z
solved_after n w t u l c z low p s i h = by_line (same_or_not i l)
  where
    pivot_line : at w (u l) z ≡ whole (pos 0)
    pivot_line =
        at_same w (u l) (λ j. reciprocal (t l c) *ℚ t l j) z (λ j. p.divided j ∙ by_ring (t l j ∷ reciprocal (t l c) ∷ []) (search reads depth 40) tt)
        ∙ at_times w (reciprocal (t l c)) (t l) z
        ∙ by_equations (reciprocal (t l c) ∷ at w (t l) z ∷ []) (reciprocal (t l c) ⋆ null (s l low)) (search reads depth 40) tt

    by_line : (i ≡ l) ⊎ (i ≡ l → ⊥) → at w (u i) z ≡ whole (pos 0)
    by_line (inl e) = ap (λ i. at w (u i) z) e ∙ pivot_line
    by_line (inr d) =
        let line : at w (u l) z ≡ whole (pos 0) = pivot_line in
        at_same w (u i) (λ j. t i j -ℚ t i c *ℚ u l j) z (λ j. p.reduced i j d) ∙ at_less w (t i c) (t i) (u l) z
        ∙ by_equations (at w (t i) z ∷ t i c ∷ at w (u l) z ∷ []) (null (s i h) ⊞ neg_ℚ (t i c) ⋆ null line) (search reads depth 40) tt

pub alike_pivot : (n w q : ℕ) (t u : Cells) (l c : ℕ) → l < n → n ≤ q → IsPivot t u l c → IsAlike n w q t u
alike_pivot n w q t u l c low above p = record {
  after = λ z s. solved_after n w t u l c z low p s;
  before = λ z s. solved_before n w t u l c z low p s;
  cost = λ z s. cost_before n w t u l c q z low (λ e. absurd (omega (arith, e))) p s;
}

-- ---- basic columns
-- a column is the basic one of a line below n
abbrev pub IsIn : ℕ → (ℕ → ℕ) → ℕ → Type 0
IsIn n b x = (k : ℕ) × (k < n) × (b k ≡ x)

abbrev pub HaveSame : ℕ → (ℕ → ℕ) → (ℕ → ℕ) → Type 0
HaveSame n b d = ((x : ℕ) → IsIn n b x → IsIn n d x) × ((x : ℕ) → IsIn n d x → IsIn n b x)

-- each line has a basic column before column v
pub record IsForm (n v : ℕ) (t : Cells) (b : ℕ → ℕ) : Type 0 where
  pub inside : (k : ℕ) → k < n → b k < v
  pub basics : (k : ℕ) → k < n → IsBasic t k (b k)

-- different lines have different basic columns
pub basic_once : (n v : ℕ) (t : Cells) (b : ℕ → ℕ) → IsForm n v t b → (i k : ℕ) → i < n → k < n → b i ≡ b k → i ≡ k
basic_once n v t b f i k low below e = by_line (same_or_not i k)
  where
    by_line : (i ≡ k) ⊎ (i ≡ k → ⊥) → i ≡ k
    by_line (inl same) = same
    by_line (inr d) =
        let one : t i (b i) ≡ whole (pos 1) = (f.basics i low).one in
        let none : t i (b k) ≡ whole (pos 0) = (f.basics k below).zeros i d in
        absurd (one_not_zero_ℚ (sym one ∙ ap (t i) e ∙ none))

-- ---- a tableau is fixed by its basic columns
-- a basic column of T in the line of U that has the same basic column as line k
other_unit : (n v : ℕ) (t u : Cells) (b d : ℕ → ℕ) → IsForm n v t b → IsForm n v u d → ((x : ℕ) → IsIn n b x → IsIn n d x) →
    (k r i : ℕ) → k < n → r < n → i < n → b k ≡ d r → u r (b i) ≡ unit k i
other_unit n v t u b d f g same k r i low below inside e = by_line (same_or_not i k)
  where
    away : (i ≡ k → ⊥) → IsIn n d (b i) → u r (b i) ≡ whole (pos 0)
    away apart (p, small, there) =
        ap (u r) (sym there) ∙ (g.basics p small).zeros r (λ same. apart (basic_once n v t b f i k inside low (sym there ∙ ap d (sym same) ∙ sym e)))

    by_line : (i ≡ k) ⊎ (i ≡ k → ⊥) → u r (b i) ≡ unit k i
    by_line (inl here) = ap (u r) (ap b here ∙ e) ∙ (g.basics r below).one ∙ sym (ap (unit k) here ∙ unit_here k)
    by_line (inr apart) = away apart (same (b i) (i, inside, refl)) ∙ sym (unit_other k i apart)

-- the lines of one basic column are equal
pub same_line : (n v q : ℕ) (t u : Cells) (b d : ℕ → ℕ) → IsAlike n (suc v) q t u → IsForm n v t b → IsForm n v u d → ((x : ℕ) → IsIn n b x → IsIn n d x) →
    (k r : ℕ) → k < n → r < n → b k ≡ d r → (j : ℕ) → j < suc v → t k j ≡ u r j
same_line n v q t u b d h f g same k r low below e j end =
    let inside : (k : ℕ) → k < n → b k < suc v = λ k low. (let h = f.inside k low in omega (arith, h)) in
    let solves : Solves n (suc v) u (basic n j b (λ k. t k j)) = h.after (basic n j b (λ k. t k j)) (basic_solves n (suc v) j b t inside end f.basics) in
    let sum : total n (λ i. t i j *ℚ u r (b i)) ≡ t k j =
    total_same n (λ i. t i j *ℚ u r (b i)) (λ i. t i j *ℚ unit k i) (λ i i_low. ap (λ x. t i j *ℚ x) (other_unit n v t u b d f g same k r i low below i_low e))
    ∙ total_unit n k (λ i. t i j) low in
    let zero_there : total n (λ i. t i j *ℚ u r (b i)) -ℚ u r j ≡ whole (pos 0) = sym (at_basic n (suc v) j b (λ k. t k j) (u r) inside end) ∙ solves r below in
    by_equations (total n (λ i. t i j *ℚ u r (b i)) ∷ t k j ∷ u r j ∷ []) (null zero_there ⊞ neg_ℚ (whole (pos 1)) ⋆ null sum) (search reads depth 40) tt

-- a cost row has in a column of T minus its value at the solution of the column
pub cost_at : (n v q : ℕ) (t u : Cells) (b : ℕ → ℕ) → n ≤ q → IsAlike n (suc v) q t u → IsForm n v t b → (j : ℕ) → j < suc v
    → total n (λ k. t k j *ℚ u q (b k)) -ℚ u q j ≡ neg_ℚ (t q j)
cost_at n v q t u b above h f j end =
    let inside : (k : ℕ) → k < n → b k < suc v = λ k low. (let h = f.inside k low in omega (arith, h)) in
    sym (at_basic n (suc v) j b (λ k. t k j) (u q) inside end)
    ∙ h.cost (basic n j b (λ k. t k j)) (h.after (basic n j b (λ k. t k j)) (basic_solves n (suc v) j b t inside end f.basics))
    ∙ basic_cost n (suc v) j q b t above inside end f.basics

-- and the cost rows are equal
pub same_cost : (n v q : ℕ) (t u : Cells) (b d : ℕ → ℕ) → n ≤ q → IsAlike n (suc v) q t u → IsForm n v t b → IsForm n v u d
    → ((x : ℕ) → IsIn n b x → IsIn n d x) → (j : ℕ) → j < suc v → t q j ≡ u q j
same_cost n v q t u b d above h f g same j end =
    let rest : total n (λ k. t k j *ℚ u q (b k)) ≡ whole (pos 0) =
    total_same n (λ k. t k j *ℚ u q (b k)) (λ k. whole (pos 0))
    (λ k low. ap (λ x. t k j *ℚ x) (away (same (b k) (k, low, refl))) ∙ by_ring (t k j ∷ []) (search reads depth 40) tt)
    ∙ total_zeros n in
    let sum : total n (λ k. t k j *ℚ u q (b k)) -ℚ u q j ≡ neg_ℚ (t q j) = cost_at n v q t u b above h f j end in
    by_equations (total n (λ k. t k j *ℚ u q (b k)) ∷ t q j ∷ u q j ∷ []) (null sum ⊞ neg_ℚ (whole (pos 1)) ⋆ null rest) (search reads depth 40) tt
  where
    away : {x : ℕ} → IsIn n d x → u q x ≡ whole (pos 0)
    away (p, small, there) = ap (u q) (sym there) ∙ (g.basics p small).zeros q (λ same. absurd (omega (arith, same)))
