-- What a pivot keeps: the solutions of the lines, and that each line is a combination of the loaded lines by its artificial columns.
use Rattle.std.proofs.Common.{◌≡◌, ℕ, ◌<◌, ◌+◌, ◌≢◌, ◌⊎◌, inl, inr, sym, ap, ◌∙◌, arith, pos, [], ◌∷◌}
use Rattle.pa_math.specs.Rational.{ℚ, whole, ◌+ℚ◌, ◌-ℚ◌, ◌*ℚ◌, ◌/ℚ◌, neg_ℚ, reciprocal}
use Rattle.pa_math.proofs.Reciprocals.{*ℚ-reciprocal}
use Rattle.pa_math.proofs.RationalTactics.{by_ring, by_equations, null, ◌⋆◌, ◌⊞◌, reads}
use Rattle.pa_replay.proofs.Sums.{total, total_same, total_less, total-*ℚ}

-- the cells of a line; of a tableau by lines
abbrev pub Line : Type 0
Line = ℕ → ℚ

abbrev pub Cells : Type 0
Cells = ℕ → ℕ → ℚ

-- U comes from T by a pivot on line l and column c
pub record IsPivot (t u : Cells) (l c : ℕ) : Type 0 where
  pub nonzero : t l c ≢ whole (pos 0)
  pub divided : (j : ℕ) → u l j ≡ t l j /ℚ t l c
  pub reduced : (i j : ℕ) → (i ≡ l → ⊥) → u i j ≡ t i j -ℚ t i c *ℚ u l j

-- ---- solutions
-- the value of a line at numbers for its columns; where the value column's is -1, a line is an equation that holds where it is 0
abbrev pub at : ℕ → Line → Line → ℚ
at w line z = total w (λ j. z j *ℚ line j)

-- the numbers solve the lines below n
abbrev pub Solves : ℕ → ℕ → Cells → Line → Type 0
Solves n w t z = (i : ℕ) → i < n → at w (t i) z ≡ whole (pos 0)

pub at_same : (w : ℕ) (a b z : Line) → ((j : ℕ) → a j ≡ b j) → at w a z ≡ at w b z
at_same w a b z h = total_same w (λ j. z j *ℚ a j) (λ j. z j *ℚ b j) (λ j k. ap (λ t. z j *ℚ t) (h j))

pub at_less : (w : ℕ) (f : ℚ) (a b z : Line) → at w (λ j. a j -ℚ f *ℚ b j) z ≡ at w a z -ℚ f *ℚ at w b z
at_less w f a b z =
    total_same w (λ j. z j *ℚ (a j -ℚ f *ℚ b j)) (λ j. z j *ℚ a j -ℚ f *ℚ (z j *ℚ b j)) (λ j k. by_ring (z j ∷ a j ∷ b j ∷ f ∷ []) (search reads depth 40) tt)
    ∙ total_less w f (λ j. z j *ℚ a j) (λ j. z j *ℚ b j)

pub at_times : (w : ℕ) (f : ℚ) (a z : Line) → at w (λ j. f *ℚ a j) z ≡ f *ℚ at w a z
at_times w f a z =
    total_same w (λ j. z j *ℚ (f *ℚ a j)) (λ j. f *ℚ (z j *ℚ a j)) (λ j k. by_ring (z j ∷ a j ∷ f ∷ []) (search reads depth 40) tt)
    ∙ total-*ℚ w f (λ j. z j *ℚ a j)

-- the pivot line before, as a multiple of the pivot line after
pub line_before : (t u : Cells) (l c : ℕ) → IsPivot t u l c → (j : ℕ) → t l j ≡ t l c *ℚ u l j
line_before t u l c p j =
    let cell : t l c *ℚ reciprocal (t l c) ≡ whole (pos 1) = *ℚ-reciprocal (t l c) p.nonzero in
    by_equations (t l j ∷ t l c ∷ reciprocal (t l c) ∷ u l j ∷ []) (neg_ℚ (t l j) ⋆ null cell ⊞ neg_ℚ (t l c) ⋆ null (p.divided j)) (search reads depth 40) tt

-- what solves the lines after a pivot solves them before it
pub solved_before : (n w : ℕ) (t u : Cells) (l c : ℕ) (z : Line) → l < n → IsPivot t u l c → Solves n w u z → Solves n w t z
solved_before n w t u l c z low p s i h = by_line (same_or_not i l)
  where
    same_or_not : (i l : ℕ) → (i ≡ l) ⊎ (i ≡ l → ⊥)
    same_or_not i l = search arith

    pivot_line : at w (t l) z ≡ whole (pos 0)
    pivot_line =
        at_same w (t l) (λ j. t l c *ℚ u l j) z (line_before t u l c p) ∙ at_times w (t l c) (u l) z
        ∙ by_equations (t l c ∷ at w (u l) z ∷ []) (t l c ⋆ null (s l low)) (search reads depth 40) tt

    by_line : (i ≡ l) ⊎ (i ≡ l → ⊥) → at w (t i) z ≡ whole (pos 0)
    by_line (inl e) = ap (λ i. at w (t i) z) e ∙ pivot_line
    by_line (inr d) =
        let after : at w (u i) z ≡ at w (t i) z -ℚ t i c *ℚ at w (u l) z =
        at_same w (u i) (λ j. t i j -ℚ t i c *ℚ u l j) z (λ j. p.reduced i j d) ∙ at_less w (t i c) (t i) (u l) z in
        by_equations (at w (t i) z ∷ at w (u i) z ∷ t i c ∷ at w (u l) z ∷ []) (null (s i h) ⊞ t i c ⋆ null (s l low) ⊞ neg_ℚ (whole (pos 1)) ⋆ null after)
        (search reads depth 40) tt

-- a cost row has the same value at them before and after
pub cost_before : (n w : ℕ) (t u : Cells) (l c k : ℕ) (z : Line) → l < n → (k ≡ l → ⊥) → IsPivot t u l c → Solves n w u z → at w (u k) z ≡ at w (t k) z
cost_before n w t u l c k z low d p s =
    let after : at w (u k) z ≡ at w (t k) z -ℚ t k c *ℚ at w (u l) z =
    at_same w (u k) (λ j. t k j -ℚ t k c *ℚ u l j) z (λ j. p.reduced k j d) ∙ at_less w (t k c) (t k) (u l) z in
    by_equations (at w (t k) z ∷ at w (u k) z ∷ t k c ∷ at w (u l) z ∷ []) (neg_ℚ (t k c) ⋆ null (s l low) ⊞ null after) (search reads depth 40) tt

-- ---- combinations
-- the combination of the loaded lines with the numbers that stand in a line's artificial columns
abbrev pub combination : ℕ → ℕ → Cells → Line → Line
combination n m loaded line j = total n (λ k. line (m + k) *ℚ loaded k j)

-- a line is what it was loaded with, and such a combination
abbrev pub IsCombined : ℕ → ℕ → Cells → Line → Line → Type 0
IsCombined n m loaded start line = (j : ℕ) → line j ≡ start j +ℚ combination n m loaded line j

pub combination_less : (n m : ℕ) (loaded : Cells) (f : ℚ) (a b : Line) (j : ℕ) →
    combination n m loaded (λ j. a j -ℚ f *ℚ b j) j ≡ combination n m loaded a j -ℚ f *ℚ combination n m loaded b j
combination_less n m loaded f a b j =
    total_same n (λ k. (a (m + k) -ℚ f *ℚ b (m + k)) *ℚ loaded k j) (λ k. a (m + k) *ℚ loaded k j -ℚ f *ℚ (b (m + k) *ℚ loaded k j))
    (λ k h. by_ring (a (m + k) ∷ b (m + k) ∷ f ∷ loaded k j ∷ []) (search reads depth 40) tt)
    ∙ total_less n f (λ k. a (m + k) *ℚ loaded k j) (λ k. b (m + k) *ℚ loaded k j)

pub combination_same : (n m : ℕ) (loaded : Cells) (a b : Line) (j : ℕ) → ((j : ℕ) → a j ≡ b j) → combination n m loaded a j ≡ combination n m loaded b j
combination_same n m loaded a b j h = total_same n (λ k. a (m + k) *ℚ loaded k j) (λ k. b (m + k) *ℚ loaded k j)
    (λ k low. ap (λ t. t *ℚ loaded k j) (h (m + k)))

-- a line less a multiple of a line that is a combination alone
pub combined_less : (n m : ℕ) (loaded : Cells) (start a b line : Line) (f : ℚ) → IsCombined n m loaded start a → IsCombined n m loaded (λ j. whole (pos 0)) b →
    ((j : ℕ) → line j ≡ a j -ℚ f *ℚ b j) → IsCombined n m loaded start line
combined_less n m loaded start a b line f ha hb e j =
    let parts : combination n m loaded line j ≡ combination n m loaded a j -ℚ f *ℚ combination n m loaded b j =
    combination_same n m loaded line (λ j. a j -ℚ f *ℚ b j) j e ∙ combination_less n m loaded f a b j in
    by_equations (line j ∷ a j ∷ b j ∷ f ∷ start j ∷ combination n m loaded a j ∷ combination n m loaded b j ∷ combination n m loaded line j ∷ [])
    (null (e j) ⊞ null (ha j) ⊞ neg_ℚ f ⋆ null (hb j) ⊞ neg_ℚ (whole (pos 1)) ⋆ null parts) (search reads depth 40) tt

-- a multiple of a line that is a combination alone
pub combined_times : (n m : ℕ) (loaded : Cells) (a line : Line) (f : ℚ) → IsCombined n m loaded (λ j. whole (pos 0)) a → ((j : ℕ) → line j ≡ a j *ℚ f) →
    IsCombined n m loaded (λ j. whole (pos 0)) line
combined_times n m loaded a line f ha e j =
    let parts : combination n m loaded line j ≡ f *ℚ combination n m loaded a j =
    total_same n (λ k. line (m + k) *ℚ loaded k j) (λ k. f *ℚ (a (m + k) *ℚ loaded k j))
    (λ k h. ap (λ t. t *ℚ loaded k j) (e (m + k)) ∙ by_ring (a (m + k) ∷ f ∷ loaded k j ∷ []) (search reads depth 40) tt)
    ∙ total-*ℚ n f (λ k. a (m + k) *ℚ loaded k j) in
    by_equations (line j ∷ a j ∷ f ∷ combination n m loaded a j ∷ combination n m loaded line j ∷ [])
    (null (e j) ⊞ f ⋆ null (ha j) ⊞ neg_ℚ (whole (pos 1)) ⋆ null parts) (search reads depth 40) tt

-- a pivot keeps both kinds of lines
pub combined_pivot_line : (n m : ℕ) (loaded t u : Cells) (l c : ℕ) → IsPivot t u l c → IsCombined n m loaded (λ j. whole (pos 0)) (t l) →
    IsCombined n m loaded (λ j. whole (pos 0)) (u l)
combined_pivot_line n m loaded t u l c p h = combined_times n m loaded (t l) (u l) (reciprocal (t l c)) h p.divided

pub combined_after : (n m : ℕ) (loaded t u : Cells) (l c i : ℕ) (start : Line) → IsPivot t u l c → (i ≡ l → ⊥) →
    IsCombined n m loaded (λ j. whole (pos 0)) (t l) → IsCombined n m loaded start (t i) →
    IsCombined n m loaded start (u i)
combined_after n m loaded t u l c i start p d h k =
    combined_less n m loaded start (t i) (u l) (u i) (t i c) k (combined_pivot_line n m loaded t u l c p h) (λ j. p.reduced i j d)

-- ---- basic columns
-- a column is 1 in its line and 0 in every other one, cost rows included
pub record IsBasic (t : Cells) (i b : ℕ) : Type 0 where
  pub one : t i b ≡ whole (pos 1)
  pub zeros : (k : ℕ) → (k ≡ i → ⊥) → t k b ≡ whole (pos 0)

pub entered_basic : (t u : Cells) (l c : ℕ) → IsPivot t u l c → IsBasic u l c
entered_basic t u l c p =
    let one : u l c ≡ whole (pos 1) = p.divided c ∙ *ℚ-reciprocal (t l c) p.nonzero in
    record {
      one = one;
      zeros = λ k d. by_equations (u k c ∷ t k c ∷ u l c ∷ []) (null (p.reduced k c d) ⊞ neg_ℚ (t k c) ⋆ null one) (search reads depth 40) tt;
    }

pub stays_basic : (t u : Cells) (l c i b : ℕ) → IsPivot t u l c → (i ≡ l → ⊥) → IsBasic t i b → IsBasic u i b
stays_basic t u l c i b p d h =
    let zero_there : u l b ≡ whole (pos 0) =
    by_equations (u l b ∷ t l b ∷ reciprocal (t l c) ∷ []) (null (p.divided b) ⊞ reciprocal (t l c) ⋆ null (h.zeros l (λ e. d (sym e))))
    (search reads depth 40) tt in
    let kept : (k : ℕ) → (k ≡ l → ⊥) → u k b ≡ t k b =
    λ k e. by_equations (u k b ∷ t k b ∷ t k c ∷ u l b ∷ []) (null (p.reduced k b e) ⊞ neg_ℚ (t k c) ⋆ null zero_there) (search reads depth 40) tt in
    record {
      one = kept i d ∙ h.one;
      zeros = λ k e. by_line k e (same_or_not k l) zero_there kept;
    }
  where
    same_or_not : (i l : ℕ) → (i ≡ l) ⊎ (i ≡ l → ⊥)
    same_or_not i l = search arith

    by_line : (k : ℕ) → (k ≡ i → ⊥) → (k ≡ l) ⊎ (k ≡ l → ⊥) → u l b ≡ whole (pos 0) → ((k : ℕ) → (k ≡ l → ⊥) → u k b ≡ t k b) → u k b ≡ whole (pos 0)
    by_line k e (inl same) z kept = ap (λ k. u k b) same ∙ z
    by_line k e (inr other) z kept = kept k other ∙ h.zeros k e
