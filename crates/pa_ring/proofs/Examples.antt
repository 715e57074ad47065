-- What one line of `IntegerTactics` closes.
use Rattle.std.proofs.Common.{◌≡◌, ℕ, [], ◌∷◌}
use lib.IntN.{ℤ, pos, ◌+ℤ◌, ◌-ℤ◌, ◌*ℤ◌}
use lib.Signed.{◌≤ℤ◌, ◌<ℤ◌}
use Rattle.pa_ring.proofs.Integers.{gap, ◌·◌, ◌∔◌, rise, ◌⊙◌, ◌⊕◌, null, ◌⋆◌, ◌⊞◌, nonneg_pos, square_nonneg}
use Rattle.pa_ring.proofs.IntegerTactics.{by_ring, by_equations, by_le, by_lt, reads}

-- a product of three sums over six atoms
product_of_sums : (a b c d e f : ℤ) →
    (a +ℤ b) *ℤ (c +ℤ d) *ℤ (e +ℤ f) ≡ a *ℤ c *ℤ e +ℤ a *ℤ c *ℤ f +ℤ a *ℤ d *ℤ e +ℤ a *ℤ d *ℤ f +ℤ b *ℤ c *ℤ e +ℤ b *ℤ c *ℤ f +ℤ b *ℤ d *ℤ e +ℤ b *ℤ d *ℤ f
product_of_sums a b c d e f = by_ring (a ∷ b ∷ c ∷ d ∷ e ∷ f ∷ []) (search reads depth 40) tt

-- the determinant of a product of two matrices is the product of their determinants
determinant_of_product : (a b c d e f g h : ℤ) →
    (a *ℤ e +ℤ b *ℤ g) *ℤ (c *ℤ f +ℤ d *ℤ h) -ℤ (a *ℤ f +ℤ b *ℤ h) *ℤ (c *ℤ e +ℤ d *ℤ g) ≡ (a *ℤ d -ℤ b *ℤ c) *ℤ (e *ℤ h -ℤ f *ℤ g)
determinant_of_product a b c d e f g h = by_ring (a ∷ b ∷ c ∷ d ∷ e ∷ f ∷ g ∷ h ∷ []) (search reads depth 40) tt

-- the square of a sum is at least four times the product
square_of_sum : (a b : ℤ) → (pos 4 *ℤ a *ℤ b) ≤ℤ ((a +ℤ b) *ℤ (a +ℤ b))
square_of_sum a b = by_le (a ∷ b ∷ []) (square_nonneg (a -ℤ b)) (search reads depth 40) tt

-- a sum of three inequalities with weights that are not negative
weighted_sum : (u v w a b c d e f : ℤ) → pos 0 ≤ℤ u → pos 0 ≤ℤ v → pos 0 ≤ℤ w → a ≤ℤ d → b ≤ℤ e → c ≤ℤ f
    → (u *ℤ a +ℤ v *ℤ b +ℤ w *ℤ c) ≤ℤ (u *ℤ d +ℤ v *ℤ e +ℤ w *ℤ f)
weighted_sum u v w a b c d e f hu hv hw h k l = by_le (u ∷ v ∷ w ∷ a ∷ b ∷ c ∷ d ∷ e ∷ f ∷ []) (hu · gap h ∔ hv · gap k ∔ hw · gap l) (search reads depth 40) tt

-- a strict inequality with a positive factor, and a weak one
strict_sum : (a b c d k : ℤ) → a <ℤ b → pos 0 <ℤ k → c ≤ℤ d → (k *ℤ a +ℤ c) <ℤ (k *ℤ b +ℤ d)
strict_sum a b c d k h p l = by_lt (a ∷ b ∷ c ∷ d ∷ k ∷ []) (p ⊙ rise h ⊕ gap l) (search reads depth 40) tt

-- a solution of two equations solves their combination
combination : (x y a b c d e f : ℤ) → a *ℤ x +ℤ b *ℤ y ≡ e → c *ℤ x +ℤ d *ℤ y ≡ f → (a *ℤ d -ℤ b *ℤ c) *ℤ x ≡ d *ℤ e -ℤ b *ℤ f
combination x y a b c d e f p q = by_equations (x ∷ y ∷ a ∷ b ∷ c ∷ d ∷ e ∷ f ∷ []) (d ⋆ null p ⊞ (pos 0 -ℤ b) ⋆ null q) (search reads depth 40) tt

-- a step of a pivot, multiplied out: the row `a x + f y = s`, less `f / p` times the pivot row `b x + p y = t`, has the same solutions
pivot_step : (x y a f b p s t : ℤ) → a *ℤ x +ℤ f *ℤ y ≡ s → b *ℤ x +ℤ p *ℤ y ≡ t → (p *ℤ a -ℤ f *ℤ b) *ℤ x +ℤ (p *ℤ f -ℤ f *ℤ p) *ℤ y ≡ p *ℤ s -ℤ f *ℤ t
pivot_step x y a f b p s t h k = by_equations (x ∷ y ∷ a ∷ f ∷ b ∷ p ∷ s ∷ t ∷ []) (p ⋆ null h ⊞ (pos 0 -ℤ f) ⋆ null k) (search reads depth 40) tt

-- numerals are read as they stand, and a natural number `pos n` is an atom
difference_of_squares : (a : ℤ) (n : ℕ) → (a +ℤ pos n) *ℤ (a -ℤ pos n) +ℤ pos 12 ≡ a *ℤ a -ℤ pos n *ℤ pos n +ℤ pos 3 *ℤ pos 4
difference_of_squares a n = by_ring (a ∷ pos n ∷ []) (search reads depth 40) tt

-- a numeral as a multiplier
doubled : (a b c : ℤ) → a ≤ℤ b → c ≤ℤ b → (a +ℤ a +ℤ c) ≤ℤ (pos 3 *ℤ b)
doubled a b c h k = by_le (a ∷ b ∷ c ∷ []) (nonneg_pos {n = 2} · gap h ∔ gap k) (search reads depth 40) tt

-- the two sides of four sums over twelve atoms
product_of_four_sums : (a b c d e f g h i j k l : ℤ) →
    (a +ℤ b +ℤ c) *ℤ (d +ℤ e +ℤ f) *ℤ (g +ℤ h +ℤ i) *ℤ (j +ℤ k +ℤ l) ≡ (l +ℤ k +ℤ j) *ℤ ((i +ℤ h +ℤ g) *ℤ ((f +ℤ e +ℤ d) *ℤ (c +ℤ b +ℤ a)))
product_of_four_sums a b c d e f g h i j k l = by_ring (a ∷ b ∷ c ∷ d ∷ e ∷ f ∷ g ∷ h ∷ i ∷ j ∷ k ∷ l ∷ []) (search reads depth 40) tt
