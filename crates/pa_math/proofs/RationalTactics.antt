-- Equations and inequalities between fractions, each in one line:
--     by_ring (a ∷ b ∷ []) (search reads depth 40) tt               an identity in the atoms a and b
--     by_equations (a ∷ b ∷ []) w (search reads depth 40) tt        an equation, from hypotheses times multipliers
--     by_le, by_lt (a ∷ b ∷ []) w (search reads depth 40) tt        an inequality, weak or strict, from hypotheses times multipliers
-- `w` is made of `null e`, `c ⋆ f` and `f ⊞ g`; of `gap h`, `h · k` and `h ∔ k`; of `rise h`, `h ⊙ k` and `h ⊕ k`.
-- Each is the tool of `RingTactics` or `OrderTactics` at the ring of the fractions.
use Rattle.std.proofs.Common.{◌≡◌, List}
use lib.IntN.{pos}
use Rattle.pa_ring.proofs.Polynomials.{AllZero, normal, plus, minus}
use Rattle.pa_ring.proofs.RingTactics as rings
use Rattle.pa_ring.proofs.RingTactics.{Sides, Differ}
use Rattle.pa_ring.proofs.OrderTactics as orders
use Rattle.pa_math.specs.Rational.{ℚ, whole, ◌+ℚ◌, ◌-ℚ◌, ◌*ℚ◌}
use Rattle.pa_math.specs.RationalOrder.{◌≤ℚ◌, ◌<ℚ◌}
use Rattle.pa_math.proofs.Rationals.{ℚ_ring}
use Rattle.pa_math.proofs.RationalOrders.{ℚ_order}
pub use Rattle.pa_ring.proofs.RingTactics.{reads}

-- an identity
pub by_ring : (ρ : List ℚ) {q r : ℚ} (s : Sides ℚ_ring ρ q r) → AllZero (normal (minus s.left.term s.right.term)) → q ≡ r
by_ring ρ s h = rings.by_ring ℚ_ring ρ s h

-- an equation from others: `w`, which is 0, is the difference of its sides
pub by_equations : (ρ : List ℚ) {q r w : ℚ} → w ≡ whole (pos 0) → (s : Differ ℚ_ring ρ q r w)
    → AllZero (normal (minus s.left.term (plus s.right.term s.difference.term))) → q ≡ r
by_equations ρ e s h = rings.by_equations ℚ_ring ρ e s h

-- an inequality: `w`, which is not negative, is the difference of its sides
pub by_le : (ρ : List ℚ) {q r w : ℚ} → whole (pos 0) ≤ℚ w → (s : Differ ℚ_ring ρ q r w)
    → AllZero (normal (minus s.right.term (plus s.left.term s.difference.term))) → q ≤ℚ r
by_le ρ h s z = orders.by_le ℚ_order ρ h s z

-- a strict inequality: `w`, which is positive, is the difference of its sides
pub by_lt : (ρ : List ℚ) {q r w : ℚ} → whole (pos 0) <ℚ w → (s : Differ ℚ_ring ρ q r w)
    → AllZero (normal (minus s.right.term (plus s.left.term s.difference.term))) → q <ℚ r
by_lt ρ h s z = orders.by_lt ℚ_order ρ h s z

-- ---- facts `w ≡ 0`, which multiply and add
-- the difference of equal fractions
pub null : {q r : ℚ} → q ≡ r → q -ℚ r ≡ whole (pos 0)
null e = rings.null ℚ_ring e

-- such a fact times any fraction
infixl 7 ◌⋆◌
pub ◌⋆◌ : (c : ℚ) {w : ℚ} → w ≡ whole (pos 0) → c *ℚ w ≡ whole (pos 0)
◌⋆◌ c e = rings.◌⋆◌ ℚ_ring c e

-- the sum of two such facts
infixl 6 ◌⊞◌
pub ◌⊞◌ : {v w : ℚ} → v ≡ whole (pos 0) → w ≡ whole (pos 0) → v +ℚ w ≡ whole (pos 0)
◌⊞◌ e f = rings.◌⊞◌ ℚ_ring e f

-- ---- facts `0 ≤ w`, which multiply and add
-- how far the right side is above the left
pub gap : {q r : ℚ} → q ≤ℚ r → whole (pos 0) ≤ℚ (r -ℚ q)
gap h = orders.gap ℚ_order h

-- the product of two such facts
infixl 7 ◌·◌
pub ◌·◌ : {q r : ℚ} → whole (pos 0) ≤ℚ q → whole (pos 0) ≤ℚ r → whole (pos 0) ≤ℚ (q *ℚ r)
◌·◌ h k = orders.◌·◌ ℚ_order h k

-- the sum of two such facts
infixl 6 ◌∔◌
pub ◌∔◌ : {q r : ℚ} → whole (pos 0) ≤ℚ q → whole (pos 0) ≤ℚ r → whole (pos 0) ≤ℚ (q +ℚ r)
◌∔◌ h k = orders.◌∔◌ ℚ_order h k

-- ---- facts `0 < w`, which multiply and add
-- a positive fraction is not negative
pub weak : {q : ℚ} → whole (pos 0) <ℚ q → whole (pos 0) ≤ℚ q
weak h = orders.weak ℚ_order h

-- how far the right side of a strict inequality is above the left
pub rise : {q r : ℚ} → q <ℚ r → whole (pos 0) <ℚ (r -ℚ q)
rise h = orders.rise ℚ_order h

-- the product of two such facts
infixl 7 ◌⊙◌
pub ◌⊙◌ : {q r : ℚ} → whole (pos 0) <ℚ q → whole (pos 0) <ℚ r → whole (pos 0) <ℚ (q *ℚ r)
◌⊙◌ h k = orders.◌⊙◌ ℚ_order h k

-- such a fact and one of `0 ≤ w`
infixl 6 ◌⊕◌
pub ◌⊕◌ : {q r : ℚ} → whole (pos 0) <ℚ q → whole (pos 0) ≤ℚ r → whole (pos 0) <ℚ (q +ℚ r)
◌⊕◌ h k = orders.◌⊕◌ ℚ_order h k
