-- Inequalities in an ordered commutative ring, each in one line. For the whole numbers the same names, with no ring to write, are in `IntegerTactics`.
--     by_le R (a ∷ b ∷ []) w (search reads depth 40) tt      `x ≤ y`, from a proof `w` that the difference `y - x` is not negative
--     by_lt R (a ∷ b ∷ []) w (search reads depth 40) tt      `x < y`, from a proof `w` that the difference `y - x` is positive
-- Such a proof is made of hypotheses times multipliers: `gap h`, `rise h`, and their products and sums.
use Rattle.std.proofs.Common.{◌≡◌, List, [], ◌∷◌, refl, sym, ◌∙◌}
use mathlib.Core.Path.{ap₂, subst}
use mathlib.Core.Logic.{⊎_elim}
use lib.IntN.{pos}
use Rattle.pa_ring.specs.OrderedRing.{OrderedRing}
use Rattle.pa_ring.proofs.Polynomials.{plus, minus, AllZero, normal, ring as same_value}
use Rattle.pa_ring.proofs.RingTactics.{Reads, Differ, reads}

module _ (R : OrderedRing) where
  open R use {ring as laws, ◌≤◌, ◌<◌, le_refl, le_trans, lt_or_le, lt_not_le, lt-le, add_le, mul_nonneg, mul_positive}
  open laws use {carrier, ◌+◌, ◌*◌, neg, of, add_comm, zero-add, add-neg}

  -- ---- facts `of (pos 0) ≤ w`, which multiply and add
  -- an inequality whose sides differ by what is not negative
  pub le_from_gap : (x y w : carrier) → of (pos 0) ≤ w → y ≡ x + w → x ≤ y
  le_from_gap x y w h e = subst (λ t. x ≤ t) (add_comm w x ∙ sym e) (subst (λ t. t ≤ w + x) (zero-add x) (add_le (of (pos 0)) w x h))

  -- how far the right side is above the left
  pub gap : {x y : carrier} → x ≤ y → of (pos 0) ≤ y + neg x
  gap {x} {y} h = subst (λ t. t ≤ y + neg x) (add-neg x) (add_le x y (neg x) h)

  -- an equation as such a fact
  pub gap_same : {x y : carrier} → x ≡ y → of (pos 0) ≤ y + neg x
  gap_same {x} {y} e = gap (subst (λ t. x ≤ t) e (le_refl x))

  -- the product of two such facts
  infixl 7 ◌·◌
  pub ◌·◌ : {x y : carrier} → of (pos 0) ≤ x → of (pos 0) ≤ y → of (pos 0) ≤ x * y
  ◌·◌ {x} {y} h k = mul_nonneg x y h k

  -- the sum of two such facts
  infixl 6 ◌∔◌
  pub ◌∔◌ : {x y : carrier} → of (pos 0) ≤ x → of (pos 0) ≤ y → of (pos 0) ≤ x + y
  ◌∔◌ {x} {y} h k = le_trans (of (pos 0)) x (x + y) h (le_from_gap x (x + y) y k refl)

  -- an inequality, each side by a term of its own: `w`, which is not negative, is the difference of the sides
  pub le_by : (ρ : List carrier) {x y w : carrier} → of (pos 0) ≤ w → (r : Reads laws ρ x) (s : Reads laws ρ y) (t : Reads laws ρ w) →
      AllZero (normal (minus s.term (plus r.term t.term))) → x ≤ y
  le_by ρ {x} {y} {w} h r s t z = le_from_gap x y w h (sym s.is ∙ same_value laws ρ s.term (plus r.term t.term) z ∙ ap₂ ◌+◌ r.is t.is)

  -- an inequality: `w`, which is not negative, is the difference of its sides
  pub by_le : (ρ : List carrier) {x y w : carrier} → of (pos 0) ≤ w → (s : Differ laws ρ x y w) →
      AllZero (normal (minus s.right.term (plus s.left.term s.difference.term))) → x ≤ y
  by_le ρ h s z = le_by ρ h s.left s.right s.difference z

  -- ---- facts `of (pos 0) < w`, which multiply and add
  -- a positive number is not negative
  pub weak : {x : carrier} → of (pos 0) < x → of (pos 0) ≤ x
  weak {x} h = lt-le (of (pos 0)) x h

  -- an inequality that is not the other way round is strict
  pub lt_unless : (x y : carrier) → (y ≤ x → ⊥) → x < y
  lt_unless x y h = ⊎_elim (λ less. less) (λ le. absurd (h le)) (lt_or_le x y)

  -- a strict inequality whose sides differ by what is positive
  pub lt_from_rise : (x y w : carrier) → of (pos 0) < w → y ≡ x + w → x < y
  lt_from_rise x y w h e = lt_unless x y (λ le. lt_not_le (of (pos 0)) w h (by_le (x ∷ w ∷ []) (gap (subst (λ t. t ≤ x) e le)) (search reads depth 40) tt))

  -- how far the right side of a strict inequality is above the left
  pub rise : {x y : carrier} → x < y → of (pos 0) < y + neg x
  rise {x} {y} h = lt_unless (of (pos 0)) (y + neg x) (λ le. lt_not_le x y h (by_le (x ∷ y ∷ []) (gap le) (search reads depth 40) tt))

  -- the product of two such facts
  infixl 7 ◌⊙◌
  pub ◌⊙◌ : {x y : carrier} → of (pos 0) < x → of (pos 0) < y → of (pos 0) < x * y
  ◌⊙◌ {x} {y} h k = mul_positive x y h k

  -- such a fact and one of `of (pos 0) ≤ w`
  infixl 6 ◌⊕◌
  pub ◌⊕◌ : {x y : carrier} → of (pos 0) < x → of (pos 0) ≤ y → of (pos 0) < x + y
  ◌⊕◌ {x} {y} h k = lt_unless (of (pos 0)) (x + y) (λ le. lt_not_le (of (pos 0)) x h (by_le (x ∷ y ∷ []) (gap le ∔ k) (search reads depth 40) tt))

  -- a strict inequality, each side by a term of its own: `w`, which is positive, is the difference of the sides
  pub lt_by : (ρ : List carrier) {x y w : carrier} → of (pos 0) < w → (r : Reads laws ρ x) (s : Reads laws ρ y) (t : Reads laws ρ w) →
      AllZero (normal (minus s.term (plus r.term t.term))) → x < y
  lt_by ρ {x} {y} {w} h r s t z = lt_from_rise x y w h (sym s.is ∙ same_value laws ρ s.term (plus r.term t.term) z ∙ ap₂ ◌+◌ r.is t.is)

  -- a strict inequality: `w`, which is positive, is the difference of its sides
  pub by_lt : (ρ : List carrier) {x y w : carrier} → of (pos 0) < w → (s : Differ laws ρ x y w) →
      AllZero (normal (minus s.right.term (plus s.left.term s.difference.term))) → x < y
  by_lt ρ h s z = lt_by ρ h s.left s.right s.difference z
