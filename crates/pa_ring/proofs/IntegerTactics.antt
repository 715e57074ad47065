-- Equations and inequalities between whole numbers, each in one line:
--     by_ring (a ∷ b ∷ []) (search reads depth 40) tt               an identity in the atoms a and b
--     by_equations (a ∷ b ∷ []) w (search reads depth 40) tt        an equation, from hypotheses times multipliers
--     by_le, by_lt (a ∷ b ∷ []) w (search reads depth 40) tt        an inequality, weak or strict, from hypotheses times multipliers
-- `Integers` has what `w` is made of: `null e`, `c ⋆ f` and `f ⊞ g`; `gap h`, `h · k` and `h ∔ k`; `rise h`, `h ⊙ k` and `h ⊕ k`.
-- For another ordered ring, give its record of laws to the same names of `RingTactics` and `OrderTactics`, as `by_ring ℤ_ring` stands here.
use Rattle.std.proofs.Common.{◌≡◌, List, refl, inl, inr}
use Rattle.std.proofs.lemmas.Int.{by_lt_z}
use lib.IntN.{ℤ, pos, ◌+ℤ◌, ◌*ℤ◌, neg_ℤ, *ℤ_comm, +ℤ_comm, +ℤ_assoc, +ℤ_idl, +ℤ_invr}
use lib.Signed.{◌≤ℤ◌, ◌<ℤ◌, ≤ℤ_refl, clash_ℤ}
use Rattle.pa_ring.specs.CommutativeRing.{CommutativeRing}
use Rattle.pa_ring.specs.OrderedRing.{OrderedRing}
use Rattle.pa_ring.proofs.Integers.{*ℤ_assoc, *ℤ-+ℤ, one-*ℤ, ≤ℤ_trans, ≤ℤ_antisym, <ℤ-≤ℤ, +ℤ-≤ℤ, nonneg-*ℤ, positive-*ℤ}
use Rattle.pa_ring.proofs.Polynomials.{AllZero, normal, plus, minus}
use Rattle.pa_ring.proofs.RingTactics as rings
use Rattle.pa_ring.proofs.RingTactics.{Reads, Sides, Differ}
use Rattle.pa_ring.proofs.OrderTactics as orders
pub use Rattle.pa_ring.proofs.RingTactics.{reads}

-- the ring of the whole numbers
abbrev pub ℤ_ring : CommutativeRing
ℤ_ring = record {
  carrier = ℤ;
  ◌+◌ = ◌+ℤ◌;
  ◌*◌ = ◌*ℤ◌;
  neg = neg_ℤ;
  of = λ k. k;
  add_comm = +ℤ_comm;
  add_assoc = +ℤ_assoc;
  zero-add = +ℤ_idl;
  add-neg = +ℤ_invr;
  mul_comm = *ℤ_comm;
  mul_assoc = *ℤ_assoc;
  one-mul = one-*ℤ;
  mul-add = *ℤ-+ℤ;
  of-add = λ a b. refl;
  of-mul = λ a b. refl;
}

-- its order
abbrev pub ℤ_order : OrderedRing
ℤ_order = record {
  ring = ℤ_ring;
  ◌≤◌ = ◌≤ℤ◌;
  ◌<◌ = ◌<ℤ◌;
  le_refl = ≤ℤ_refl;
  le_trans = λ x y z h k. ≤ℤ_trans h k;
  le_antisym = λ x y h k. ≤ℤ_antisym h k;
  lt_or_le = λ x y. by_lt_z x y inl inr;
  lt_not_le = λ x y h k. clash_ℤ h k;
  lt-le = λ x y h. <ℤ-≤ℤ h;
  add_le = λ x y z h. +ℤ-≤ℤ h (≤ℤ_refl z);
  mul_nonneg = nonneg-*ℤ;
  mul_positive = positive-*ℤ;
  zero_lt_one = record { lt = tt };
}

-- an identity
pub by_ring : (ρ : List ℤ) {x y : ℤ} (s : Sides ℤ_ring ρ x y) → AllZero (normal (minus s.left.term s.right.term)) → x ≡ y
by_ring ρ s h = rings.by_ring ℤ_ring ρ s h

-- an equation from others: `w`, which is 0, is the difference of its sides
pub by_equations : (ρ : List ℤ) {x y w : ℤ} → w ≡ pos 0 → (s : Differ ℤ_ring ρ x y w)
    → AllZero (normal (minus s.left.term (plus s.right.term s.difference.term))) → x ≡ y
by_equations ρ e s h = rings.by_equations ℤ_ring ρ e s h

-- an inequality: `w`, which is not negative, is the difference of its sides
pub by_le : (ρ : List ℤ) {x y w : ℤ} → pos 0 ≤ℤ w → (s : Differ ℤ_ring ρ x y w) → AllZero (normal (minus s.right.term (plus s.left.term s.difference.term)))
    → x ≤ℤ y
by_le ρ h s z = orders.by_le ℤ_order ρ h s z

-- a strict inequality: `w`, which is positive, is the difference of its sides
pub by_lt : (ρ : List ℤ) {x y w : ℤ} → pos 0 <ℤ w → (s : Differ ℤ_ring ρ x y w) → AllZero (normal (minus s.right.term (plus s.left.term s.difference.term)))
    → x <ℤ y
by_lt ρ h s z = orders.by_lt ℤ_order ρ h s z

-- ---- the same, with a term for each number by itself
-- an identity
pub ring_by : (ρ : List ℤ) {x y : ℤ} (r : Reads ℤ_ring ρ x) (s : Reads ℤ_ring ρ y) → AllZero (normal (minus r.term s.term)) → x ≡ y
ring_by ρ r s h = rings.ring_by ℤ_ring ρ r s h

-- an equation from others
pub same_by : (ρ : List ℤ) {x y w : ℤ} → w ≡ pos 0 → (r : Reads ℤ_ring ρ x) (s : Reads ℤ_ring ρ y) (t : Reads ℤ_ring ρ w) →
    AllZero (normal (minus r.term (plus s.term t.term))) → x ≡ y
same_by ρ e r s t h = rings.same_by ℤ_ring ρ e r s t h

-- an inequality
pub le_by : (ρ : List ℤ) {x y w : ℤ} → pos 0 ≤ℤ w → (r : Reads ℤ_ring ρ x) (s : Reads ℤ_ring ρ y) (t : Reads ℤ_ring ρ w) →
    AllZero (normal (minus s.term (plus r.term t.term))) → x ≤ℤ y
le_by ρ h r s t z = orders.le_by ℤ_order ρ h r s t z

-- a strict inequality
pub lt_by : (ρ : List ℤ) {x y w : ℤ} → pos 0 <ℤ w → (r : Reads ℤ_ring ρ x) (s : Reads ℤ_ring ρ y) (t : Reads ℤ_ring ρ w) →
    AllZero (normal (minus s.term (plus r.term t.term))) → x <ℤ y
lt_by ρ h r s t z = orders.lt_by ℤ_order ρ h r s t z
