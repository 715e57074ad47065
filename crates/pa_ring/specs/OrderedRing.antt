-- The laws of an ordered commutative ring.
use Rattle.std.specs.Prelude.{◌≡◌, pos, ◌⊎◌}
use Rattle.pa_ring.specs.CommutativeRing.{CommutativeRing}

-- a commutative ring with a total order that sums and positive products keep
pub record OrderedRing : Type 1 where
  infix 4 ◌≤◌ ◌<◌
  pub ring : CommutativeRing
  open ring use {carrier, ◌+◌, ◌*◌, of}
  pub ◌≤◌ : carrier → carrier → Type 0
  pub ◌<◌ : carrier → carrier → Type 0
  -- a total order, and what is strictly below
  pub le_refl : (x : carrier) → x ≤ x
  pub le_trans : (x y z : carrier) → x ≤ y → y ≤ z → x ≤ z
  pub le_antisym : (x y : carrier) → x ≤ y → y ≤ x → x ≡ y
  pub lt_or_le : (x y : carrier) → (x < y) ⊎ (y ≤ x)
  pub lt_not_le : (x y : carrier) → x < y → y ≤ x → ⊥
  pub lt-le : (x y : carrier) → x < y → x ≤ y
  -- sums keep the order, and products of numbers from 0 up stay there
  pub add_le : (x y z : carrier) → x ≤ y → x + z ≤ y + z
  pub mul_nonneg : (x y : carrier) → of (pos 0) ≤ x → of (pos 0) ≤ y → of (pos 0) ≤ x * y
  pub mul_positive : (x y : carrier) → of (pos 0) < x → of (pos 0) < y → of (pos 0) < x * y
  pub zero_lt_one : of (pos 0) < of (pos 1)
