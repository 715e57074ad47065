-- The laws of a commutative ring.
use Rattle.std.specs.Prelude.{◌≡◌, ℤ, pos, ◌+ℤ◌, ◌*ℤ◌}

-- a commutative ring, with the image of the whole numbers in it
pub record CommutativeRing : Type 1 where
  infixl 6 ◌+◌
  infixl 7 ◌*◌
  pub carrier : Type 0
  pub ◌+◌ : carrier → carrier → carrier
  pub ◌*◌ : carrier → carrier → carrier
  pub neg : carrier → carrier
  -- the image of a whole number
  pub of : ℤ → carrier
  -- sums: a commutative group with the image of 0 for its neutral element
  pub add_comm : (x y : carrier) → x + y ≡ y + x
  pub add_assoc : (x y z : carrier) → x + y + z ≡ x + (y + z)
  pub zero-add : (x : carrier) → of (pos 0) + x ≡ x
  pub add-neg : (x : carrier) → x + neg x ≡ of (pos 0)
  -- products: commutative, with the image of 1 for their neutral element, and distributive over sums
  pub mul_comm : (x y : carrier) → x * y ≡ y * x
  pub mul_assoc : (x y z : carrier) → x * y * z ≡ x * (y * z)
  pub one-mul : (x : carrier) → of (pos 1) * x ≡ x
  pub mul-add : (x y z : carrier) → x * (y + z) ≡ x * y + x * z
  -- the image keeps sums and products
  pub of-add : (a b : ℤ) → of (a +ℤ b) ≡ of a + of b
  pub of-mul : (a b : ℤ) → of (a *ℤ b) ≡ of a * of b
