-- Divisors of whole numbers, and fractions in lowest terms.
use Rattle.std.specs.Prelude.{◌≡◌, ℕ, zero, suc, ◌%◌, ◌/◌, ◌*◌, ℤ, pos, ◌<ℤ◌, unsigned_abs, int_div, List, [], ◌∷◌, map}
use Prim.Native.Nat.{◌∣◌}

-- Euclid's rule, for at most the given number of steps
abbrev pub gcd_in : ℕ → ℕ → ℕ → ℕ
gcd_in zero a b = a
gcd_in (suc k) a zero = a
gcd_in (suc k) a (suc b) = gcd_in k (suc b) (a % suc b)

-- the greatest common divisor, which is 0 at 0 and 0
unfoldable pub gcd_of : ℕ → ℕ → ℕ
gcd_of a b = gcd_in b a b

-- the least common multiple, which is 0 where one of the two is
unfoldable pub lcm_of : ℕ → ℕ → ℕ
lcm_of a b = a / gcd_of a b * b

-- m is the least common multiple of a and b: both divide it, and it divides each number that both divide
abbrev pub IsLcm : ℕ → ℕ → ℕ → Type 0
IsLcm a b m = (a ∣ m) × (b ∣ m) × ((n : ℕ) → a ∣ n → b ∣ n → m ∣ n)

-- d divides n, whatever their signs
pub record Divides (d n : ℤ) : Type 0 where
  pub divides : unsigned_abs d ∣ unsigned_abs n

-- the greatest common divisor of numbers with signs; it is not negative
abbrev pub gcd_ℤ : ℤ → ℤ → ℤ
gcd_ℤ a b = pos (gcd_of (unsigned_abs a) (unsigned_abs b))

-- the least common multiple of numbers with signs; it is not negative
abbrev pub lcm_ℤ : ℤ → ℤ → ℤ
lcm_ℤ a b = pos (lcm_of (unsigned_abs a) (unsigned_abs b))

-- a and b have no common divisor but 1 and -1
pub record Coprime (a b : ℤ) : Type 0 where
  pub gcd_is_one : gcd_ℤ a b ≡ pos 1

-- the fraction `n / d` is in lowest terms
pub record IsReduced (n d : ℤ) : Type 0 where
  pub positive : pos 0 <ℤ d
  pub coprime : Coprime n d

-- the greatest common divisor of all numbers of a list, which is 0 where all of them are
abbrev pub gcd_all : List ℤ → ℤ
gcd_all [] = pos 0
gcd_all (x ∷ xs) = gcd_ℤ x (gcd_all xs)

-- the exact quotients of the numbers of a list
abbrev pub quotients : ℤ → List ℤ → List ℤ
quotients d xs = map (λ x. int_div x d) xs
