-- The greatest common divisor by halving and differences: what its code needs of numbers with their factors of 2 taken out.
use Rattle.std.proofs.Common.{◌≡◌, ℕ, zero, suc, ◌-◌, ◌*◌, ◌/◌, ◌%◌, ◌^◌, ◌≤◌, ◌<◌, ◌⊎◌, inl, inr, min, sym, ap, ap₂, subst, ◌∙◌, pow-suc, pow-add, arith}
use Rattle.std.specs.Int.{Width, trailing_zeros, bit_at, abs_diff}
use Rattle.std.proofs.Math.Nat.{mul_assoc, mul_comm, mod-eq_of_lt}
use Rattle.std.proofs.Math.Numerals.{add-one}
use Rattle.std.proofs.lemmas.Bool.{cases_lt}
use mir.Val.{bits}
use Rattle.std.proofs.lemmas.Nat.{shr-shr, shr_split}
use Rattle.std.proofs.lemmas.Nat.Bits.{bit_at-trailing_zeros}
use Rattle.pa_math.specs.Divisors.{gcd_of}
use Rattle.pa_math.proofs.Divisors.{gcd_of_comm, gcd_of_zero, gcd_of_at_most}
use Rattle.pa_math.proofs.BinaryGcd.{gcd_of_difference, gcd_of_common_factor, gcd_of_odd}

-- where the k lowest bits are 0, a shift by k loses nothing
shift_exact : (k n : ℕ) → ((i : ℕ) → i < k → bit_at n i ≡ 0) → n / 2 ^ k * 2 ^ k ≡ n
shift_exact zero n h = omega (arith, shr_split n 0)
shift_exact (suc k) n h =
    let before : n / 2 ^ k * 2 ^ k ≡ n = shift_exact k n (λ i l. h i (omega arith)) in
    let last : n / 2 ^ k % 2 ≡ 0 = h k (omega arith) in
    let half : n / 2 ^ suc k ≡ n / 2 ^ k / 2 = sym (shr-shr n k 1 ∙ ap (λ j. n / 2 ^ j) (add-one k)) in
    let whole : n / 2 ^ k / 2 * 2 ≡ n / 2 ^ k = omega arith in
    ap₂ (λ x p. x * p) half (pow-suc 2 k) ∙ regroup (n / 2 ^ k / 2) (2 ^ k) ∙ ap (λ q. q * 2 ^ k) whole ∙ before
  where
    regroup : (x p : ℕ) → x * (p * 2) ≡ x * 2 * p
    regroup x p = ap (λ z. x * z) (mul_comm p 2) ∙ sym (mul_assoc x 2 p)

-- the number without its factors of 2
pub odd_part_odd : (w : Width) (n : ℕ) → 0 < n → n < 2 ^ bits w → n / 2 ^ trailing_zeros w n % 2 ≡ 1
odd_part_odd w n h l = (bit_at-trailing_zeros w n h l).1

pub odd_part_factor : (w : Width) (n : ℕ) → 0 < n → n < 2 ^ bits w → n / 2 ^ trailing_zeros w n * 2 ^ trailing_zeros w n ≡ n
odd_part_factor w n h l = shift_exact (trailing_zeros w n) n (bit_at-trailing_zeros w n h l).2

-- ---- one turn: the odd part o of x, and the odd number y
to_odd : (k o x y : ℕ) → o * 2 ^ k ≡ x → y % 2 ≡ 1 → gcd_of x y ≡ gcd_of o y
to_odd k o x y e h = ap (λ z. gcd_of z y) (sym e) ∙ gcd_of_odd k o y h

by_difference : (o y : ℕ) → gcd_of o y ≡ gcd_of (abs_diff o y) (min o y)
by_difference o y = by_cases (cases_lt o y)
  where
    by_cases : (o < y) ⊎ (y ≤ o) → gcd_of o y ≡ gcd_of (abs_diff o y) (min o y)
    by_cases (inl h) = gcd_of_comm o y ∙ gcd_of_difference y o (omega arith) ∙ ap₂ gcd_of (omega arith) (omega arith)
    by_cases (inr h) = gcd_of_difference o y h ∙ ap₂ gcd_of (omega arith) (omega arith)

-- keeps the greatest common divisor
pub turn_keeps : (k o x y g : ℕ) → o * 2 ^ k ≡ x → y % 2 ≡ 1 → gcd_of x y ≡ g → gcd_of (abs_diff o y) (min o y) ≡ g
turn_keeps k o x y g e h p = sym (by_difference o y) ∙ sym (to_odd k o x y e h) ∙ p

-- keeps the second number odd
pub turn_odd : (o y : ℕ) → o % 2 ≡ 1 → y % 2 ≡ 1 → min o y % 2 ≡ 1
turn_odd o y h k = by_cases (cases_lt o y)
  where
    by_cases : (o < y) ⊎ (y ≤ o) → min o y % 2 ≡ 1
    by_cases (inl l) = subst (λ z. z % 2 ≡ 1) (omega arith) h
    by_cases (inr l) = subst (λ z. z % 2 ≡ 1) (omega arith) k

-- ---- the factors of 2 that both numbers have
split_power : (a i j : ℕ) → j ≤ i → a * 2 ^ i ≡ a * 2 ^ (i - j) * 2 ^ j
split_power a i j h = ap (λ k. a * 2 ^ k) (omega arith) ∙ ap (λ p. a * p) (pow-add 2 (i - j) j) ∙ sym (mul_assoc a (2 ^ (i - j)) (2 ^ j))

pub shared_twos : (i j a b m n : ℕ) → a * 2 ^ i ≡ m → a % 2 ≡ 1 → b * 2 ^ j ≡ n → b % 2 ≡ 1 → gcd_of m b * 2 ^ min i j ≡ gcd_of m n
shared_twos i j a b m n e h f k =
    let odd : gcd_of m b ≡ gcd_of a b = ap (λ z. gcd_of z b) (sym e) ∙ gcd_of_odd i a b k in
    ap (λ g. g * 2 ^ min i j) odd ∙ by_cases (cases_lt i j) ∙ ap₂ gcd_of e f
  where
    by_cases : (i < j) ⊎ (j ≤ i) → gcd_of a b * 2 ^ min i j ≡ gcd_of (a * 2 ^ i) (b * 2 ^ j)
    by_cases (inl l) =
        ap₂ (λ g p. g * 2 ^ p) (gcd_of_comm a b ∙ sym (gcd_of_odd (j - i) b a h) ∙ gcd_of_comm (b * 2 ^ (j - i)) a) (omega arith)
        ∙ sym (gcd_of_common_factor (2 ^ i) a (b * 2 ^ (j - i))) ∙ ap (gcd_of (a * 2 ^ i)) (sym (split_power b j i (omega arith)))
    by_cases (inr l) =
        ap₂ (λ g p. g * 2 ^ p) (sym (gcd_of_odd (i - j) a b k)) (omega arith)
        ∙ sym (gcd_of_common_factor (2 ^ j) (a * 2 ^ (i - j)) b) ∙ ap (λ z. gcd_of z (b * 2 ^ j)) (sym (split_power a i j l))

-- the shift back stays within the width, since the greatest common divisor is at most the second number
pub shift_back : (w : Width) (g p a b : ℕ) → g * p ≡ gcd_of a b → 0 < b → b < 2 ^ bits w → g * p % 2 ^ bits w ≡ gcd_of a b
shift_back w g p a b e h l = ap (λ z. z % 2 ^ bits w) e ∙ mod-eq_of_lt (omega (arith, gcd_of_at_most a b h))

pub zero_left : (a b : ℕ) → a ≡ 0 → b ≡ gcd_of a b
zero_left a b h = sym (ap (λ z. gcd_of z b) h ∙ gcd_of_comm 0 b ∙ gcd_of_zero b)

pub zero_right : (a b : ℕ) → b ≡ 0 → a ≡ gcd_of a b
zero_right a b h = sym (ap (gcd_of a) h ∙ gcd_of_zero a)
