-- The greatest common divisor of a list of whole numbers, and the list divided by it.
use Rattle.std.proofs.Common.{◌≡◌, List, [], ◌∷◌, map, All, refl, sym, ap, ap₂, ◌∙◌, arith}
use Rattle.std.proofs.lemmas.Int.{ints}
use Rattle.std.proofs.lemmas.List.Elements.{All-nil, All-cons, All-head, All-tail, All-weaker}
use lib.IntN.{ℤ, pos, ◌*ℤ◌}
use lib.Signed.{◌≤ℤ◌, ◌<ℤ◌}
use Rattle.pa_ring.proofs.Integers.{*ℤ_cancel, <ℤ-≤ℤ, one-*ℤ}
use Rattle.pa_math.specs.Divisors.{gcd_ℤ, gcd_all, quotients, Divides}
use Rattle.pa_math.proofs.Divisors.{Divides_zero, Divides_trans, zero_divides, quotient_exact, gcd_ℤ_left, gcd_ℤ_right, gcd_ℤ_greatest}
use Rattle.pa_math.proofs.Coprime.{gcd_ℤ_common_factor}

-- it divides each number
pub gcd_all_divides : (xs : List ℤ) → All (Divides (gcd_all xs)) xs
gcd_all_divides [] = All-nil (Divides (pos 0))
gcd_all_divides (x ∷ xs) =
    All-cons (Divides (gcd_all (x ∷ xs))) x xs (gcd_ℤ_left x (gcd_all xs))
    (All-weaker (Divides (gcd_all xs)) (Divides (gcd_all (x ∷ xs))) (λ y h. Divides_trans (gcd_ℤ_right x (gcd_all xs)) h) xs (gcd_all_divides xs))

-- each common divisor divides it
pub gcd_all_greatest : (d : ℤ) (xs : List ℤ) → All (Divides d) xs → Divides d (gcd_all xs)
gcd_all_greatest d [] h = Divides_zero d
gcd_all_greatest d (x ∷ xs) h = gcd_ℤ_greatest (All-head (Divides d) x xs h) (gcd_all_greatest d xs (All-tail (Divides d) x xs h))

-- it is 0 only where all numbers are
pub gcd_all_zero : (xs : List ℤ) → gcd_all xs ≡ pos 0 → All (λ x. x ≡ pos 0) xs
gcd_all_zero xs e = All-weaker (Divides (gcd_all xs)) (λ x. x ≡ pos 0) (λ x h. zero_divides e h) xs (gcd_all_divides xs)

-- a common factor of all numbers is one of their greatest common divisor
pub gcd_all_common_factor : (k : ℤ) (xs : List ℤ) → pos 0 ≤ℤ k → gcd_all (map (λ x. x *ℤ k) xs) ≡ gcd_all xs *ℤ k
gcd_all_common_factor k [] h = omega (arith, ints)
gcd_all_common_factor k (x ∷ xs) h = ap (gcd_ℤ (x *ℤ k)) (gcd_all_common_factor k xs h) ∙ gcd_ℤ_common_factor k x (gcd_all xs) h

-- quotients by a common divisor, multiplied again
pub quotients_exact : (d : ℤ) (xs : List ℤ) → All (Divides d) xs → map (λ x. x *ℤ d) (quotients d xs) ≡ xs
quotients_exact d [] h = refl
quotients_exact d (x ∷ xs) h = ap₂ ◌∷◌ (quotient_exact (All-head (Divides d) x xs h)) (quotients_exact d xs (All-tail (Divides d) x xs h))

-- a list divided by its greatest common divisor is primitive: what is left has no common divisor but 1
pub primitive_quotients : (xs : List ℤ) → pos 0 <ℤ gcd_all xs → gcd_all (quotients (gcd_all xs) xs) ≡ pos 1
primitive_quotients xs h =
    let g : ℤ = gcd_all xs in
    *ℤ_cancel (gcd_all (quotients g xs)) (pos 1) g h
    (sym (gcd_all_common_factor g (quotients g xs) (<ℤ-≤ℤ h)) ∙ ap gcd_all (quotients_exact g xs (gcd_all_divides xs)) ∙ sym (one-*ℤ g))
