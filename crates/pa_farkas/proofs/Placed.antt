-- Weights by the places of their rows: they stay in the one form that weights have.
use Rattle.std.proofs.Common.{◌≡◌, refl, ap, ◌∙◌, ℕ, zero, suc, ◌+◌, ◌<◌, List, [], ◌∷◌, ◌++◌, length, map, get_or, All, AllPairs, add-one, arith}
use Rattle.std.proofs.lemmas.List.{get_or-map, length-map}
use Rattle.std.proofs.lemmas.List.Elements.{All-nil, All-cons, All-head, All-tail, All-get_or}
use lib.IntN.{ℤ, pos}
use lib.Signed.{◌<ℤ◌}
use Rattle.pa_math.specs.Divisors.{gcd_all}
use Rattle.pa_meaning.specs.Weights.{Weights}
use Rattle.pa_row.specs.Width.{Fits, IsCanonical}
use Rattle.pa_farkas.specs.Answered.{at_place, at_places}
use Rattle.pa_farkas.specs.Seen.{numbers_from}

pub numbers_more : (n : ℕ) → numbers_from 0 (n + 1) ≡ numbers_from 0 n ++ n ∷ []
numbers_more n = ap (numbers_from 0) (add-one n) ∙ more 0 n ∙ ap (λ k. numbers_from 0 n ++ k ∷ []) (let none : 0 + n ≡ n = omega arith in none)
  where
    more : (a n : ℕ) → numbers_from a (suc n) ≡ numbers_from a n ++ (a + n) ∷ []
    more a zero = ap (λ k. k ∷ []) (let none : a ≡ a + 0 = omega arith in none)
    more a (suc n) = ap (λ ks. a ∷ ks) (more (suc a) n ∙ ap (λ k. numbers_from (suc a) n ++ k ∷ []) (let same : suc a + n ≡ a + suc n = omega arith in same))

numerators_stay : (places : List ℕ) (parts : List (ℕ × ℤ)) → map (λ (part : ℕ × ℤ). part.1) (map (at_place places) parts) ≡ map (λ (part : ℕ × ℤ). part.1) parts
numerators_stay places [] = refl
numerators_stay places (part ∷ parts) = ap (λ ns. part.1 ∷ ns) (numerators_stay places parts)

stays : (P : ℤ → Type 0) (places : List ℕ) (parts : List (ℕ × ℤ)) → All (λ (part : ℕ × ℤ). P part.1) parts
    → All (λ (part : ℕ × ℤ). P part.1) (map (at_place places) parts)
stays P places [] h = All-nil (λ (part : ℕ × ℤ). P part.1)
stays P places (part ∷ parts) h =
    All-cons (λ (part : ℕ × ℤ). P part.1) (at_place places part) (map (at_place places) parts) (All-head (λ (part : ℕ × ℤ). P part.1) part parts h)
    (stays P places parts (All-tail (λ (part : ℕ × ℤ). P part.1) part parts h))

ascending_at : (places : List ℕ) (parts : List (ℕ × ℤ)) → AllPairs (λ (a b : ℕ). a < b) places → AllPairs (λ (a b : ℕ × ℤ). a.0 < b.0) parts
    → All (λ (part : ℕ × ℤ). part.0 < length places) parts → AllPairs (λ (a b : ℕ × ℤ). a.0 < b.0) (map (at_place places) parts)
ascending_at places parts up ascending placed i j d low inside =
    let long : length (map (at_place places) parts) ≡ length parts = length-map parts (at_place places) in
    let last : j < length parts = omega (arith, inside, long) in
    let none : ℕ × ℤ = (0, pos 0) in
    let first_is = get_or-map (at_place places) parts i none d (omega (arith, low, last)) in
    let last_is = get_or-map (at_place places) parts j none d last in
    rw (first_is, last_is)
    (up (get_or parts i none).0 (get_or parts j none).0 0 (ascending i j none low last)
    (All-get_or (λ (part : ℕ × ℤ). part.0 < length places) parts j none last placed))

pub at_canonical : (places : List ℕ) (w : Weights) → IsCanonical w → AllPairs (λ (a b : ℕ). a < b) places
    → All (λ (part : ℕ × ℤ). part.0 < length places) w.parts → IsCanonical (at_places places w)
at_canonical places w c up placed = record {
  positive = c.positive;
  denominator = c.denominator;
  ascending = ascending_at places w.parts up c.ascending placed;
  numerators = stays (λ n. pos 0 <ℤ n) places w.parts c.numerators;
  numbers = stays Fits places w.parts c.numbers;
  reduced = ap (λ ns. gcd_all (w.den ∷ ns)) (numerators_stay places w.parts) ∙ c.reduced;
}
