-- What the tests of numbers that were read say.
use Rattle.std.proofs.Common.{◌≡◌, ◌↔◌, ℕ, zero, suc, ◌<◌, ◌≤◌, ◌+◌, ◌⊎◌, inl, inr, Bool, true, false, IsTrue, List, [], ◌∷◌, take, drop}
use Rattle.std.proofs.Common.{length, get_or, map, Result, Ok, Err, All, AllPairs, refl, sym, ap, subst, ◌∙◌, is_ok, arith, add-one}
use Rattle.std.proofs.lemmas.List.Elements.{All-nil, All-cons, All-head, All-tail, All-weaker, All-get_or}
use Rattle.std.proofs.Math.Seq.{drop-cons}
use Rattle.std.proofs.lemmas.List.{drop_all}
use Rattle.std.proofs.lemmas.Int.{ints}
use lib.IntN.{ℤ, pos}
use lib.Signed.{◌<ℤ◌}
use Rattle.pa_math.specs.Divisors.{gcd_ℤ, gcd_all}
use Rattle.pa_frac.specs.Width.{passes, within}
use Rattle.pa_frac.proofs.Width.{fits_from_passes, passes_from_fits}
use Rattle.pa_frac.specs.declared.wide.Wide.{Wide}
use Rattle.pa_meaning.specs.Weights.{Weights}
use Rattle.pa_row.specs.Width.{Fits, IsCanonical}
use Rattle.pa_math.proofs.Divisors.{gcd_of_zero}
use Rattle.pa_row.proofs.Quotients.{gcd_ℤ_assoc}

-- a number is within its width exactly where it is told
pub narrow_test : (n : ℤ) → IsTrue (is_ok (within 126 n)) ↔ Fits n
narrow_test n = (λ t. fits_from_passes 126 n (told (passes 126 n) refl t), λ f. tells (passes_from_fits 126 n f))
  where
    told : (b : Bool) → passes 126 n ≡ b → IsTrue (is_ok (within 126 n)) → passes 126 n ≡ false
    told false e t = e
    told true e t = absurd (cc)

    tells : passes 126 n ≡ false → IsTrue (is_ok (within 126 n))
    tells e = rw e refl

-- ---- a test that each item passes
-- one that fails shows that not all pass
pub not_all : {A : Type 0} (P : A → Type 0) (xs : List A) (i : ℕ) (d : A) → i < length xs → ¬ P (get_or xs i d) → ¬ All P xs
not_all P xs i d h fails all = fails (All-get_or P xs i d h all)

-- ---- ascending places
-- places ascend where each is below the next
pub ascending_from_next : (parts : List (ℕ × ℤ)) (d : ℕ × ℤ) → ((k : ℕ) → k + 1 < length parts → (get_or parts k d).0 < (get_or parts (k + 1) d).0) →
    (i j : ℕ) → i < j → j < length parts → (get_or parts i d).0 < (get_or parts j d).0
ascending_from_next parts d h i zero e k = absurd (omega arith)
ascending_from_next parts d h i (suc j) e k = by (split i j e) (λ less. ascending_from_next parts d h i j less (omega arith))
  where
    split : (i j : ℕ) → i < suc j → (i ≡ j) ⊎ (i < j)
    split i j e = grind arith

    step : (get_or parts j d).0 < (get_or parts (suc j) d).0
    step = subst (λ n. (get_or parts j d).0 < (get_or parts n d).0) (add-one j) (h j (omega arith))

    by : (i ≡ j) ⊎ (i < j) → (i < j → (get_or parts i d).0 < (get_or parts j d).0) → (get_or parts i d).0 < (get_or parts (suc j) d).0
    by (inl same) before = subst (λ n. (get_or parts n d).0 < (get_or parts (suc j) d).0) (sym same) step
    by (inr less) before = let t = before less in omega (arith, t, step)

get_or_inside : {A : Type 0} (xs : List A) (i : ℕ) (d e : A) → i < length xs → get_or xs i d ≡ get_or xs i e
get_or_inside [] i d e h = absurd (omega arith)
get_or_inside (x ∷ xs) zero d e h = refl
get_or_inside (x ∷ xs) (suc i) d e h = get_or_inside xs i d e (omega arith)

pub ascending : (parts : List (ℕ × ℤ)) (d : ℕ × ℤ) → ((k : ℕ) → k + 1 < length parts → (get_or parts k d).0 < (get_or parts (k + 1) d).0)
    → AllPairs (λ (a b : ℕ × ℤ). a.0 < b.0) parts
ascending parts d h i j e k m =
    let t = ascending_from_next parts d h i j k m in
    rw (get_or_inside parts i e d (omega arith), get_or_inside parts j e d m) t

-- ---- the divisor
numbers_at : (parts : List (ℕ × ℤ)) (i : ℕ) (d : ℕ × ℤ) → i < length parts →
    map (λ (part : ℕ × ℤ). part.1) (drop i parts) ≡ (get_or parts i d).1 ∷ map (λ (part : ℕ × ℤ). part.1) (drop (i + 1) parts)
numbers_at parts i d h = rw (add-one, drop-cons parts i d h) refl

-- one number more
pub divisor_step : (g : ℤ) (parts : List (ℕ × ℤ)) (i : ℕ) (d : ℕ × ℤ) (x next all : ℤ) → i < length parts → x ≡ (get_or parts i d).1 → next ≡ gcd_ℤ g x →
    gcd_all (g ∷ map (λ (part : ℕ × ℤ). part.1) (drop i parts)) ≡ all → gcd_all (next ∷ map (λ (part : ℕ × ℤ). part.1) (drop (i + 1) parts)) ≡ all
divisor_step g parts i d x next all h is e k =
    rw (e, is) (sym (ap (λ xs. gcd_all (g ∷ xs)) (numbers_at parts i d h)
    ∙ sym (gcd_assoc g (get_or parts i d).1 (map (λ (part : ℕ × ℤ). part.1) (drop (i + 1) parts))))
    ∙ k)
  where
    gcd_assoc : (g x : ℤ) (xs : List ℤ) → gcd_all (gcd_ℤ g x ∷ xs) ≡ gcd_all (g ∷ x ∷ xs)
    gcd_assoc g x xs = gcd_ℤ_assoc g x (gcd_all xs)

-- past the last one the divisor is found
pub divisor_end : (n : ℕ) (parts : List (ℕ × ℤ)) (i : ℕ) → length parts ≤ i → gcd_all (pos n ∷ map (λ (part : ℕ × ℤ). part.1) (drop i parts)) ≡ pos n
divisor_end n parts i h = rw (drop_all i parts h) (ap pos (gcd_of_zero n))

-- ---- weights
pub numbers_fit : (parts : List (ℕ × ℤ)) → All (λ (part : ℕ × ℤ). (pos 0 <ℤ part.1) × Fits part.1) parts → All (λ (part : ℕ × ℤ). Fits part.1) parts
numbers_fit parts h = All-weaker (λ (part : ℕ × ℤ). (pos 0 <ℤ part.1) × Fits part.1) (λ (part : ℕ × ℤ). Fits part.1) (λ part both. both.1) parts h

-- what is left to test where the numbers and the places are right
pub canonical_by_divisor : (den : ℤ) (parts : List (ℕ × ℤ)) (divisor : ℕ) → (pos 0 <ℤ den) × Fits den
    → All (λ (part : ℕ × ℤ). (pos 0 <ℤ part.1) × Fits part.1) parts → AllPairs (λ (a b : ℕ × ℤ). a.0 < b.0) parts
    → pos divisor ≡ gcd_all (den ∷ map (λ (part : ℕ × ℤ). part.1) parts) → (divisor ≡ 1) ↔ IsCanonical (record { den = den; parts = parts })
canonical_by_divisor den parts divisor whole numbers places is = (
  λ one. record {
    positive = whole.0;
    denominator = whole.1;
    ascending = places;
    numerators = All-weaker (λ (part : ℕ × ℤ). (pos 0 <ℤ part.1) × Fits part.1) (λ (part : ℕ × ℤ). pos 0 <ℤ part.1) (λ part both. both.0) parts numbers;
    numbers = numbers_fit parts numbers;
    reduced = sym is ∙ ap pos one;
  },
  λ (canonical : IsCanonical (record { den = den; parts = parts })). one_from divisor (is ∙ canonical.reduced),
)
  where
    one_from : (n : ℕ) → pos n ≡ pos 1 → n ≡ 1
    one_from n e = omega (arith, ints, e)

pub both_of_canonical : (den : ℤ) (parts : List (ℕ × ℤ)) → IsCanonical (record { den = den; parts = parts })
    → All (λ (part : ℕ × ℤ). (pos 0 <ℤ part.1) × Fits part.1) parts
both_of_canonical den parts canonical i d h = (canonical.numerators i d h, canonical.numbers i d h)
