-- A cleaned list, and a thinned one, has no row that another one of it stands in for. So no two of its rows are equal.
use Rattle.std.proofs.Common.{◌≡◌, refl, ap₂, ℕ, suc, Bool, true, false, not, ◌&&◌, ◌||◌, cond, List, [], ◌∷◌, All, filter, int_le, arith}
use Rattle.std.proofs.lemmas.Int.{ints}
use Rattle.std.proofs.lemmas.Bool.Decides.{Decides-int_eq}
use Rattle.std.proofs.lemmas.Slice.Eq.{slice_eq-Decides}
use Rattle.std.proofs.lemmas.Map.Keys.{IsDistinct-head, IsDistinct-tail, IsDistinct-cons}
use Rattle.std.proofs.lemmas.List.Elements.{All-nil, All-cons, All-weaker, recursion_from_All, All-from_recursion}
use Rattle.std.specs.List.{list_any, IsDistinct, AllByRecursion}
use lib.IntN.{ℤ, ◌*ℤ◌}
use Rattle.pa_math.specs.Divisors.{gcd_all, quotients}
use Rattle.pa_math.proofs.Unions.{distinct-nil}
use Rattle.pa_meaning.specs.Rows.{Row}
use Rattle.pa_meaning.specs.Weights.{impossible}
use Rattle.pa_witness.specs.Thinning.{Dropped, is_constant, is_impossible, is_within, is_well_within, tightest, cleaned, is_place_of, places_of}
use Rattle.pa_witness.specs.Thinning.{without_places, thinned}
use Rattle.pa_witness.proofs.Thinning.{All-without_places}

left_false : (a b : Bool) → (a || b) ≡ false → a ≡ false
left_false true b h = h
left_false false b h = refl

right_false : (a b : Bool) → (a || b) ≡ false → b ≡ false
right_false true b h = absurd (cc)
right_false false b h = h

-- no row before stands in for a row that is left
tightest_new : (before after : List Row) → All (λ s. list_any (is_within s) before ≡ false) (tightest before after)
tightest_new before [] = All-nil (λ s. list_any (is_within s) before ≡ false)
tightest_new before (r ∷ after) = by (list_any (is_within r) before || list_any (is_well_within r) after) refl
    (All-weaker (λ s. list_any (is_within s) (r ∷ before) ≡ false) (λ s. list_any (is_within s) before ≡ false)
    (λ s h. right_false (is_within s r) (list_any (is_within s) before) h) (tightest (r ∷ before) after) (tightest_new (r ∷ before) after))
  where
    by : (b : Bool) → (list_any (is_within r) before || list_any (is_well_within r) after) ≡ b
        → All (λ s. list_any (is_within s) before ≡ false) (tightest (r ∷ before) after)
        → All (λ s. list_any (is_within s) before ≡ false) (cond b (tightest (r ∷ before) after) (r ∷ tightest (r ∷ before) after))
    by true e rest = rest
    by false e rest = All-cons (λ s. list_any (is_within s) before ≡ false) r (tightest (r ∷ before) after)
        (left_false (list_any (is_within r) before) (list_any (is_well_within r) after) e) rest

-- the first row stands in for the second
abbrev pub stands_in : Row → Row → Bool
stands_in r s = is_within s r

tightest_distinct : (before after : List Row) → IsDistinct stands_in (tightest before after)
tightest_distinct before [] = distinct-nil stands_in
tightest_distinct before (r ∷ after) = by (list_any (is_within r) before || list_any (is_well_within r) after) (tightest_distinct (r ∷ before) after)
  where
    new : AllByRecursion (λ s. stands_in r s ≡ false) (tightest (r ∷ before) after)
    new = recursion_from_All (λ s. is_within s r ≡ false) (tightest (r ∷ before) after)
        (All-weaker (λ s. list_any (is_within s) (r ∷ before) ≡ false) (λ s. is_within s r ≡ false)
        (λ s h. left_false (is_within s r) (list_any (is_within s) before) h) (tightest (r ∷ before) after) (tightest_new (r ∷ before) after))

    by : (b : Bool) → IsDistinct stands_in (tightest (r ∷ before) after)
        → IsDistinct stands_in (cond b (tightest (r ∷ before) after) (r ∷ tightest (r ∷ before) after))
    by true rest = rest
    by false rest = IsDistinct-cons stands_in r (tightest (r ∷ before) after) new rest

-- No row of a cleaned list stands in for a later one.
pub cleaned_distinct : (n : ℕ) (rows : List Row) → IsDistinct stands_in (cleaned n rows)
cleaned_distinct n rows = by (list_any is_impossible rows)
  where
    by : (b : Bool) → IsDistinct stands_in (cond b (impossible n ∷ []) (tightest [] (filter (λ r. not (is_constant r)) rows)))
    by true = IsDistinct-cons stands_in (impossible n) [] tt (distinct-nil stands_in)
    by false = tightest_distinct [] (filter (λ r. not (is_constant r)) rows)

without_distinct : (gone : List ℕ) (i : ℕ) (rows : List Row) → IsDistinct stands_in rows → IsDistinct stands_in (without_places gone i rows)
without_distinct gone i [] d = d
without_distinct gone i (r ∷ rows) d = by (is_place_of gone i) (without_distinct gone (suc i) rows (IsDistinct-tail stands_in r rows d))
  where
    by : (b : Bool) → IsDistinct stands_in (without_places gone (suc i) rows)
        → IsDistinct stands_in (cond b (without_places gone (suc i) rows) (r ∷ without_places gone (suc i) rows))
    by true rest = rest
    by false rest = IsDistinct-cons stands_in r (without_places gone (suc i) rows)
        (recursion_from_All (λ s. stands_in r s ≡ false) (without_places gone (suc i) rows)
        (All-without_places (λ s. stands_in r s ≡ false) gone (suc i) rows
        (All-from_recursion (λ s. stands_in r s ≡ false) rows (IsDistinct-head stands_in r rows d)))) rest

-- Nor does one of a thinned list.
pub thinned_distinct : (n : ℕ) (rows : List Row) (drops : List Dropped) → IsDistinct stands_in (thinned n rows drops)
thinned_distinct n rows drops = without_distinct (places_of drops) 0 (cleaned n rows) (cleaned_distinct n rows)

-- a row stands in for itself
pub stands_in_itself : (r : Row) → stands_in r r ≡ true
stands_in_itself r = ap₂ ◌&&◌ ((slice_eq-Decides Decides-int_eq (quotients (gcd_all r.c) r.c) (quotients (gcd_all r.c) r.c) _ refl).1 refl)
    (at_most_itself (r.b *ℤ gcd_all r.c))
  where
    at_most_itself : (z : ℤ) → int_le z z ≡ true
    at_most_itself z = grind (arith, ints)
