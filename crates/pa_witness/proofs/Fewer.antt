-- A thinned list has no more rows than the given one, and what an elimination leaves no more than the limits allow. No two
-- of its rows are equal.
use Rattle.std.proofs.Common.{◌≡◌, refl, sym, subst, ◌∙◌, ℕ, suc, ◌≤◌, Bool, true, false, not, ◌||◌, cond, List, [], ◌∷◌, length, filter, arith, true≢false}
use Rattle.std.proofs.lemmas.Map.Keys.{IsDistinct-head, IsDistinct-tail, IsDistinct-cons}
use Rattle.std.specs.List.{list_any, IsDistinct}
use Rattle.pa_ring.specs.Sums.{without}
use Rattle.pa_math.proofs.Unions.{All-implied, distinct-nil}
use Rattle.pa_meaning.specs.Rows.{Row}
use Rattle.pa_meaning.specs.Weights.{impossible}
use Rattle.pa_meaning.specs.Contracts.{Name}
use Rattle.pa_witness.specs.Equalities.{same_row}
use Rattle.pa_witness.specs.Thinning.{Dropped, is_constant, is_impossible, is_within, is_well_within, tightest, cleaned, is_place_of, places_of}
use Rattle.pa_witness.specs.Thinning.{without_places, thinned}
use Rattle.pa_witness.specs.Steps.{Version, stepped, step_count}
use Rattle.pa_witness.specs.Projection.{place_of, projected, StepsHold}
use Rattle.pa_witness.proofs.Equalities.{same_row_is}
use Rattle.pa_witness.proofs.Distinct.{stands_in, stands_in_itself, thinned_distinct}

-- ---- how many rows are left
pub filtered_fewer : {A : Type 0} (p : A → Bool) (xs : List A) → length (filter p xs) ≤ length xs
filtered_fewer p [] = omega arith
filtered_fewer p (x ∷ xs) = by (p x) (filtered_fewer p xs)
  where
    by : (b : Bool) → length (filter p xs) ≤ length xs → length (cond b (x ∷ filter p xs) (filter p xs)) ≤ suc (length xs)
    by true h = omega arith
    by false h = omega arith

tightest_fewer : (before after : List Row) → length (tightest before after) ≤ length after
tightest_fewer before [] = omega arith
tightest_fewer before (r ∷ after) = by (list_any (is_within r) before || list_any (is_well_within r) after) (tightest_fewer (r ∷ before) after)
  where
    by : (b : Bool) → length (tightest (r ∷ before) after) ≤ length after
        → length (cond b (tightest (r ∷ before) after) (r ∷ tightest (r ∷ before) after)) ≤ suc (length after)
    by true h = omega arith
    by false h = omega arith

some_there : (p : Row → Bool) (rows : List Row) → list_any p rows ≡ true → 1 ≤ length rows
some_there p [] h = absurd (cc)
some_there p (r ∷ rows) h = omega arith

cleaned_fewer : (n : ℕ) (rows : List Row) → length (cleaned n rows) ≤ length rows
cleaned_fewer n rows = by (list_any is_impossible rows) refl
  where
    by : (b : Bool) → list_any is_impossible rows ≡ b
        → length (cond b (impossible n ∷ []) (tightest [] (filter (λ r. not (is_constant r)) rows))) ≤ length rows
    by true e = some_there is_impossible rows e
    by false e =
        let tight = tightest_fewer [] (filter (λ r. not (is_constant r)) rows) in
        let solid = filtered_fewer (λ r. not (is_constant r)) rows in omega arith

without_places_fewer : (gone : List ℕ) (i : ℕ) (rows : List Row) → length (without_places gone i rows) ≤ length rows
without_places_fewer gone i [] = omega arith
without_places_fewer gone i (r ∷ rows) = by (is_place_of gone i) (without_places_fewer gone (suc i) rows)
  where
    by : (b : Bool) → length (without_places gone (suc i) rows) ≤ length rows
        → length (cond b (without_places gone (suc i) rows) (r ∷ without_places gone (suc i) rows)) ≤ suc (length rows)
    by true h = omega arith
    by false h = omega arith

pub thinned_fewer : (n : ℕ) (rows : List Row) (drops : List Dropped) → length (thinned n rows drops) ≤ length rows
thinned_fewer n rows drops =
    let left = without_places_fewer (places_of drops) 0 (cleaned n rows) in
    let clean = cleaned_fewer n rows in omega arith

-- each step stays within the row limit, so the rows that are left are no more than it allows, or than there were
pub projected_fewer : (v : Version) (most : ℕ) (names : List Name) (rows : List Row) (gone : List Name) (steps : List (List Dropped)) (bound : ℕ)
    → StepsHold v most names rows gone steps → length rows ≤ bound → most ≤ bound → length (projected v names rows gone steps) ≤ bound
projected_fewer v most names rows [] [] bound h few limit = few
projected_fewer v most names rows [] (drops ∷ steps) bound h few limit = absurd h
projected_fewer v most names rows (g ∷ gone) [] bound h few limit = absurd h
projected_fewer v most names rows (g ∷ gone) (drops ∷ steps) bound h few limit =
    let left : List Name = without (place_of g names) names in
    let made : step_count v (place_of g names) rows ≤ most = h.0 in
    let thin = thinned_fewer (length left) (stepped v (place_of g names) rows) drops in
    projected_fewer v most left (thinned (length left) (stepped v (place_of g names) rows) drops) gone steps bound h.2 (omega arith) limit

-- there are as many steps as names that go
pub steps_match : (v : Version) (most : ℕ) (names : List Name) (rows : List Row) (gone : List Name) (steps : List (List Dropped))
    → StepsHold v most names rows gone steps → length steps ≡ length gone
steps_match v most names rows [] [] h = refl
steps_match v most names rows [] (drops ∷ steps) h = absurd h
steps_match v most names rows (g ∷ gone) [] h = absurd h
steps_match v most names rows (g ∷ gone) (drops ∷ steps) h =
    let left : List Name = without (place_of g names) names in
    let rest = steps_match v most left (thinned (length left) (stepped v (place_of g names) rows) drops) gone steps h.2 in omega arith

-- ---- different rows
-- where no row stands in for a later one, no two are equal
pub same_row_distinct : (rows : List Row) → IsDistinct stands_in rows → IsDistinct same_row rows
same_row_distinct [] d = distinct-nil same_row
same_row_distinct (r ∷ rows) d =
    IsDistinct-cons same_row r rows
    (All-implied (λ s. stands_in r s ≡ false) (λ s. same_row r s ≡ false) (λ s h. apart s h) rows (IsDistinct-head stands_in r rows d))
    (same_row_distinct rows (IsDistinct-tail stands_in r rows d))
  where
    apart : (s : Row) → stands_in r s ≡ false → same_row r s ≡ false
    apart s h = by (same_row r s) refl
      where
        by : (b : Bool) → same_row r s ≡ b → b ≡ false
        by true e = absurd (true≢false (sym (subst (λ (t : Row). stands_in r t ≡ true) (same_row_is r s e) (stands_in_itself r)) ∙ h))
        by false e = refl

projected_apart : (v : Version) (names : List Name) (rows : List Row) (gone : List Name) (steps : List (List Dropped))
    → IsDistinct stands_in rows → IsDistinct stands_in (projected v names rows gone steps)
projected_apart v names rows [] steps d = d
projected_apart v names rows (g ∷ gone) [] d = d
projected_apart v names rows (g ∷ gone) (drops ∷ steps) d =
    let left : List Name = without (place_of g names) names in
    projected_apart v left (thinned (length left) (stepped v (place_of g names) rows) drops) gone steps
    (thinned_distinct (length left) (stepped v (place_of g names) rows) drops)

pub projected_distinct : (v : Version) (names : List Name) (rows : List Row) (gone : List Name) (steps : List (List Dropped))
    → IsDistinct stands_in rows → IsDistinct same_row (projected v names rows gone steps)
projected_distinct v names rows gone steps d =
    same_row_distinct (projected v names rows gone steps) (projected_apart v names rows gone steps d)
