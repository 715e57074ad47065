-- Rows over some names, as what stands behind the first names in rows over all of them: weights that leave nothing of a term behind these make it over
-- the others.
use Rattle.std.proofs.Common.{◌≡◌, refl, sym, ap, ap₂, subst, ◌∙◌, ℕ, zero, suc, ◌+◌, ◌<◌, List, [], ◌∷◌, ◌++◌, length, map, drop, All}
use Rattle.std.proofs.lemmas.List.{length-map}
use lib.IntN.{ℤ, pos, negsuc, ◌+ℤ◌, ◌*ℤ◌}
use Rattle.pa_ring.specs.Sums.{number_at, sum_of, times}
use Rattle.pa_ring.proofs.Integers.{null, ◌⋆◌, ◌⊞◌}
use Rattle.pa_ring.proofs.IntegerTactics.{by_equations, reads}
use Rattle.pa_ring.proofs.Sums.{number_at-times, number_at-sum_of}
use Rattle.pa_meaning.specs.Rows.{Row, row_at}
use Rattle.pa_meaning.specs.Weights.{Weights, combined}
use Rattle.pa_meaning.specs.Contracts.{Name, coefficient_at, over_names}
use Rattle.pa_meaning.specs.Directions.{Makes}
use Rattle.pa_meaning.specs.Shifting.{less_weighted, Leaves}
use Rattle.pa_meaning.proofs.Shifting.{drop_number}
use Rattle.pa_shift.specs.Meant.{back_row}

-- ---- rows behind the first columns
drop_nothing : (n : ℕ) → (let none : List ℤ = [] in drop n none ≡ none)
drop_nothing zero = refl
drop_nothing (suc n) = refl

sum_of_nothing : (xs : List ℤ) → sum_of xs [] ≡ xs
sum_of_nothing [] = refl
sum_of_nothing (x ∷ xs) = refl

drop-sum_of : (n : ℕ) (xs ys : List ℤ) → sum_of (drop n xs) (drop n ys) ≡ drop n (sum_of xs ys)
drop-sum_of zero xs ys = refl
drop-sum_of (suc n) [] ys = refl
drop-sum_of (suc n) (x ∷ xs) [] = sum_of_nothing (drop n xs)
drop-sum_of (suc n) (x ∷ xs) (y ∷ ys) = drop-sum_of n xs ys

drop-times : (n : ℕ) (k : ℤ) (xs : List ℤ) → times k (drop n xs) ≡ drop n (times k xs)
drop-times zero k xs = refl
drop-times (suc n) k [] = refl
drop-times (suc n) k (x ∷ xs) = drop-times n k xs

-- the row at a place, also past the end
pub row_at-back : (n : ℕ) (rows : List Row) (i : ℕ) → row_at (map (back_row n) rows) i ≡ back_row n (row_at rows i)
row_at-back n [] i = λ j. record { c = sym (drop_nothing n) j; b = pos 0 }
row_at-back n (r ∷ rows) zero = refl
row_at-back n (r ∷ rows) (suc i) = row_at-back n rows i

pub combined_back : (n : ℕ) (parts : List (ℕ × ℤ)) (rows : List Row) → (combined parts (map (back_row n) rows)).c ≡ drop n (combined parts rows).c
combined_back n [] rows = sym (drop_nothing n)
combined_back n (w ∷ ws) rows =
    ap₂ (λ (r : Row) (cs : List ℤ). sum_of (times w.1 r.c) cs) (row_at-back n rows w.0) (combined_back n ws rows)
    ∙ ap (λ t. sum_of t (drop n (combined ws rows).c)) (drop-times n w.1 (row_at rows w.0).c)
    ∙ drop-sum_of n (times w.1 (row_at rows w.0).c) (combined ws rows).c

-- weights that leave nothing of a term behind the first columns make it there
pub leaves_makes : (n : ℕ) (rows : List Row) (t : Row) (w : Weights) → Leaves n rows t w → Makes w (map (back_row n) rows) (back_row n t)
leaves_makes n rows t w h = record {
  positive = h.positive;
  weights = h.weights;
  places = subst (λ m. All (λ part. part.0 < m) w.parts) (sym (length-map rows (back_row n))) h.places;
  coefficients = λ i.
      let sum : Row = combined w.parts rows in
      let here : number_at (less_weighted t rows w).c (i + n) ≡ pos 0 = sym (drop_number n i (less_weighted t rows w).c) ∙ h.gone i in
      let both : number_at (less_weighted t rows w).c (i + n) ≡ w.den *ℤ number_at t.c (i + n) +ℤ negsuc 0 *ℤ number_at sum.c (i + n) =
      number_at-sum_of (times w.den t.c) (times (negsuc 0) sum.c) (i + n)
      ∙ ap₂ (λ a b. a +ℤ b) (number_at-times w.den t.c (i + n)) (number_at-times (negsuc 0) sum.c (i + n)) in
      let same : number_at sum.c (i + n) ≡ w.den *ℤ number_at t.c (i + n) =
      by_equations (number_at (less_weighted t rows w).c (i + n) ∷ w.den ∷ number_at t.c (i + n) ∷ number_at sum.c (i + n) ∷ [])
      (null both ⊞ negsuc 0 ⋆ null here) (search reads depth 40) tt in
      ap (λ cs. number_at cs i) (combined_back n w.parts rows) ∙ drop_number n i sum.c ∙ same ∙ ap (λ z. w.den *ℤ z) (sym (drop_number n i t.c))
      ∙ sym (number_at-times w.den (drop n t.c) i);
}

-- ---- rows over names, behind the first names
drop-map : (f : Name → ℤ) (first others : List Name) → drop (length first) (map f (first ++ others)) ≡ map f others
drop-map f [] others = refl
drop-map f (n ∷ first) others = drop-map f first others

pub over_back : (ns first others : List Name) (rows : List Row)
    → map (back_row (length first)) (map (over_names ns (first ++ others)) rows) ≡ map (over_names ns others) rows
over_back ns first others [] = refl
over_back ns first others (r ∷ rows) =
    ap₂ ◌∷◌ (λ j. record { c = drop-map (coefficient_at ns r.c) first others j; b = r.b }) (over_back ns first others rows)
