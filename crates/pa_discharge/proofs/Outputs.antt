-- Rows over the outputs of a composition, as what stands behind its external inputs in rows over all its names: weights that leave nothing of a term
-- behind these make it over the outputs.
use Rattle.std.proofs.Common.{◌≡◌, refl, sym, ap, ap₂, subst, ◌∙◌, ℕ, zero, suc, ◌+◌, ◌<◌, List, [], ◌∷◌, ◌++◌, length, map, drop, flat_map, arith}
use Rattle.std.proofs.Common.{All, Contains, Option, None, Some, slice_get}
use Rattle.std.proofs.lemmas.List.{length-map, map-append}
use Rattle.std.proofs.lemmas.List.Elements.{All-nil, All-cons, All-head, All-tail, All-append, All-weaker, All-contains_itself}
use Rattle.std.proofs.lemmas.List.Elements.{Contains-append_left, Contains-append_right}
use lib.IntN.{ℤ, pos, negsuc, ◌+ℤ◌, ◌*ℤ◌}
use lib.Signed.{◌≤ℤ◌}
use Rattle.pa_ring.specs.Sums.{number_at, sum_of, times}
use Rattle.pa_ring.proofs.Integers.{null, ◌⋆◌, ◌⊞◌}
use Rattle.pa_ring.proofs.IntegerTactics.{by_equations, reads}
use Rattle.pa_ring.proofs.Lists.{All-append_left, All-append_right}
use Rattle.pa_ring.proofs.Sums.{number_at-times, number_at-sum_of}
use Rattle.pa_meaning.specs.Rows.{Row, row_at}
use Rattle.pa_meaning.specs.Weights.{Weights, combined, NoneNegative, AllPlaced}
use Rattle.pa_meaning.specs.Contracts.{Name, Contract, ports, coefficient_at, over_names}
use Rattle.pa_meaning.specs.Directions.{Makes}
use Rattle.pa_meaning.specs.Shifting.{less_weighted, Leaves}
use Rattle.pa_meaning.specs.Composition.{assumptions_over, guarantees_over, part_at, all_outputs, external_inputs, names_of, AreGuaranteesOf}
use Rattle.pa_meaning.proofs.Shifting.{drop_number}
use Rattle.pa_holds.specs.Composed.{all_guarantees}
use Rattle.pa_shift.specs.Meant.{back_row}
use Rattle.pa_discharge.specs.Rounds.{Brought}
use Rattle.pa_discharge.specs.Discharging.{discharged_rows}

-- ---- rows behind the first columns
drop_nothing : (n : ℕ) → (let none : List ℤ = [] in drop n none ≡ none)
drop_nothing zero = refl
drop_nothing (suc n) = refl

sum_of_nothing : (xs : List ℤ) → sum_of xs [] ≡ xs
sum_of_nothing [] = refl
sum_of_nothing (x ∷ xs) = refl

drop-sum_of : (n : ℕ) (xs ys : List ℤ) → sum_of (drop n xs) (drop n ys) ≡ drop n (sum_of xs ys)
drop-sum_of zero xs ys = refl
drop-sum_of (suc n) [] ys = refl
drop-sum_of (suc n) (x ∷ xs) [] = sum_of_nothing (drop n xs)
drop-sum_of (suc n) (x ∷ xs) (y ∷ ys) = drop-sum_of n xs ys

drop-times : (n : ℕ) (k : ℤ) (xs : List ℤ) → times k (drop n xs) ≡ drop n (times k xs)
drop-times zero k xs = refl
drop-times (suc n) k [] = refl
drop-times (suc n) k (x ∷ xs) = drop-times n k xs

-- the row at a place, also past the end
pub row_at-back : (n : ℕ) (rows : List Row) (i : ℕ) → row_at (map (back_row n) rows) i ≡ back_row n (row_at rows i)
row_at-back n [] i = λ j. record { c = sym (drop_nothing n) j; b = pos 0 }
row_at-back n (r ∷ rows) zero = refl
row_at-back n (r ∷ rows) (suc i) = row_at-back n rows i

pub combined_back : (n : ℕ) (parts : List (ℕ × ℤ)) (rows : List Row) → (combined parts (map (back_row n) rows)).c ≡ drop n (combined parts rows).c
combined_back n [] rows = sym (drop_nothing n)
combined_back n (w ∷ ws) rows =
    ap₂ (λ (r : Row) (cs : List ℤ). sum_of (times w.1 r.c) cs) (row_at-back n rows w.0) (combined_back n ws rows)
    ∙ ap (λ t. sum_of t (drop n (combined ws rows).c)) (drop-times n w.1 (row_at rows w.0).c)
    ∙ drop-sum_of n (times w.1 (row_at rows w.0).c) (combined ws rows).c

-- weights that leave nothing of a term behind the first columns make it there
pub leaves_makes : (n : ℕ) (rows : List Row) (t : Row) (w : Weights) → Leaves n rows t w → Makes w (map (back_row n) rows) (back_row n t)
leaves_makes n rows t w h = record {
  positive = h.positive;
  weights = h.weights;
  places = subst (λ m. All (λ part. part.0 < m) w.parts) (sym (length-map rows (back_row n))) h.places;
  coefficients = λ i.
      let sum : Row = combined w.parts rows in
      let here : number_at (less_weighted t rows w).c (i + n) ≡ pos 0 = sym (drop_number n i (less_weighted t rows w).c) ∙ h.gone i in
      let both : number_at (less_weighted t rows w).c (i + n) ≡ w.den *ℤ number_at t.c (i + n) +ℤ negsuc 0 *ℤ number_at sum.c (i + n) =
      number_at-sum_of (times w.den t.c) (times (negsuc 0) sum.c) (i + n)
      ∙ ap₂ (λ a b. a +ℤ b) (number_at-times w.den t.c (i + n)) (number_at-times (negsuc 0) sum.c (i + n)) in
      let same : number_at sum.c (i + n) ≡ w.den *ℤ number_at t.c (i + n) =
      by_equations (number_at (less_weighted t rows w).c (i + n) ∷ w.den ∷ number_at t.c (i + n) ∷ number_at sum.c (i + n) ∷ [])
      (null both ⊞ negsuc 0 ⋆ null here) (search reads depth 40) tt in
      ap (λ cs. number_at cs i) (combined_back n w.parts rows) ∙ drop_number n i sum.c ∙ same ∙ ap (λ z. w.den *ℤ z) (sym (drop_number n i t.c))
      ∙ sym (number_at-times w.den (drop n t.c) i);
}

-- ---- rows over names, behind the first names
drop-map : (f : Name → ℤ) (first others : List Name) → drop (length first) (map f (first ++ others)) ≡ map f others
drop-map f [] others = refl
drop-map f (n ∷ first) others = drop-map f first others

pub over_back : (ns first others : List Name) (rows : List Row)
    → map (back_row (length first)) (map (over_names ns (first ++ others)) rows) ≡ map (over_names ns others) rows
over_back ns first others [] = refl
over_back ns first others (r ∷ rows) =
    ap₂ ◌∷◌ (λ j. record { c = drop-map (coefficient_at ns r.c) first others j; b = r.b }) (over_back ns first others rows)

module _ (parts : List Contract) where
  -- a part's rows over the names are, behind the external inputs, its rows over the outputs
  pub guarantees_back : (p : Contract) → map (back_row (length (external_inputs parts))) (guarantees_over (names_of parts) p)
      ≡ guarantees_over (all_outputs parts) p
  guarantees_back p = over_back (ports p) (external_inputs parts) (all_outputs parts) p.guarantees

  pub assumptions_back : (p : Contract) → map (back_row (length (external_inputs parts))) (assumptions_over (names_of parts) p)
      ≡ assumptions_over (all_outputs parts) p
  assumptions_back p = over_back p.inputs (external_inputs parts) (all_outputs parts) p.assumptions

  -- the guarantees of all these parts, and of those of them that are discharged
  pub each_back : (ps : List Contract) → map (back_row (length (external_inputs parts))) (flat_map (guarantees_over (names_of parts)) ps)
      ≡ flat_map (guarantees_over (all_outputs parts)) ps
  each_back [] = refl
  each_back (p ∷ ps) =
      map-append (back_row (length (external_inputs parts))) (guarantees_over (names_of parts) p) (flat_map (guarantees_over (names_of parts)) ps)
      ∙ ap₂ ◌++◌ (guarantees_back p) (each_back ps)

  pub discharged_back : (ps : List Contract) (bs : List (Option Brought))
      → map (back_row (length (external_inputs parts))) (discharged_rows (names_of parts) ps bs) ≡ discharged_rows (all_outputs parts) ps bs
  discharged_back [] bs = refl
  discharged_back (p ∷ ps) [] = refl
  discharged_back (p ∷ ps) (None ∷ bs) = discharged_back ps bs
  discharged_back (p ∷ ps) (Some b ∷ bs) =
      map-append (back_row (length (external_inputs parts))) (guarantees_over (names_of parts) p) (discharged_rows (names_of parts) ps bs)
      ∙ ap₂ ◌++◌ (guarantees_back p) (discharged_back ps bs)

  pub all_back : map (back_row (length (external_inputs parts))) (all_guarantees parts) ≡ flat_map (guarantees_over (all_outputs parts)) parts
  all_back = each_back parts

  -- an assumption at its place
  pub term_back : (p : Contract) (row : ℕ) → back_row (length (external_inputs parts)) (row_at (assumptions_over (names_of parts) p) row)
      ≡ row_at (assumptions_over (all_outputs parts) p) row
  term_back p row =
      sym (row_at-back (length (external_inputs parts)) (assumptions_over (names_of parts) p) row) ∙ ap (λ rows. row_at rows row) (assumptions_back p)

  -- weights over the names that leave nothing of an assumption make it over the outputs
  pub made_over : (rows outputs : List Row) (i row : ℕ) (w : Weights) → map (back_row (length (external_inputs parts))) rows ≡ outputs
      → Leaves (length (external_inputs parts)) rows (row_at (assumptions_over (names_of parts) (part_at parts i)) row) w
      → Makes w outputs (row_at (assumptions_over (all_outputs parts) (part_at parts i)) row)
  made_over rows outputs i row w is leaves =
      let n : ℕ = length (external_inputs parts) in
      let p : Contract = part_at parts i in
      subst (λ t. Makes w outputs t) (term_back p row)
      (subst (λ rs. Makes w rs (back_row n (row_at (assumptions_over (names_of parts) p) row))) is
      (leaves_makes n rows (row_at (assumptions_over (names_of parts) p) row) w leaves))

-- ---- whose guarantees these are
-- what holds of the guarantees of each discharged part holds of all of them
pub discharged_all : (P : Row → Type 0) (names : List Name) (ps : List Contract) (bs : List (Option Brought))
    → ((j : ℕ) (b : Brought) → j < length ps → slice_get bs j ≡ Some (Some b) → All P (guarantees_over names (part_at ps j)))
    → All P (discharged_rows names ps bs)
discharged_all P names [] bs h = All-nil P
discharged_all P names (p ∷ ps) [] h = All-nil P
discharged_all P names (p ∷ ps) (None ∷ bs) h = discharged_all P names ps bs (λ j b less at. h (suc j) b (omega arith) at)
discharged_all P names (p ∷ ps) (Some b ∷ bs) h =
    All-append P (guarantees_over names p) (discharged_rows names ps bs) (h 0 b (omega arith) refl)
    (discharged_all P names ps bs (λ j b less at. h (suc j) b (omega arith) at))

-- and back
pub from_discharged : (P : Row → Type 0) (names : List Name) (ps : List Contract) (bs : List (Option Brought)) → All P (discharged_rows names ps bs)
    → (j : ℕ) (b : Brought) → j < length ps → slice_get bs j ≡ Some (Some b) → All P (guarantees_over names (part_at ps j))
from_discharged P names [] bs h j b less at = absurd (omega arith)
from_discharged P names (p ∷ ps) [] h j b less at = absurd (cc)
from_discharged P names (p ∷ ps) (None ∷ bs) h zero b less at = absurd (cc)
from_discharged P names (p ∷ ps) (None ∷ bs) h (suc j) b less at = from_discharged P names ps bs h j b (omega arith) at
from_discharged P names (p ∷ ps) (Some c ∷ bs) h zero b less at = All-append_left P (guarantees_over names p) (discharged_rows names ps bs) h
from_discharged P names (p ∷ ps) (Some c ∷ bs) h (suc j) b less at =
    from_discharged P names ps bs (All-append_right P (guarantees_over names p) (discharged_rows names ps bs) h) j b (omega arith) at

-- the guarantees of the discharged parts, over the outputs, are those of these parts
pub discharged_are : (parts : List Contract) (bs : List (Option Brought)) (these : ℕ → Type 0)
    → ((j : ℕ) (b : Brought) → slice_get bs j ≡ Some (Some b) → these j)
    → AreGuaranteesOf parts these (discharged_rows (all_outputs parts) parts bs)
discharged_are parts bs these h = discharged_all IsOf (all_outputs parts) parts bs (λ j b less at.
    All-weaker (Contains (guarantees_over (all_outputs parts) (part_at parts j))) IsOf (λ g within. (j, h j b at, less, within))
    (guarantees_over (all_outputs parts) (part_at parts j)) (All-contains_itself (guarantees_over (all_outputs parts) (part_at parts j))))
  where
    IsOf : Row → Type 0
    IsOf = λ g. (j : ℕ) × these j × (j < length parts) × Contains (guarantees_over (all_outputs parts) (part_at parts j)) g

-- all parts' guarantees have those of each part
all_parts : (names : List Name) (ps : List Contract) (j : ℕ) → j < length ps
    → All (Contains (flat_map (guarantees_over names) ps)) (guarantees_over names (part_at ps j))
all_parts names [] j less = absurd (omega arith)
all_parts names (p ∷ ps) zero less =
    let all : List Row = flat_map (guarantees_over names) (p ∷ ps) in
    All-weaker (Contains (guarantees_over names p)) (Contains all)
    (λ g i. Contains-append_left (guarantees_over names p) (flat_map (guarantees_over names) ps) g i) (guarantees_over names p)
    (All-contains_itself (guarantees_over names p))
all_parts names (p ∷ ps) (suc j) less =
    let all : List Row = flat_map (guarantees_over names) (p ∷ ps) in
    All-weaker (Contains (flat_map (guarantees_over names) ps)) (Contains all)
    (λ g i. Contains-append_right (guarantees_over names p) (flat_map (guarantees_over names) ps) g i) (guarantees_over names (part_at ps j))
    (all_parts names ps j (omega arith))

pub discharged_among : (names : List Name) (ps : List Contract) (bs : List (Option Brought))
    → All (Contains (flat_map (guarantees_over names) ps)) (discharged_rows names ps bs)
discharged_among names ps bs = discharged_all (Contains (flat_map (guarantees_over names) ps)) names ps bs (λ j b less at. all_parts names ps j less)

-- ---- weights over more rows
-- the place of a row among others that have it
place_of : (all : List Row) (r : Row) → Contains all r → (i : ℕ) × (i < length all) × (row_at all i ≡ r)
place_of [] r (i, less, is) = absurd (omega arith)
place_of (a ∷ all) r (zero, less, is) = (0, omega arith, is)
place_of (a ∷ all) r (suc i, less, is) =
    let (k, within, same) = place_of all r (i, omega arith, is) in
    (suc k, omega arith, same)

row_among : (all rows : List Row) (i : ℕ) → All (Contains all) rows → i < length rows → Contains all (row_at rows i)
row_among all [] i h less = absurd (omega arith)
row_among all (r ∷ rows) zero h less = All-head (Contains all) r rows h
row_among all (r ∷ rows) (suc i) h less = row_among all rows i (All-tail (Contains all) r rows h) (omega arith)

record AreWeightsOver (parts : List (ℕ × ℤ)) (rows all : List Row) : Type 0 where
  places : List (ℕ × ℤ)
  weights : NoneNegative places
  within : AllPlaced places all
  same : (combined places all) ≡ (combined parts rows)

weights_over : (parts : List (ℕ × ℤ)) (rows all : List Row) → NoneNegative parts → AllPlaced parts rows → All (Contains all) rows
    → AreWeightsOver parts rows all
weights_over [] rows all n p h = record {
  places = [];
  weights = All-nil (λ (part : ℕ × ℤ). pos 0 ≤ℤ part.1);
  within = All-nil (λ (part : ℕ × ℤ). part.0 < length all);
  same = refl;
}
weights_over (w ∷ ws) rows all n p h =
    let rest = weights_over ws rows all (All-tail (λ (part : ℕ × ℤ). pos 0 ≤ℤ part.1) w ws n)
    (All-tail (λ (part : ℕ × ℤ). part.0 < length rows) w ws p) h in
    let (i, less, is) = place_of all (row_at rows w.0) (row_among all rows w.0 h (All-head (λ (part : ℕ × ℤ). part.0 < length rows) w ws p)) in
    record {
      places = (i, w.1) ∷ rest.places;
      weights = All-cons (λ (part : ℕ × ℤ). pos 0 ≤ℤ part.1) (i, w.1) rest.places (All-head (λ (part : ℕ × ℤ). pos 0 ≤ℤ part.1) w ws n) rest.weights;
      within = All-cons (λ (part : ℕ × ℤ). part.0 < length all) (i, w.1) rest.places less rest.within;
      same = ap₂ (λ (r s : Row). (let sum : Row = record { c = sum_of (times w.1 r.c) s.c; b = w.1 *ℤ r.b +ℤ s.b } in sum)) is rest.same;
    }

-- what weights make of rows, others make of rows that have them
pub makes_over_more : (rows all : List Row) (t : Row) (w : Weights) → All (Contains all) rows → Makes w rows t → (v : Weights) × Makes v all t
makes_over_more rows all t w h m =
    let over = weights_over w.parts rows all m.weights m.places h in (
      record { den = w.den; parts = over.places },
      record {
        positive = m.positive;
        weights = over.weights;
        places = over.within;
        coefficients = λ i. ap (λ (r : Row). number_at r.c i) over.same ∙ m.coefficients i;
      },
    )
