-- Discharges that hold are discharges in time: each part is discharged in its round, or before.
use Rattle.std.proofs.Common.{◌≡◌, refl, sym, ap, ap₂, subst, ◌∙◌, ℕ, zero, suc, ◌+◌, ◌<◌, ◌≤◌, true, nat_lt, ltb-true, inr, List, [], ◌∷◌, ◌++◌, length}
use Rattle.std.proofs.Common.{map, drop, filter, flat_map, All, Contains, arith}
use Rattle.std.proofs.lemmas.List.{length-map}
use Rattle.std.proofs.lemmas.List.Elements.{All-nil, All-cons, All-head, All-tail, All-weaker, All-contains_itself}
use lib.IntN.{ℤ, pos, negsuc, ◌+ℤ◌, ◌*ℤ◌}
use Rattle.pa_ring.specs.Sums.{number_at, sum_of, times}
use Rattle.pa_ring.proofs.Integers.{null, ◌⋆◌, ◌⊞◌}
use Rattle.pa_ring.proofs.IntegerTactics.{by_equations, reads}
use Rattle.pa_ring.proofs.Lists.{All-filter_where, All-flat_map}
use Rattle.pa_ring.proofs.Sums.{number_at-times, number_at-sum_of}
use Rattle.pa_meaning.specs.Rows.{Row, row_at}
use Rattle.pa_meaning.specs.Weights.{Weights, combined}
use Rattle.pa_meaning.specs.Contracts.{Name, Contract, ports, coefficient_at, over_names}
use Rattle.pa_meaning.specs.Directions.{Makes}
use Rattle.pa_meaning.specs.Composition.{guarantees_over, part_at, all_outputs, external_inputs, names_of, AreGuaranteesOf, IsDischargedBefore}
use Rattle.pa_meaning.specs.Shifting.{less_weighted, Leaves}
use Rattle.pa_witness.specs.Shifts.{ShiftsHold}
use Rattle.pa_witness.specs.Discharge.{Discharge, DischargedPart, discharged, earlier_guarantees, DischargeHolds}
use Rattle.pa_meaning.proofs.Shifting.{drop_number}
use Rattle.pa_witness.proofs.Shifts.{leaves_from_shift}

-- ---- rows behind the first columns
abbrev behind : ℕ → Row → Row
behind n r = record { c = drop n r.c; b = r.b }

drop_nothing : (n : ℕ) → (let none : List ℤ = [] in drop n none ≡ none)
drop_nothing zero = refl
drop_nothing (suc n) = refl

sum_of_nothing : (xs : List ℤ) → sum_of xs [] ≡ xs
sum_of_nothing [] = refl
sum_of_nothing (x ∷ xs) = refl

drop-sum_of : (n : ℕ) (xs ys : List ℤ) → sum_of (drop n xs) (drop n ys) ≡ drop n (sum_of xs ys)
drop-sum_of zero xs ys = refl
drop-sum_of (suc n) [] ys = refl
drop-sum_of (suc n) (x ∷ xs) [] = sum_of_nothing (drop n xs)
drop-sum_of (suc n) (x ∷ xs) (y ∷ ys) = drop-sum_of n xs ys

drop-times : (n : ℕ) (k : ℤ) (xs : List ℤ) → times k (drop n xs) ≡ drop n (times k xs)
drop-times zero k xs = refl
drop-times (suc n) k [] = refl
drop-times (suc n) k (x ∷ xs) = drop-times n k xs

row_at-behind : (n : ℕ) (rows : List Row) (i : ℕ) → row_at (map (behind n) rows) i ≡ behind n (row_at rows i)
row_at-behind n [] i = λ j. record { c = sym (drop_nothing n) j; b = pos 0 }
row_at-behind n (r ∷ rows) zero = refl
row_at-behind n (r ∷ rows) (suc i) = row_at-behind n rows i

combined_behind : (n : ℕ) (parts : List (ℕ × ℤ)) (rows : List Row) → (combined parts (map (behind n) rows)).c ≡ drop n (combined parts rows).c
combined_behind n [] rows = sym (drop_nothing n)
combined_behind n (w ∷ ws) rows =
    ap₂ (λ (r : Row) (cs : List ℤ). sum_of (times w.1 r.c) cs) (row_at-behind n rows w.0) (combined_behind n ws rows)
    ∙ ap (λ t. sum_of t (drop n (combined ws rows).c)) (drop-times n w.1 (row_at rows w.0).c)
    ∙ drop-sum_of n (times w.1 (row_at rows w.0).c) (combined ws rows).c

-- weights that leave nothing of a term behind the first columns make it there
makes_from_leaves : (n : ℕ) (rows : List Row) (t : Row) (w : Weights) → Leaves n rows t w → Makes w (map (behind n) rows) (behind n t)
makes_from_leaves n rows t w h = record {
  positive = h.positive;
  weights = h.weights;
  places = subst (λ m. All (λ part. part.0 < m) w.parts) (sym (length-map rows (behind n))) h.places;
  coefficients = λ i.
      let sum : Row = combined w.parts rows in
      let here : number_at (less_weighted t rows w).c (i + n) ≡ pos 0 = sym (drop_number n i (less_weighted t rows w).c) ∙ h.gone i in
      let both : number_at (less_weighted t rows w).c (i + n) ≡ w.den *ℤ number_at t.c (i + n) +ℤ negsuc 0 *ℤ number_at sum.c (i + n) =
      number_at-sum_of (times w.den t.c) (times (negsuc 0) sum.c) (i + n)
      ∙ ap₂ (λ a b. a +ℤ b) (number_at-times w.den t.c (i + n)) (number_at-times (negsuc 0) sum.c (i + n)) in
      let same : number_at sum.c (i + n) ≡ w.den *ℤ number_at t.c (i + n) =
      by_equations (number_at (less_weighted t rows w).c (i + n) ∷ w.den ∷ number_at t.c (i + n) ∷ number_at sum.c (i + n) ∷ [])
      (null both ⊞ negsuc 0 ⋆ null here) (search reads depth 40) tt in
      ap (λ cs. number_at cs i) (combined_behind n w.parts rows) ∙ drop_number n i sum.c ∙ same ∙ ap (λ z. w.den *ℤ z) (sym (drop_number n i t.c))
      ∙ sym (number_at-times w.den (drop n t.c) i);
}

-- ---- rows over names, behind the first names
drop-map : (f : Name → ℤ) (first others : List Name) → drop (length first) (map f (first ++ others)) ≡ map f others
drop-map f [] others = refl
drop-map f (n ∷ first) others = drop-map f first others

over_behind : (ns first others : List Name) (rows : List Row)
    → map (behind (length first)) (map (over_names ns (first ++ others)) rows) ≡ map (over_names ns others) rows
over_behind ns first others [] = refl
over_behind ns first others (r ∷ rows) =
    ap₂ ◌∷◌ (λ j. record { c = drop-map (coefficient_at ns r.c) first others j; b = r.b }) (over_behind ns first others rows)

map-append' : {A B : Type 0} (f : A → B) (xs ys : List A) → map f (xs ++ ys) ≡ map f xs ++ map f ys
map-append' f [] ys = refl
map-append' f (x ∷ xs) ys = ap (λ zs. f x ∷ zs) (map-append' f xs ys)

all_behind : (first others : List Name) (parts : List DischargedPart)
    → map (behind (length first)) (flat_map (λ e. guarantees_over (first ++ others) e.part) parts) ≡ flat_map (λ e. guarantees_over others e.part) parts
all_behind first others [] = refl
all_behind first others (e ∷ parts) =
    map-append' (behind (length first)) (guarantees_over (first ++ others) e.part) (flat_map (λ e. guarantees_over (first ++ others) e.part) parts)
    ∙ ap₂ ◌++◌ (over_behind (ports e.part) first others e.part.guarantees) (all_behind first others parts)

-- ---- parts and discharges, by their places
abbrev pub discharge_at : List Discharge → ℕ → Discharge
discharge_at [] i = record { round = 0; shifts = [] }
discharge_at (d ∷ ds) zero = d
discharge_at (d ∷ ds) (suc i) = discharge_at ds i

abbrev one_at : List Contract → List Discharge → ℕ → DischargedPart
one_at parts ds i = record { part = part_at parts i; discharge = discharge_at ds i }

all_from_each : (P : DischargedPart → Type 0) (parts : List Contract) (ds : List Discharge) → ((j : ℕ) → j < length parts → P (one_at parts ds j))
    → All P (discharged parts ds)
all_from_each P [] ds h = All-nil P
all_from_each P (p ∷ parts) [] h = All-nil P
all_from_each P (p ∷ parts) (d ∷ ds) h =
    All-cons P (record { part = p; discharge = d }) (discharged parts ds) (h 0 (omega arith)) (all_from_each P parts ds (λ j less. h (suc j) (omega arith)))

each_from_all : (P : DischargedPart → Type 0) (parts : List Contract) (ds : List Discharge) → length ds ≡ length parts → All P (discharged parts ds)
    → (j : ℕ) → j < length parts → P (one_at parts ds j)
each_from_all P [] ds one h j less = absurd (omega arith)
each_from_all P (p ∷ parts) [] one h j less = absurd (omega arith)
each_from_all P (p ∷ parts) (d ∷ ds) one h zero less = All-head P (record { part = p; discharge = d }) (discharged parts ds) h
each_from_all P (p ∷ parts) (d ∷ ds) one h (suc j) less =
    each_from_all P parts ds (omega arith) (All-tail P (record { part = p; discharge = d }) (discharged parts ds) h) j (omega arith)

-- ---- in time
module _ (parts : List Contract) (ds : List Discharge) (one : length ds ≡ length parts)
    (holds : All (DischargeHolds (names_of parts) (length (external_inputs parts)) (discharged parts ds)) (discharged parts ds)) where
  abbrev outputs : List Name
  outputs = all_outputs parts

  abbrev Before : ℕ → Type 0
  Before r = (j : ℕ) → j < length parts → (discharge_at ds j).round < r → IsDischargedBefore parts r j

  -- the guarantees of smaller rounds are those of parts that are discharged before
  from_earlier : (r k : ℕ) → k ≤ r → Before r
      → AreGuaranteesOf parts (IsDischargedBefore parts r) (earlier_guarantees (all_outputs parts) (discharged parts ds) k)
  from_earlier r k le before =
      All-flat_map IsOf (λ e. guarantees_over (all_outputs parts) e.part) (filter (λ e. nat_lt e.discharge.round k) (discharged parts ds))
      (All-filter_where (λ e. All IsOf (guarantees_over (all_outputs parts) e.part)) (λ e. nat_lt e.discharge.round k) (discharged parts ds)
      (all_from_each (λ e. nat_lt e.discharge.round k ≡ true → All IsOf (guarantees_over (all_outputs parts) e.part)) parts ds (λ j less t.
      All-weaker (Contains (guarantees_over (all_outputs parts) (part_at parts j))) IsOf
      (λ g within. (j, before j less (let below = ltb-true (discharge_at ds j).round k t in omega arith), less, within))
      (guarantees_over (all_outputs parts) (part_at parts j)) (All-contains_itself (guarantees_over (all_outputs parts) (part_at parts j))))))
    where
      IsOf : Row → Type 0
      IsOf = λ g. (j : ℕ) × IsDischargedBefore parts r j × (j < length parts) × Contains (guarantees_over (all_outputs parts) (part_at parts j)) g

  -- each assumption has its weights
  each_made : (r k : ℕ) (ns : List Name) (rows : List Row) (ws : List Weights) → k ≤ r → Before r
      → ShiftsHold (length (external_inputs parts)) (earlier_guarantees (names_of parts) (discharged parts ds) k) (map (over_names ns (names_of parts)) rows) ws
      → All (λ t. (given : List Row) × (w : Weights) × AreGuaranteesOf parts (IsDischargedBefore parts r) given × Makes w given t)
      (map (over_names ns (all_outputs parts)) rows)
  each_made r k ns [] ws le before h = All-nil (λ t. (given : List Row) × (w : Weights) × AreGuaranteesOf parts (IsDischargedBefore parts r) given
      × Makes w given t)
  each_made r k ns (t ∷ rows) [] le before h = absurd h
  each_made r k ns (t ∷ rows) (w ∷ ws) le before h =
      let n : ℕ = length (external_inputs parts) in
      let given : List Row = earlier_guarantees (names_of parts) (discharged parts ds) k in
      let makes : Makes w (map (behind n) given) (behind n (over_names ns (names_of parts) t)) =
      makes_from_leaves n given (over_names ns (names_of parts) t) w (leaves_from_shift n given (over_names ns (names_of parts) t) w h.0) in
      let term : behind n (over_names ns (names_of parts) t) ≡ over_names ns (all_outputs parts) t =
      λ j. record { c = drop-map (coefficient_at ns t.c) (external_inputs parts) (all_outputs parts) j; b = t.b } in
      let rest : map (behind n) given ≡ earlier_guarantees (all_outputs parts) (discharged parts ds) k =
      all_behind (external_inputs parts) (all_outputs parts) (filter (λ e. nat_lt e.discharge.round k) (discharged parts ds)) in
      All-cons (λ t. (given : List Row) × (w : Weights) × AreGuaranteesOf parts (IsDischargedBefore parts r) given × Makes w given t)
      (over_names ns (all_outputs parts) t) (map (over_names ns (all_outputs parts)) rows) (
        earlier_guarantees (all_outputs parts) (discharged parts ds) k,
        w,
        from_earlier r k le before,
        subst (λ u. Makes w (earlier_guarantees (all_outputs parts) (discharged parts ds) k) u) term
            (subst (λ rs. Makes w rs (behind n (over_names ns (names_of parts) t))) rest makes),
      )
      (each_made r k ns rows ws le before h.1)

  -- A part is discharged in its round or before.
  pub discharged_in_time : (r : ℕ) → Before r
  discharged_in_time zero = λ j less below. absurd (omega arith)
  discharged_in_time (suc r) =
      let before = discharged_in_time r in
      λ j less below. inr (
        less,
        each_made r (discharge_at ds j).round (part_at parts j).inputs (part_at parts j).assumptions (discharge_at ds j).shifts (omega arith) before
            (each_from_all (DischargeHolds (names_of parts) (length (external_inputs parts)) (discharged parts ds)) parts ds one holds j less),
      )
