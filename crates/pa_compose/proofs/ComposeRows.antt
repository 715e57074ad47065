-- The rows of a composition: what is left of the assumptions is over the external inputs, and the guarantees of all parts are over all its names; neither
-- are more than those of the parts.
use Rattle.std.proofs.Common.{◌≡◌, refl, ℕ, ◌+◌, ◌≤◌, List, [], ◌∷◌, length, map, filter, flat_map, nat_lt, sum_by, arith, length-append}
use Rattle.std.proofs.lemmas.List.{length-map}
use Rattle.std.proofs.lemmas.List.Sums.{sum_by-cons}
use Rattle.std.proofs.lemmas.List.Elements.{All-nil, All-cons}
use Rattle.pa_ring.proofs.Lists.{All-flat_map, All-from_contains}
use Rattle.pa_meaning.specs.Rows.{Row}
use Rattle.pa_meaning.specs.Weights.{Weights}
use Rattle.pa_meaning.specs.Contracts.{Name, Contract, ports, coefficient_at, over_names}
use Rattle.pa_meaning.specs.Composition.{all_outputs, external_inputs, names_of, assumptions_over, guarantees_over}
use Rattle.pa_witness.specs.Shifts.{shifted_rows}
use Rattle.pa_witness.specs.Discharge.{Discharge, DischargedPart, discharged, earlier_guarantees, discharge_rows}
use Rattle.pa_witness.proofs.Widths.{HasColumns, shifted_rows_columns}
use Rattle.pa_contract.specs.Merge.{row_count}
use Rattle.pa_holds.specs.Composed.{all_guarantees, shifted_assumptions}
use Rattle.pa_holds.specs.Limits.{assumption_count, guarantee_count}

-- a row over names has a column for each
columns_over : (names wider : List Name) (rows : List Row) → HasColumns (length wider) (map (over_names names wider) rows)
columns_over names wider [] = All-nil (λ r. length r.c ≡ length wider)
columns_over names wider (r ∷ rows) =
    All-cons (λ r. length r.c ≡ length wider) (over_names names wider r) (map (over_names names wider) rows) (length-map wider (coefficient_at names r.c))
    (columns_over names wider rows)

-- ---- guarantees
guarantees_columns : (names : List Name) {A : Type 0} (part : A → Contract) (xs : List A)
    → HasColumns (length names) (flat_map (λ x. guarantees_over names (part x)) xs)
guarantees_columns names part xs =
    All-flat_map (λ r. length r.c ≡ length names) (λ x. guarantees_over names (part x)) xs
    (All-from_contains (λ x. HasColumns (length names) (guarantees_over names (part x))) xs
    (λ x i. columns_over (ports (part x)) names (part x).guarantees))

pub guarantee_columns : (parts : List Contract) → HasColumns (length (names_of parts)) (all_guarantees parts)
guarantee_columns parts = guarantees_columns (names_of parts) (λ p. p) parts

guarantees_long : (names : List Name) (parts : List Contract) → length (flat_map (guarantees_over names) parts) ≡ guarantee_count parts
guarantees_long names [] = refl
guarantees_long names (p ∷ parts) =
    let here = length-map p.guarantees (over_names (ports p) names) in
    let rest = guarantees_long names parts in
    let both = length-append (guarantees_over names p) (flat_map (guarantees_over names) parts) in
    let sum = sum_by-cons (λ (p : Contract). length p.guarantees) p parts in omega arith

pub guarantees_counted : (parts : List Contract) → length (all_guarantees parts) ≡ guarantee_count parts
guarantees_counted parts = guarantees_long (names_of parts) parts

-- ---- what is left of the assumptions
pub left_columns : (parts : List Contract) (ds : List Discharge) → HasColumns (length (external_inputs parts)) (shifted_assumptions parts ds)
left_columns parts ds =
    All-flat_map (λ r. length r.c ≡ length (external_inputs parts)) (discharge_rows (names_of parts) (length (external_inputs parts)) (discharged parts ds))
    (discharged parts ds)
    (All-from_contains (λ e. HasColumns (length (external_inputs parts))
    (discharge_rows (names_of parts) (length (external_inputs parts)) (discharged parts ds) e)) (discharged parts ds)
    (λ e i. shifted_rows_columns (length (external_inputs parts)) (length (names_of parts))
    (earlier_guarantees (names_of parts) (discharged parts ds) e.discharge.round) (assumptions_over (names_of parts) e.part) e.discharge.shifts
    (let both = length-append (external_inputs parts) (all_outputs parts) in omega arith)
    (guarantees_columns (names_of parts) (λ (d : DischargedPart). d.part)
    (filter (λ (d : DischargedPart). nat_lt d.discharge.round e.discharge.round) (discharged parts ds)))
    (columns_over e.part.inputs (names_of parts) e.part.assumptions)))

shifted_fewer : (n : ℕ) (rows ts : List Row) (ws : List Weights) → length (shifted_rows n rows ts ws) ≤ length ts
shifted_fewer n rows [] ws = omega arith
shifted_fewer n rows (t ∷ ts) [] = omega arith
shifted_fewer n rows (t ∷ ts) (w ∷ ws) = let rest = shifted_fewer n rows ts ws in omega arith

parts_fewer : (f : DischargedPart → List Row) → ((e : DischargedPart) → length (f e) ≤ length e.part.assumptions)
    → (parts : List Contract) (ds : List Discharge)
    → length (flat_map f (discharged parts ds)) ≤ assumption_count parts
parts_fewer f h [] ds = omega arith
parts_fewer f h (p ∷ parts) [] = omega arith
parts_fewer f h (p ∷ parts) (d ∷ ds) =
    let e : DischargedPart = record { part = p; discharge = d } in
    let here = h e in
    let rest = parts_fewer f h parts ds in
    let both = length-append (f e) (flat_map f (discharged parts ds)) in
    let sum = sum_by-cons (λ (p : Contract). length p.assumptions) p parts in omega arith

pub left_fewer : (parts : List Contract) (ds : List Discharge) → length (shifted_assumptions parts ds) ≤ assumption_count parts
left_fewer parts ds = parts_fewer (discharge_rows (names_of parts) (length (external_inputs parts)) (discharged parts ds)) (λ e.
    let less = shifted_fewer (length (external_inputs parts)) (earlier_guarantees (names_of parts) (discharged parts ds) e.discharge.round)
    (assumptions_over (names_of parts) e.part) e.discharge.shifts in
    let all = length-map e.part.assumptions (over_names e.part.inputs (names_of parts)) in omega arith) parts ds

-- ---- all rows
pub rows_counted : (parts : List Contract) → assumption_count parts + guarantee_count parts ≡ sum_by row_count parts
rows_counted [] = refl
rows_counted (p ∷ parts) =
    let assumptions = sum_by-cons (λ (p : Contract). length p.assumptions) p parts in
    let guarantees = sum_by-cons (λ (p : Contract). length p.guarantees) p parts in
    let all = sum_by-cons row_count p parts in
    let rest = rows_counted parts in omega arith
