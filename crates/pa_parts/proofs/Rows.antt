-- The rows of parts over the names of a composition: how long each is, how many there are, and those of the part at a place.
use Rattle.std.proofs.Common.{◌≡◌, ℕ, zero, suc, ◌+◌, ◌≤◌, ◌<◌, cond, List, [], ◌∷◌, ◌++◌, length, map, drop, get_or, refl, sym, ap, ◌∙◌, arith, All, ℤ, pos}
use Rattle.std.proofs.Common.{length-append}
use Rattle.std.specs.Prelude.{flat_map, sum_by}
use Rattle.std.specs.Str.{bytes_eq}
use Rattle.std.proofs.lemmas.List.{length-map, drop_more}
use Rattle.std.proofs.lemmas.List.Elements.{All-nil, All-cons, All-head, All-tail}
use Rattle.std.proofs.lemmas.List.Sums.{sum_by-cons}
use Rattle.pa_ring.proofs.Lists.{All-flat_map, All-from_contains}
use Rattle.pa_meaning.specs.Rows.{Row}
use Rattle.pa_meaning.specs.Contracts.{Name, Contract, ports, coefficient_at, over_names}
use Rattle.pa_meaning.specs.Composition.{external_inputs, names_of, part_at, assumptions_over, guarantees_over}
use Rattle.pa_meaning.proofs.Places.{coefficient_at-cons, coefficient_at-no_numbers}
use Rattle.pa_meaning.proofs.Directions.{at_part}
use Rattle.pa_contract.specs.Merge.{row_count}
use Rattle.pa_contract.specs.WellFormed.{IsWellFormed}
use Rattle.pa_holds.specs.Composed.{all_guarantees}
use Rattle.pa_parts.specs.Composing.{Ports, names_in, ArePortsOf}

-- ---- the names
pub at_names : (parts : List Contract) (ports : Ports) → ArePortsOf parts ports → names_in ports ≡ names_of parts
at_names parts ports are = ap (λ ns. ns ++ ports.outputs) are.external ∙ ap (λ ns. external_inputs parts ++ ns) are.outputs

-- ---- the part at a place
pub part_read : (parts : List Contract) (i : ℕ) (d : Contract) → i < length parts → get_or parts i d ≡ part_at parts i
part_read [] i d h = absurd (omega (arith, h))
part_read (p ∷ parts) zero d h = refl
part_read (p ∷ parts) (suc i) d h = part_read parts i d (omega (arith, h))

-- what is left of the parts from a place on
pub parts_from : (parts : List Contract) (i : ℕ) → i < length parts → drop i parts ≡ part_at parts i ∷ drop (i + 1) parts
parts_from parts i h = drop_more parts i (part_at parts i) h ∙ ap (λ p. p ∷ drop (i + 1) parts) (part_read parts i (part_at parts i) h)

-- a part has no more rows than all parts
pub rows_of_part : (parts : List Contract) (i : ℕ) → i < length parts → row_count (part_at parts i) ≤ sum_by row_count parts
rows_of_part [] i h = absurd (omega (arith, h))
rows_of_part (p ∷ parts) zero h = let sum = sum_by-cons row_count p parts in omega (arith, sum)
rows_of_part (p ∷ parts) (suc i) h = let sum = sum_by-cons row_count p parts in let rest = rows_of_part parts i (omega (arith, h)) in omega (arith, sum, rest)

-- ---- rows over other names
-- a row has no coefficient behind its own
behind : (names more : List Name) (cs : List ℤ) (n : Name) → length cs ≤ length names → coefficient_at (names ++ more) cs n ≡ coefficient_at names cs n
behind names more [] n h = coefficient_at-no_numbers (names ++ more) n ∙ sym (coefficient_at-no_numbers names n)
behind [] more (c ∷ cs) n h = absurd (omega (arith, h))
behind (m ∷ names) more (c ∷ cs) n h =
    coefficient_at-cons m (names ++ more) c cs n ∙ ap (λ t. cond (bytes_eq n m) c t) (behind names more cs n (omega (arith, h)))
    ∙ sym (coefficient_at-cons m names c cs n)

numbers_behind : (names more wider : List Name) (cs : List ℤ) → length cs ≤ length names
    → map (coefficient_at (names ++ more) cs) wider ≡ map (coefficient_at names cs) wider
numbers_behind names more [] cs h = refl
numbers_behind names more (n ∷ wider) cs h = λ i. behind names more cs n h i ∷ numbers_behind names more wider cs h i

rows_behind : (names more wider : List Name) (rows : List Row) → All (λ r. length r.c ≡ length names) rows
    → map (over_names (names ++ more) wider) rows ≡ map (over_names names wider) rows
rows_behind names more wider [] all = refl
rows_behind names more wider (r ∷ rows) all =
    let here = All-head (λ r. length r.c ≡ length names) r rows all in
    let same : over_names (names ++ more) wider r ≡ over_names names wider r =
    ap (λ cs. record { c = cs; b = r.b }) (numbers_behind names more wider r.c (omega (arith, here))) in
    λ i. same i ∷ rows_behind names more wider rows (All-tail (λ r. length r.c ≡ length names) r rows all) i

-- assumptions are over the inputs alone, so that the part's outputs say nothing of them
pub assumptions_by_ports : (p : Contract) (names : List Name) → IsWellFormed p → map (over_names (ports p) names) p.assumptions ≡ assumptions_over names p
assumptions_by_ports p names w = rows_behind p.inputs p.outputs names p.assumptions w.assumptions.columns_fit

-- ---- how long the rows are
-- a row over names has a column for each
rows_long : (names wider : List Name) (rows : List Row) → All (λ r. length r.c ≡ length wider) (map (over_names names wider) rows)
rows_long names wider [] = All-nil (λ r. length r.c ≡ length wider)
rows_long names wider (r ∷ rows) =
    All-cons (λ r. length r.c ≡ length wider) (over_names names wider r) (map (over_names names wider) rows) (length-map wider (coefficient_at names r.c))
    (rows_long names wider rows)

pub assumptions_long : (names : List Name) (p : Contract) → All (λ r. length r.c ≡ length names) (assumptions_over names p)
assumptions_long names p = rows_long p.inputs names p.assumptions

pub guarantees_long : (names : List Name) (p : Contract) → All (λ r. length r.c ≡ length names) (guarantees_over names p)
guarantees_long names p = rows_long (ports p) names p.guarantees

pub all_guarantees_long : (parts : List Contract) → All (λ r. length r.c ≡ length (names_of parts)) (all_guarantees parts)
all_guarantees_long parts =
    All-flat_map (λ r. length r.c ≡ length (names_of parts)) (guarantees_over (names_of parts)) parts
    (All-from_contains (λ p. All (λ r. length r.c ≡ length (names_of parts)) (guarantees_over (names_of parts) p)) parts
    (λ p i. guarantees_long (names_of parts) p))

-- ---- how many there are
pub assumptions_count : (names : List Name) (p : Contract) → length (assumptions_over names p) ≡ length p.assumptions
assumptions_count names p = length-map p.assumptions (over_names p.inputs names)

pub guarantees_count : (names : List Name) (p : Contract) → length (guarantees_over names p) ≡ length p.guarantees
guarantees_count names p = length-map p.guarantees (over_names (ports p) names)

guarantees_fewer : (names : List Name) (parts : List Contract) → length (flat_map (guarantees_over names) parts) ≤ sum_by row_count parts
guarantees_fewer names [] = omega arith
guarantees_fewer names (p ∷ parts) =
    let here = guarantees_count names p in
    let rest = guarantees_fewer names parts in
    let both = length-append (guarantees_over names p) (flat_map (guarantees_over names) parts) in
    let sum = sum_by-cons row_count p parts in omega arith

-- the parts have no more guarantees than rows
pub all_guarantees_few : (parts : List Contract) → length (all_guarantees parts) ≤ sum_by row_count parts
all_guarantees_few parts = guarantees_fewer (names_of parts) parts
