-- A loaded tableau is where a run begins, and holds its problem.
use Rattle.std.proofs.Common.{◌≡◌, ℕ, ◌<◌, ◌≤◌, ◌+◌, ◌-◌, ◌==◌, ◌⊎◌, inl, inr, Bool, true, false, if◌then◌else◌, int_lt, ℤ, neg_ℤ, pos}
use Rattle.std.proofs.Common.{List, [], ◌∷◌, ◌++◌, length, get_or, replicate, Ok, refl, sym, ap, ap₂, subst, ◌∙◌, arith, zero-add}
use Rattle.std.specs.List.{range_with_len}
use Rattle.std.proofs.lemmas.Int.{ints}
use Rattle.std.proofs.lemmas.List.{get_or_append_left, get_or_past, get_or-map, get_or-replicate, length-append, length-map, length-replicate}
use Rattle.std.proofs.lemmas.List.FromFn.{get_or-map-range_with_len, get_or-range_with_len, length-map-range_with_len, length-range_with_len}
use Rattle.std.proofs.Math.Seq.{get_or-append_right}
use Rattle.pa_ring.specs.Sums as whole_numbers
use Rattle.pa_math.specs.Answers.{and_then}
use Rattle.pa_math.specs.Rational.{ℚ, whole, neg_ℚ, ◌+ℚ◌, ◌-ℚ◌, ◌*ℚ◌}
use Rattle.pa_math.specs.RationalOrder.{◌≤ℚ◌}
use Rattle.pa_math.proofs.Rationals.{whole-neg_ℤ}
use Rattle.pa_math.proofs.RationalOrders.{whole-≤ℤ}
use Rattle.pa_math.proofs.RationalTactics.{by_ring, reads}
use Rattle.pa_meaning.specs.Rows.{Row}
use Rattle.pa_row.proofs.Dots.{and_then_ok}
use Rattle.pa_tableau.specs.Arithmetic.{Arithmetic, each}
use Rattle.pa_tableau.specs.Tableau.{Tableau, cell, line_at, number_at, told_at}
use Rattle.pa_tableau.proofs.Walks.{ok_same}
use Rattle.pa_replay.specs.Problem.{Problem, bounds, cost_in, is_turned, line_numbers, loaded, loaded_line, running_sum, turned_number, unit_numbers}
use Rattle.pa_replay.specs.Replay.{basic}
use Rattle.pa_replay.proofs.Sums.{total, total_same, total_less, total_zeros, unit, unit_here, unit_other}
use Rattle.pa_replay.proofs.Basics.{IsFirstCost}
use Rattle.pa_replay.proofs.Bridges.{IsRectangle, IsSound, cells_of, each_at, each_length}
use Rattle.pa_replay.proofs.LoadSteps.{cost_step, line_step, tableau_of}
use Rattle.pa_replay.proofs.LoadedFacts.{IsFaithful, IsLine, IsLoaded, cost_row, line_of_table, line_parts, loaded_parts}
use Rattle.pa_replay.proofs.LoadedFacts.{numbers_at, place_own, place_past, place_unit, place_value, running_total}
use Rattle.pa_replay.proofs.Loads.{IsStart}
use Rattle.pa_replay.proofs.Theorems.{HoldsProblem}
use Rattle.pa_replay.proofs.Weighted.{HasUnits}

-- ---- the problem in fractions
-- the row at a place
abbrev pub row_of : Problem → ℕ → Row
row_of p j = get_or p.rows j (record { c = []; b = pos 0 })

abbrev pub row_number : Problem → ℕ → ℕ → ℚ
row_number p j k = whole (whole_numbers.number_at (row_of p j).c k)

abbrev pub row_bound : Problem → ℕ → ℚ
row_bound p j = whole (row_of p j).b

abbrev pub target_number : Problem → ℕ → ℚ
target_number p k = whole (whole_numbers.number_at p.target k)

-- the sign of a line
abbrev pub sign_of : Problem → ℕ → ℚ
sign_of p k = if is_turned p.target k then neg_ℚ (whole (pos 1)) else whole (pos 1)

signed_number : (p : Problem) (k : ℕ) (z : ℤ) → whole (turned_number p.target k z) ≡ sign_of p k *ℚ whole z
signed_number p k z = elim (is_turned p.target k) as (λ b. whole (if b then neg_ℤ z else z) ≡
    (if b then neg_ℚ (whole (pos 1)) else whole (pos 1)) *ℚ whole z) [
      | true ↦ whole-neg_ℤ z
          ∙ by_ring (whole z ∷ []) (search reads depth 40) tt
      | false ↦ by_ring (whole z ∷ []) (search reads depth 40) tt
    ]

sign_square : (p : Problem) (k : ℕ) → sign_of p k *ℚ sign_of p k ≡ whole (pos 1)
sign_square p k = elim (is_turned p.target k) as (λ b. (if b then neg_ℚ (whole (pos 1)) else whole (pos 1)) *ℚ
    (if b then neg_ℚ (whole (pos 1)) else whole (pos 1)) ≡ whole (pos 1)) [
      | true ↦ by_ring [] (search reads depth 40) tt
      | false ↦ by_ring []
          (search reads depth 40) tt
    ]

-- ---- the lines
line_at_place : (A : Arithmetic) (p : Problem) (t : Tableau) (k : ℕ) → IsFaithful A → (h : IsLoaded A p t) → k < length p.target →
    IsLine A p k (get_or h.lines k [])
line_at_place A p t k f h low =
    let inside : k < length (range_with_len 0 (length p.target)) = rw length-range_with_len low in
    line_parts A p k (get_or h.lines k []) f (each_at (line_step A p) 0 (range_with_len 0 (length p.target)) h.lines h.lines_are k 0 [] inside
    ∙ ap (loaded_line A p) (zero-add k))

lines_count : (A : Arithmetic) (p : Problem) (t : Tableau) (h : IsLoaded A p t) → length h.lines ≡ length p.target
lines_count A p t h = each_length (line_step A p) 0 (range_with_len 0 (length p.target)) h.lines h.lines_are ∙ length-range_with_len 0 (length p.target)

cell_of_line : (A : Arithmetic) (p : Problem) (t : Tableau) (k j : ℕ) (h : IsLoaded A p t) → k < length p.target →
    cell t k j ≡ number_at (get_or h.lines k []) j
cell_of_line A p t k j h low = ap (λ (t : Tableau). cell t k j) h.table
    ∙ ap (λ line. number_at line j) (line_of_table p h.lines h.costs h.first k (lines_count A p t h) low)

units_count : (p : Problem) (k : ℕ) → length (unit_numbers (length p.target) k) ≡ length p.target
units_count p k = length-map-range_with_len (λ i. if i == k then whole (pos 1) else whole (pos 0)) 0 (length p.target)

own_cell : (A : Arithmetic) (p : Problem) (t : Tableau) (k j : ℕ) → IsFaithful A → IsLoaded A p t → k < length p.target → j < length p.rows →
    cell t k j ≡ sign_of p k *ℚ row_number p j k
own_cell A p t k j f h low inside =
    let l = line_at_place A p t k f h low in
    let units : List ℚ = unit_numbers (length p.target) k in
    cell_of_line A p t k j h low ∙ ap (λ line. number_at line j) l.line_is ∙ place_own l.own units l.value (length p.rows) j l.long inside
    ∙ numbers_at A k (line_numbers p k) l.own f l.own_is j (rw length-map inside)
    ∙ ap whole (get_or-map (λ (row : Row). turned_number p.target k (whole_numbers.number_at row.c k)) p.rows j (record { c = []; b = pos 0 }) (pos 0) inside)
    ∙ signed_number p k (whole_numbers.number_at (row_of p j).c k)

unit_cell : (A : Arithmetic) (p : Problem) (t : Tableau) (k i : ℕ) → IsFaithful A → IsLoaded A p t → k < length p.target → i < length p.target →
    cell t k (length p.rows + i) ≡ unit k i
unit_cell A p t k i f h low below =
    let l = line_at_place A p t k f h low in
    cell_of_line A p t k (length p.rows + i) h low ∙ ap (λ line. number_at line (length p.rows + i)) l.line_is
    ∙ place_unit l.own (unit_numbers (length p.target) k) l.value (length p.target) (length p.rows) i l.long (units_count p k) below
    ∙ get_or-map-range_with_len (λ i. if i == k then whole (pos 1) else whole (pos 0)) 0 (length p.target) i i (whole (pos 0)) below (zero-add i)

value_turned : (A : Arithmetic) (p : Problem) (t : Tableau) (k : ℕ) → IsFaithful A → IsLoaded A p t → k < length p.target →
    cell t k (length p.target + length p.rows) ≡ whole (turned_number p.target k (whole_numbers.number_at p.target k))
value_turned A p t k f h low =
    let l = line_at_place A p t k f h low in
    cell_of_line A p t k (length p.target + length p.rows) h low ∙ ap (λ line. number_at line (length p.target + length p.rows)) l.line_is
    ∙ place_value l.own (unit_numbers (length p.target) k) l.value (length p.target) (length p.rows) l.long (units_count p k) ∙ l.value_is

past_cell : (A : Arithmetic) (p : Problem) (t : Tableau) (k j : ℕ) → IsFaithful A → IsLoaded A p t → k < length p.target →
    length p.target + length p.rows < j → cell t k j ≡ whole (pos 0)
past_cell A p t k j f h low past =
    let l = line_at_place A p t k f h low in
    cell_of_line A p t k j h low ∙ ap (λ line. number_at line j) l.line_is
    ∙ place_past l.own (unit_numbers (length p.target) k) l.value (length p.target) (length p.rows) j l.long (units_count p k) past

-- what is turned is not negative
turned_nonneg : (p : Problem) (k : ℕ) → whole (pos 0) ≤ℚ whole (turned_number p.target k (whole_numbers.number_at p.target k))
turned_nonneg p k = by_sign (is_turned p.target k) refl
  where
    by_sign : (b : Bool) → int_lt (whole_numbers.number_at p.target k) (pos 0) ≡ b →
        whole (pos 0) ≤ℚ whole (if b then neg_ℤ (whole_numbers.number_at p.target k) else whole_numbers.number_at p.target k)
    by_sign true e = whole-≤ℤ (search (arith, ints, e))
    by_sign false e = whole-≤ℤ (search (arith, ints, e))

-- ---- cost row 1
pub record IsFirst (A : Arithmetic) (p : Problem) (t : Tableau) : Type 0 where
  pub own : (j : ℕ) → j < length p.rows → cell t (length p.target) j ≡ neg_ℚ (total (length p.target) (λ k. cell t k j))
  pub units : (i : ℕ) → i < length p.target → cell t (length p.target) (length p.rows + i) ≡ whole (pos 0)
  pub value : cell t (length p.target) (length p.target + length p.rows) ≡ neg_ℚ (total (length p.target) (λ k. cell t k (length p.target + length p.rows)))
  pub past : (j : ℕ) → length p.target + length p.rows < j → cell t (length p.target) j ≡ whole (pos 0)

cost_total : (A : Arithmetic) (p : Problem) (t : Tableau) (j : ℕ) (q : ℚ) → IsSound A → (h : IsLoaded A p t) → Ok q ≡ cost_in A (length p.target) h.lines j →
    q ≡ neg_ℚ (total (length p.target) (λ k. cell t k j))
cost_total A p t j q sound h e =
    let n : ℕ = length p.target in
    let (s, sum_is, made) = and_then_ok (running_sum A n j (whole (pos 0)) h.lines) (λ sum. Ok (neg_ℚ sum)) q e in
    let all : s ≡ whole (pos 0) +ℚ total (length h.lines) (λ k. number_at (get_or h.lines k []) j) = running_total A n j
    (whole (pos 0)) s h.lines sound sum_is in
    let same : total (length h.lines) (λ k. number_at (get_or h.lines k []) j) ≡ total n (λ k. cell t k j) =
    ap (λ n. total n (λ k. number_at (get_or h.lines k []) j)) (lines_count A p t h)
    ∙ total_same n (λ k. number_at (get_or h.lines k []) j) (λ k. cell t k j) (λ k low. sym (cell_of_line A p t k j h low)) in
    ok_same q (neg_ℚ s) made ∙ ap neg_ℚ (all ∙ ap (λ t. whole (pos 0) +ℚ t) same ∙ by_ring (total n (λ k. cell t k j) ∷ []) (search reads depth 40) tt)

cell_of_first : (A : Arithmetic) (p : Problem) (t : Tableau) (j : ℕ) (h : IsLoaded A p t) → cell t (length p.target) j ≡ number_at h.first j
cell_of_first A p t j h =
    let place : length p.target ≡ length p.target + 0 = omega arith in
    ap (λ (t : Tableau). cell t (length p.target) j) h.table ∙ ap (λ i. cell (tableau_of p h.lines h.costs h.first) i j) place
    ∙ ap (λ line. number_at line j) (cost_row p h.lines h.costs h.first 0 (lines_count A p t h))

first_parts : (A : Arithmetic) (p : Problem) (t : Tableau) → IsSound A → IsLoaded A p t → IsFirst A p t
first_parts A p t sound h =
    let n : ℕ = length p.target in
    let m : ℕ = length p.rows in
    let (own, own_is, rest) = and_then_ok (each (λ i j. cost_in A n h.lines j) 0 (range_with_len 0 m))
    (λ own. and_then (cost_in A n h.lines (n + m)) (λ value. Ok (own ++ replicate n (whole (pos 0)) ++ value ∷ []))) h.first h.first_is in
    let (value, value_is, made) = and_then_ok (cost_in A n h.lines (n + m)) (λ value. Ok (own ++ replicate n (whole (pos 0)) ++ value ∷ [])) h.first rest in
    let zeros : List ℚ = replicate n (whole (pos 0)) in
    let count : length zeros ≡ n = length-replicate n (whole (pos 0)) in
    let first : h.first ≡ own ++ zeros ++ value ∷ [] = ok_same h.first (own ++ zeros ++ value ∷ []) made in
    let long : length own ≡ m = each_length (cost_step A n h.lines) 0 (range_with_len 0 m) own own_is ∙ length-range_with_len 0 m in
    let read : (j : ℕ) → cell t n j ≡ number_at (own ++ zeros ++ value ∷ []) j = λ j. cell_of_first A p t j h ∙ ap (λ line. number_at line j) first in
    record {
      own = λ j low. read j ∙ place_own own zeros value m j long low
          ∙ cost_total A p t j (number_at own j) sound h
          (each_at (cost_step A n h.lines) 0 (range_with_len 0 m) own own_is j 0 (whole (pos 0)) (rw length-range_with_len low)
          ∙ ap (cost_in A n h.lines) (get_or-range_with_len 0 m j 0 low ∙ zero-add j));
      units = λ i low. read (m + i) ∙ place_unit own zeros value n m i long count low ∙ get_or-replicate n i (whole (pos 0)) (whole (pos 0)) low;
      value = read (n + m) ∙ place_value own zeros value n m long count ∙ cost_total A p t (n + m) value sound h value_is;
      past = λ j past. read j ∙ place_past own zeros value n m j long count past;
    }

-- ---- cost row 2
cell_of_second : (A : Arithmetic) (p : Problem) (t : Tableau) (j : ℕ) (h : IsLoaded A p t) →
    cell t (length p.target + 1) j ≡ number_at (h.costs ++ replicate (length p.target + 1) (whole (pos 0))) j
cell_of_second A p t j h = ap (λ (t : Tableau). cell t (length p.target + 1) j) h.table
    ∙ ap (λ line. number_at line j) (cost_row p h.lines h.costs h.first 1 (lines_count A p t h))

costs_count : (A : Arithmetic) (p : Problem) (t : Tableau) (h : IsLoaded A p t) → length h.costs ≡ length p.rows
costs_count A p t h = each_length (λ j z. told_at 0 (length p.target + 1) j (A.fraction (whole z))) 0 (bounds p) h.costs h.costs_are ∙ rw length-map refl

bound_cell : (A : Arithmetic) (p : Problem) (t : Tableau) (j : ℕ) → IsFaithful A → IsLoaded A p t → j < length p.rows →
    cell t (length p.target + 1) j ≡ row_bound p j
bound_cell A p t j f h low =
    let inside : j < length h.costs = (let count = costs_count A p t h in omega (arith, count, low)) in
    cell_of_second A p t j h ∙ get_or_append_left h.costs (replicate (length p.target + 1) (whole (pos 0))) (whole (pos 0)) j inside
    ∙ numbers_at A (length p.target + 1) (bounds p) h.costs f h.costs_are j (rw length-map low)
    ∙ ap whole (get_or-map (λ (row : Row). row.b) p.rows j (record { c = []; b = pos 0 }) (pos 0) low)

no_bound : (A : Arithmetic) (p : Problem) (t : Tableau) (i : ℕ) → IsLoaded A p t → i < length p.target + 1 →
    cell t (length p.target + 1) (length p.rows + i) ≡ whole (pos 0)
no_bound A p t i h low =
    let count = costs_count A p t h in
    let place : length p.rows + i - length h.costs ≡ i = omega (arith, count) in
    cell_of_second A p t (length p.rows + i) h ∙ get_or-append_right h.costs (replicate (length p.target + 1) (whole (pos 0))) (length p.rows + i)
    (whole (pos 0)) (omega (arith, count))
    ∙ ap (number_at (replicate (length p.target + 1) (whole (pos 0)))) place ∙ get_or-replicate (length p.target + 1) i (whole (pos 0)) (whole (pos 0)) low

-- ---- its form
table_count : (A : Arithmetic) (p : Problem) (t : Tableau) → IsLoaded A p t → length t.lines ≡ length p.target + 2
table_count A p t h =
    let count = lines_count A p t h in
    ap (λ (t : Tableau). length t.lines) h.table ∙ rw length-append (omega (arith, count))

line_length : (A : Arithmetic) (p : Problem) (t : Tableau) → IsFaithful A → IsSound A → (h : IsLoaded A p t) →
    IsRectangle (length p.target + length p.rows + 1) t.lines
line_length A p t f sound h i low =
    (let count = table_count A p t h in by_place i (omega (arith, low, count)) (below_or_past i (length p.target)) (same_or_not i (length p.target)))
  where
    n : ℕ
    n = length p.target

    m : ℕ
    m = length p.rows

    below_or_past : (k n : ℕ) → (k < n) ⊎ (n ≤ k)
    below_or_past k n = search arith

    same_or_not : (i l : ℕ) → (i ≡ l) ⊎ (i ≡ l → ⊥)
    same_or_not i l = search arith

    parts_length : (own units : List ℚ) (value : ℚ) → length own ≡ m → length units ≡ n → length (own ++ units ++ value ∷ []) ≡ n + m + 1
    parts_length own units value long count = rw (length-append, length-append) (omega (arith, long, count))

    by_place : (i : ℕ) → i < n + 2 → (i < n) ⊎ (n ≤ i) → (i ≡ n) ⊎ (i ≡ n → ⊥) → length (get_or t.lines i []) ≡ n + m + 1
    by_place i end (inl below) d =
        let l = line_at_place A p t i f h below in
        ap (λ (t : Tableau). length (line_at t i)) h.table ∙ ap length (line_of_table p h.lines h.costs h.first i (lines_count A p t h) below ∙ l.line_is)
        ∙ parts_length l.own (unit_numbers n i) l.value l.long (units_count p i)
    by_place i end (inr past) (inl e) =
        let place : i ≡ n + 0 = omega (arith, e) in
        let (own, own_is, rest) = and_then_ok (each (λ i j. cost_in A n h.lines j) 0 (range_with_len 0 m))
        (λ own. and_then (cost_in A n h.lines (n + m)) (λ value. Ok (own ++ replicate n (whole (pos 0)) ++ value ∷ []))) h.first h.first_is in
        let (value, value_is, made) = and_then_ok (cost_in A n h.lines (n + m)) (λ value. Ok (own ++ replicate n (whole (pos 0)) ++ value ∷ [])) h.first rest in
        ap (λ (t : Tableau). length (line_at t i)) h.table ∙ ap (λ i. length (line_at (tableau_of p h.lines h.costs h.first) i)) place
        ∙ ap length (cost_row p h.lines h.costs h.first 0 (lines_count A p t h) ∙ ok_same h.first (own ++ replicate n (whole (pos 0)) ++ value ∷ []) made)
        ∙ parts_length own (replicate n (whole (pos 0))) value
        (each_length (cost_step A n h.lines) 0 (range_with_len 0 m) own own_is ∙ length-range_with_len 0 m) (length-replicate n (whole (pos 0)))
    by_place i end (inr past) (inr d) =
        let place : i ≡ n + 1 = grind (arith, d, past, end) in
        let count = costs_count A p t h in
        ap (λ (t : Tableau). length (line_at t i)) h.table ∙ ap (λ i. length (line_at (tableau_of p h.lines h.costs h.first) i)) place
        ∙ ap length (cost_row p h.lines h.costs h.first 1 (lines_count A p t h)) ∙ rw (length-append, length-replicate) (omega (arith, count))

-- ---- the three records
pub loaded_start : (A : Arithmetic) (p : Problem) (t : Tableau) → IsSound A → IsFaithful A → Ok t ≡ loaded A p → IsStart (length p.target) (length p.rows) t
loaded_start A p t sound f e =
    let h : IsLoaded A p t = loaded_parts A p t e in
    let first : IsFirst A p t = first_parts A p t sound h in
    record {
      count = table_count A p t h;
      rectangle = line_length A p t f sound h;
      basis = ap (λ (t : Tableau). length t.basis) h.table ∙ length-range_with_len (length p.rows) (length p.target);
      basic_columns = λ k low. ap (λ (t : Tableau). basic t k) h.table ∙ get_or-range_with_len (length p.rows) (length p.target) k 0 low;
      units = λ k i low below. unit_cell A p t k i f h low below;
      costs = λ q i above low. by_row q i low above first h (table_count A p t h) (same_or_not q (length p.target)) (same_or_not q (length p.target + 1));
      values = λ i low. subst (λ q. whole (pos 0) ≤ℚ q) (sym (value_turned A p t i f h low)) (turned_nonneg p i);
    }
  where
    same_or_not : (i l : ℕ) → (i ≡ l) ⊎ (i ≡ l → ⊥)
    same_or_not i l = search arith

    by_row : (q i : ℕ) → i < length p.target → length p.target ≤ q → IsFirst A p t → IsLoaded A p t → length t.lines ≡ length p.target + 2 →
        (q ≡ length p.target) ⊎ (q ≡ length p.target → ⊥) →
        (q ≡ length p.target + 1) ⊎ (q ≡ length p.target + 1 → ⊥) → cell t q (length p.rows + i) ≡ whole (pos 0)
    by_row q i low above first h count (inl s) d = ap (λ q. cell t q (length p.rows + i)) s ∙ first.units i low
    by_row q i low above first h count (inr d) (inl s) = ap (λ q. cell t q (length p.rows + i)) s ∙ no_bound A p t i h (omega (arith, low))
    by_row q i low above first h count (inr d) (inr s) =
        let past : length t.lines ≤ q = grind (arith, d, s, above, count) in
        ap (λ line. number_at line (length p.rows + i)) (get_or_past t.lines q [] past)

first_cost_is_sum : (A : Arithmetic) (p : Problem) (t : Tableau) → IsFaithful A → IsLoaded A p t → IsFirst A p t →
    IsFirstCost (length p.target) (length p.rows) (cells_of t) (cells_of t (length p.target))
first_cost_is_sum A p t f h first = record {
  is = λ j. by_place j (below_or_past j (length p.rows)) (below_or_past j (length p.target + length p.rows))
      (below_or_past (length p.target + length p.rows) j);
}
  where
    n : ℕ
    n = length p.target

    m : ℕ
    m = length p.rows

    below_or_past : (k n : ℕ) → (k < n) ⊎ (n ≤ k)
    below_or_past k n = search arith

    apart : (j : ℕ) → ((k : ℕ) → k < n → j ≡ m + k → ⊥) → neg_ℚ (total n (λ k. cell t k j)) ≡ total n (λ k. unit (m + k) j -ℚ whole (pos 1) *ℚ cell t k j)
    apart j away =
        let none : total n (λ k. unit (m + k) j) ≡ whole (pos 0) = total_same n (λ k. unit (m + k) j) (λ k. whole (pos 0))
        (λ k low. unit_other (m + k) j (away k low)) ∙ total_zeros n in
        by_ring (total n (λ k. cell t k j) ∷ []) (search reads depth 40) tt
        ∙ ap (λ u. u -ℚ whole (pos 1) *ℚ total n (λ k. cell t k j)) (sym none) ∙ sym (total_less n (whole (pos 1)) (λ k. unit (m + k) j) (λ k. cell t k j))

    by_place : (j : ℕ) → (j < m) ⊎ (m ≤ j) → (j < n + m) ⊎ (n + m ≤ j) → (n + m < j) ⊎ (j ≤ n + m) →
        cell t n j ≡ total n (λ k. unit (m + k) j -ℚ whole (pos 1) *ℚ cell t k j)
    by_place j (inl low) d c = first.own j low ∙ apart j (λ k below e. omega (arith, e, low))
    by_place j (inr past) (inl low) c =
        let i : ℕ = j - m in
        let place : j ≡ m + i = omega (arith, past) in
        let below : i < n = omega (arith, past, low) in
        ap (cell t n) place ∙ first.units i below
        ∙ sym (total_same n (λ k. unit (m + k) j -ℚ whole (pos 1) *ℚ cell t k j) (λ k. whole (pos 0))
        (λ k inside. ap (λ j. unit (m + k) j -ℚ whole (pos 1) *ℚ cell t k j) place
        ∙ ap₂ (λ u c. u -ℚ whole (pos 1) *ℚ c) (shifted k i) (unit_cell A p t k i f h inside below) ∙ by_ring (unit k i ∷ []) (search reads depth 40) tt)
        ∙ total_zeros n)
      where
        shifted : (k i : ℕ) → unit (m + k) (m + i) ≡ unit k i
        shifted k i = by_same (same_or_not i k)
          where
            same_or_not : (i l : ℕ) → (i ≡ l) ⊎ (i ≡ l → ⊥)
            same_or_not i l = search arith

            by_same : (i ≡ k) ⊎ (i ≡ k → ⊥) → unit (m + k) (m + i) ≡ unit k i
            by_same (inl e) = ap (λ i. unit (m + k) (m + i)) e ∙ unit_here (m + k) ∙ sym (ap (unit k) e ∙ unit_here k)
            by_same (inr d) = unit_other (m + k) (m + i) (λ e. d (omega (arith, e))) ∙ sym (unit_other k i d)
    by_place j (inr past) (inr end) (inl beyond) =
        first.past j beyond
        ∙ by_ring [] (search reads depth 40) tt ∙ ap neg_ℚ (sym
        (total_same n (λ k. cell t k j) (λ k. whole (pos 0)) (λ k low. past_cell A p t k j f h low beyond) ∙ total_zeros n))
        ∙ apart j (λ k below e. omega (arith, e, beyond, below))
    by_place j (inr past) (inr end) (inr here) =
        let place : j ≡ n + m = omega (arith, end, here) in
        ap (cell t n) place ∙ first.value ∙ ap (λ j. neg_ℚ (total n (λ k. cell t k j))) (sym place) ∙ apart j (λ k below e. omega (arith, e, end, below))

pub loaded_problem : (A : Arithmetic) (p : Problem) (t : Tableau) → IsSound A → IsFaithful A → Ok t ≡ loaded A p →
    HoldsProblem (length p.target) (length p.rows) (sign_of p) (row_number p) (target_number p) (row_bound p) t
loaded_problem A p t sound f e =
    let h : IsLoaded A p t = loaded_parts A p t e in
    record {
      rows = λ k j low inside. own_cell A p t k j f h low inside;
      value = λ k low. value_turned A p t k f h low ∙ signed_number p k (whole_numbers.number_at p.target k);
      first = first_cost_is_sum A p t f h (first_parts A p t sound h);
      bounds = λ j low. bound_cell A p t j f h low;
      bounds_value = (let place : length p.target + length p.rows ≡ length p.rows + length p.target = omega arith in ap (cell t (length p.target + 1)) place
          ∙ no_bound A p t (length p.target) h (omega arith));
    }

pub loaded_units : (A : Arithmetic) (p : Problem) (t : Tableau) → IsFaithful A → Ok t ≡ loaded A p → HasUnits (length p.target) (length p.rows) (sign_of p) t
loaded_units A p t f e =
    let h : IsLoaded A p t = loaded_parts A p t e in
    record {
      signs = sign_square p;
      units = λ k i low below. unit_cell A p t k i f h low below;
      no_costs = λ i low. no_bound A p t i h (omega (arith, low));
    }
