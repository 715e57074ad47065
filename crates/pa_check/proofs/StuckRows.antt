-- What the tests of stuck rows tell.
use Rattle.std.proofs.Common.{◌≡◌, refl, sym, ap, ◌∙◌, subst, ℕ, zero, suc, ◌<◌, List, [], ◌∷◌, ◌++◌, length, get_or, nat_lt, Bool, true, ◌&&◌, ◌≤◌}
use Rattle.std.proofs.Common.{false, map, Result, Ok, All, AllPairs, Decides, IfOk, arith}
use Rattle.std.proofs.lemmas.Bool.Decides.{Decides-by_and, Decides-ltb, Decides-like, Decides-and}
use Rattle.std.proofs.lemmas.List.Elements.{All-nil, All-cons, All-head, All-tail, All-append}
use Rattle.std.proofs.lemmas.List.Kept.{AllPairs-cons}
use Rattle.std.specs.List.{list_all}
use Rattle.std.proofs.lemmas.List.{length-map}
use Rattle.pa_frac.specs.declared.wide.Wide.{Wide}
use Rattle.pa_meaning.specs.Rows.{Row, row_at}
use Rattle.pa_meaning.specs.Directions.{Stuck, Sticks}
use Rattle.pa_check.specs.Tests.{both, Tells}
use Rattle.pa_check.specs.Directions.{sticks_in}
use Rattle.pa_check.specs.StuckRows.{rows_at, stuck_at, is_part_above, is_row_placed, stuck_in, circle_from, circle_in, AreStuck}
use Rattle.pa_check.proofs.Tests.{tells_sure, tells_like, tells_both, told}
use Rattle.pa_check.proofs.Directions.{sticks_tells}

-- a stuck row after these is placed
record IsPlacedAfter (parts : List (List Row)) (done : List Stuck) (s : Stuck) : Type 0 where
  above : All (λ e. e.part < s.part) done
  part : s.part < length parts
  row : s.row < length (rows_at parts s.part)

placed_decides : (parts : List (List Row)) (done : List Stuck) (s : Stuck) → Decides (is_row_placed parts done s.part s.row) (IsPlacedAfter parts done s)
placed_decides parts done s =
    Decides-like (is_row_placed parts done s.part s.row) (λ h. record { above = h.0.0; part = h.0.1; row = h.1 }) (λ h. ((h.above, h.part), h.row))
    (Decides-and (is_part_above done s.part && nat_lt s.part (length parts)) (nat_lt s.row (length (rows_at parts s.part)))
    (Decides-and (is_part_above done s.part) (nat_lt s.part (length parts))
    (Decides-by_and (λ e. nat_lt e.part s.part) (λ e. e.part < s.part) (λ xs. list_all (λ e. nat_lt e.part s.part) xs) (λ e. Decides-ltb e.part s.part) refl
    (λ x xs. refl) done)
    (Decides-ltb s.part (length parts))) (Decides-ltb s.row (length (rows_at parts s.part))))

-- the stuck rows after these
record Rest (given : List Row) (parts : List (List Row)) (done stuck : List Stuck) : Type 0 where
  ascending : AllPairs (λ (s t : Stuck). s.part < t.part) stuck
  above : All (λ s. All (λ e. e.part < s.part) done) stuck
  parts_placed : All (λ s. s.part < length parts) stuck
  rows_placed : All (λ s. s.row < length (rows_at parts s.part)) stuck
  sticks : All (λ s. Sticks s.direction given (stuck_at parts s)) stuck

split_above : (done : List Stuck) (s e : Stuck) → All (λ x. x.part < e.part) (done ++ s ∷ []) → All (λ x. x.part < e.part) done × (s.part < e.part)
split_above [] s e a = (All-nil (λ x. x.part < e.part), All-head (λ x. x.part < e.part) s [] a)
split_above (x ∷ done) s e a =
    let rest = split_above done s e (All-tail (λ x. x.part < e.part) x (done ++ s ∷ []) a) in
    (All-cons (λ x. x.part < e.part) x done (All-head (λ x. x.part < e.part) x (done ++ s ∷ []) a) rest.0, rest.1)

rest_cons : (given : List Row) (parts : List (List Row)) (done : List Stuck) (s : Stuck) (stuck : List Stuck)
    → (IsPlacedAfter parts done s × Sticks s.direction given (stuck_at parts s)) × Rest given parts (done ++ s ∷ []) stuck → Rest given parts done (s ∷ stuck)
rest_cons given parts done s stuck h = record {
  ascending = AllPairs-cons (λ (s t : Stuck). s.part < t.part) s stuck (λ k e l. (split_above done s (get_or stuck k e) (h.1.above k e l)).1) h.1.ascending;
  above = All-cons (λ s. All (λ e. e.part < s.part) done) s stuck h.0.0.above (λ k e l. (split_above done s (get_or stuck k e) (h.1.above k e l)).0);
  parts_placed = All-cons (λ s. s.part < length parts) s stuck h.0.0.part h.1.parts_placed;
  rows_placed = All-cons (λ s. s.row < length (rows_at parts s.part)) s stuck h.0.0.row h.1.rows_placed;
  sticks = All-cons (λ s. Sticks s.direction given (stuck_at parts s)) s stuck h.0.1 h.1.sticks;
}

rest_parts : (given : List Row) (parts : List (List Row)) (done : List Stuck) (s : Stuck) (stuck : List Stuck)
    → Rest given parts done (s ∷ stuck) → (IsPlacedAfter parts done s × Sticks s.direction given (stuck_at parts s)) × Rest given parts (done ++ s ∷ []) stuck
rest_parts given parts done s stuck h = (
  (
    record {
      above = All-head (λ s. All (λ e. e.part < s.part) done) s stuck h.above;
      part = All-head (λ s. s.part < length parts) s stuck h.parts_placed;
      row = All-head (λ s. s.row < length (rows_at parts s.part)) s stuck h.rows_placed;
    },
    All-head (λ s. Sticks s.direction given (stuck_at parts s)) s stuck h.sticks,
  ),
  record {
    ascending = λ i j x l m. h.ascending (suc i) (suc j) x (omega arith) (omega arith);
    above = λ k e l. All-append (λ x. x.part < (get_or stuck k e).part) done (s ∷ []) (All-tail (λ s. All (λ e. e.part < s.part) done) s stuck h.above k e l)
        (All-cons (λ x. x.part < (get_or stuck k e).part) s [] (h.ascending 0 (suc k) e (omega arith) (omega arith))
        (All-nil (λ x. x.part < (get_or stuck k e).part)));
    parts_placed = All-tail (λ s. s.part < length parts) s stuck h.parts_placed;
    rows_placed = All-tail (λ s. s.row < length (rows_at parts s.part)) s stuck h.rows_placed;
    sticks = All-tail (λ s. Sticks s.direction given (stuck_at parts s)) s stuck h.sticks;
  },
)

from_tells : (given : List Row) (parts : List (List Row)) (done stuck : List Stuck) → Tells (circle_from given parts done stuck) (Rest given parts done stuck)
from_tells given parts done [] = tells_sure true (
  λ e. record {
    ascending = λ i j x l m. absurd (omega arith);
    above = All-nil (λ s. All (λ e. e.part < s.part) done);
    parts_placed = All-nil (λ s. s.part < length parts);
    rows_placed = All-nil (λ s. s.row < length (rows_at parts s.part));
    sticks = All-nil (λ s. Sticks s.direction given (stuck_at parts s));
  },
  λ h. refl,
)
from_tells given parts done (s ∷ stuck) =
    tells_like (circle_from given parts done (s ∷ stuck)) (rest_cons given parts done s stuck) (rest_parts given parts done s stuck)
    (tells_both (stuck_in given parts done s) (circle_from given parts (done ++ s ∷ []) stuck)
    (tells_both (Ok (is_row_placed parts done s.part s.row)) (sticks_in s.direction given (stuck_at parts s))
    (tells_sure (is_row_placed parts done s.part s.row) (placed_decides parts done s)) (λ p. sticks_tells s.direction given (stuck_at parts s)))
    (λ h. from_tells given parts (done ++ s ∷ []) stuck))

pub circle_tells : (given : List Row) (parts : List (List Row)) (stuck : List Stuck) → Tells (circle_in given parts stuck) (AreStuck given parts stuck)
circle_tells given parts stuck =
    tells_like (circle_in given parts stuck)
    (λ h. record { some = h.0; ascending = h.1.ascending; parts_placed = h.1.parts_placed; rows_placed = h.1.rows_placed; sticks = h.1.sticks })
    (λ h. (
      h.some,
      record {
        ascending = h.ascending;
        above = λ k e l. All-nil (λ x. x.part < (get_or stuck k e).part);
        parts_placed =
            h.parts_placed;
        rows_placed = h.rows_placed;
        sticks = h.sticks;
      },
    ))
    (tells_both (Ok (nat_lt 0 (length stuck))) (circle_from given parts [] stuck) (tells_sure (nat_lt 0 (length stuck)) (Decides-ltb 0 (length stuck)))
    (λ h. from_tells given parts [] stuck))

pub circle_told : (answer : Result Bool Wide) (given : List Row) (parts : List (List Row)) (stuck : List Stuck) → answer ≡ circle_in given parts stuck
    → IfOk answer (λ passed. Decides passed (AreStuck given parts stuck))
circle_told answer given parts stuck e = told answer (circle_in given parts stuck) e (circle_tells given parts stuck)

-- ---- for the code
pub placed_facts : (parts : List (List Row)) (done : List Stuck) (part row : ℕ) → is_row_placed parts done part row ≡ true
    → (part < length parts) × (row < length (rows_at parts part))
placed_facts parts done part row e = let h = (placed_decides parts done (record { part = part; row = row; direction = [] })).0 e in (h.part, h.row)

-- lists of rows that are seen in another way
pub list_read : {V : Type 0} (view : V → List Row) (lists : List V) (i : ℕ) (list : V) → i < length lists → list ≡ get_or lists i list
    → rows_at (map view lists) i ≡ view list
list_read view [] i list h is = absurd (omega arith)
list_read view (x ∷ lists) zero list h is = ap view (sym is)
list_read view (x ∷ lists) (suc i) list h is = list_read view lists i list (omega arith) is

pub placed_part : {V : Type 0} (view : V → List Row) (lists : List V) (done : List Stuck) (part row : ℕ) (list : V) → part < length lists
    → list ≡ get_or lists part list → is_part_above done part ≡ true
    → nat_lt row (length (view list)) ≡ is_row_placed (map view lists) done part row
placed_part view lists done part row list h is above =
    ap (λ rows. nat_lt row (length rows)) (sym (list_read view lists part list h is))
    ∙ ap (λ b. b && nat_lt row (length (rows_at (map view lists) part))) (sym inside)
    ∙ ap (λ b. b && nat_lt part (length (map view lists)) && nat_lt row (length (rows_at (map view lists) part))) (sym above)
  where
    inside : nat_lt part (length (map view lists)) ≡ true
    inside = ap (nat_lt part) (length-map lists view) ∙ (Decides-ltb part (length lists)).1 h

pub unplaced_part : {V : Type 0} (view : V → List Row) (lists : List V) (done : List Stuck) (part row : ℕ) → length lists ≤ part
    → false ≡ is_row_placed (map view lists) done part row
unplaced_part view lists done part row h = by_test (is_row_placed (map view lists) done part row) refl
  where
    by_test : (b : Bool) → is_row_placed (map view lists) done part row ≡ b → false ≡ b
    by_test false e = refl
    by_test true e = let l : part < length (map view lists) = (placed_facts (map view lists) done part row e).0 in let m = length-map lists view in
        absurd (omega arith)

-- what is known of a row that is placed
pub row_inside : {V : Type 0} (view : V → List Row) (lists : List V) (done : List Stuck) (part row : ℕ) (list : V)
    → is_row_placed (map view lists) done part row ≡ true → list ≡ get_or lists part list → row < length (view list)
row_inside view lists done part row list e is =
    let h = placed_facts (map view lists) done part row e in
    let inside : part < length lists = (let l : part < length (map view lists) = h.0 in let m = length-map lists view in omega arith) in
    subst (λ rows. row < length rows) (list_read view lists part list inside is) h.1

pub stuck_answer : {V : Type 0} (view : V → List Row) (lists : List V) (given : List Row) (done : List Stuck) (s : Stuck) (list : V)
    (answer : Result Bool Wide) → is_row_placed (map view lists) done s.part s.row ≡ true
    → list ≡ get_or lists s.part list → answer ≡ sticks_in s.direction given (row_at (view list) s.row) → answer ≡ stuck_in given (map view lists) done s
stuck_answer view lists given done s list answer placed is e =
    let inside : s.part < length lists = (let l : s.part < length (map view lists) = (placed_facts (map view lists) done s.part s.row placed).0 in
    let m = length-map lists view in omega arith) in
    e ∙ ap (λ rows. sticks_in s.direction given (row_at rows s.row)) (sym (list_read view lists s.part list inside is))
    ∙ ap (λ b. both (Ok b) (sticks_in s.direction given (stuck_at (map view lists) s))) (sym placed)
