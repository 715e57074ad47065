-- The tableau of a problem, as it is written line by line.
use Rattle.std.proofs.Common.{◌≡◌, ℕ, suc, ◌<◌, ◌+◌, ◌-◌, Bool, false, ℤ, List, [], ◌∷◌, ◌++◌, length, map, get_or, take, drop, set, replicate}
use Rattle.std.proofs.Common.{Result, Ok, Err, refl, sym, ap, ap₂, ◌∙◌, arith, add-one, zero-add, pos, drop-cons, take-suc-set, drop-set-lt}
use Rattle.std.specs.List.{range_with_len}
use Rattle.std.proofs.lemmas.List.{append_assoc, drop_all, get_or-drop, get_or-replicate, length-replicate, length-set}
use Rattle.std.proofs.lemmas.List.{map_push, set-append_right, take-append-drop, take-set-le, append-nil, length-take-le}
use Rattle.std.proofs.lemmas.List.FromFn.{length-map-range_with_len, length-range_with_len}
use Rattle.std.proofs.Math.Seq.{get_or-append_right}
use Rattle.pa_math.specs.Answers.{and_then}
use Rattle.pa_math.specs.Rational.{ℚ, whole}
use Rattle.pa_row.proofs.Dots.{and_then_assoc, and_then_ok}
use Rattle.pa_tableau.specs.declared.wide_at.WideAt.{WideAt}
use Rattle.pa_tableau.specs.Arithmetic.{Arithmetic, each, left_by}
use Rattle.pa_tableau.specs.Tableau.{cleared, line_at}
use Rattle.pa_tableau.specs.Work.{Work}
use Rattle.pa_tableau.proofs.Fillings.{range_more}
use Rattle.pa_tableau.proofs.Walks.{behind, behind_none, behind_more, behind_fault, ok_same}
use Rattle.pa_replay.specs.Problem.{Problem, first_costs, is_turned, loaded, loaded_line, loaded_numbers, numbers_of}
use Rattle.pa_bland.specs.Seen.{KeepsShape, with_line, with_sign}
use Rattle.pa_bland.proofs.Filled.{rest_after, shape_after}
use Rattle.pa_replay.proofs.Numbers.{bound_numbers}
use Rattle.pa_replay.proofs.LoadSteps.{after_costs, after_lines, line_step, tableau_of}

abbrev pub empty_line : ℕ → List ℚ
empty_line columns = replicate columns (whole (pos 0))

-- the first i lines are written, and the others are 0
pub record IsLoading (A : Arithmetic) (p : Problem) (start now : Work) (i : ℕ) : Type 0 where
  pub exact : each (line_step A p) 0 (range_with_len 0 (length p.target)) ≡ behind (take i now.table.lines)
      (each (line_step A p) i (drop i (range_with_len 0 (length p.target))))
  pub rest : drop i now.table.lines ≡ replicate (length p.target + 2 - i) (empty_line start.columns)
  pub count : length now.table.lines ≡ length p.target + 2
  pub basis : now.table.basis ≡ start.table.basis
  pub signs : now.table.turned ≡ map (is_turned p.target) (range_with_len 0 i) ++ replicate (length p.target - i) false
  pub shape : KeepsShape start now

pub loading_starts : (A : Arithmetic) (p : Problem) (start : Work) → start.table.lines ≡ replicate (length p.target + 2) (empty_line start.columns) →
    start.table.turned ≡ replicate (length p.target) false →
    IsLoading A p start start 0
loading_starts A p start lines turned = record {
  exact = sym (behind_none (each (line_step A p) 0 (range_with_len 0 (length p.target))));
  rest = lines ∙ ap (λ k. replicate k (empty_line start.columns)) (omega arith);
  count = ap length lines ∙ length-replicate (length p.target + 2) (empty_line start.columns);
  basis = refl;
  signs = turned ∙ ap (λ k. replicate k false) (omega arith);
  shape = record { room = record { lines = refl; rows = refl }; lines = refl; columns = refl };
}

-- the next line is 0, and not turned
pub next_clear : (A : Arithmetic) (p : Problem) (start now : Work) (i : ℕ) → IsLoading A p start now i → i < length p.target + 2 →
    line_at now.table i ≡ empty_line now.columns
next_clear A p start now i h low =
    let zero_place : i + 0 ≡ i = omega arith in
    let left : 0 < length p.target + 2 - i = omega arith in
    ap (λ k. get_or now.table.lines k []) (sym zero_place) ∙ sym (get_or-drop i now.table.lines 0 [])
    ∙ ap (λ lines. get_or lines 0 []) h.rest ∙ get_or-replicate (length p.target + 2 - i) 0 (empty_line start.columns) [] left
    ∙ ap empty_line (sym h.shape.columns)

pub next_straight : (A : Arithmetic) (p : Problem) (start now : Work) (i : ℕ) → IsLoading A p start now i → i < length p.target →
    get_or now.table.turned i false ≡ false
next_straight A p start now i h low =
    let long : length (map (is_turned p.target) (range_with_len 0 i)) ≡ i = length-map-range_with_len (is_turned p.target) 0 i in
    let place : i - length (map (is_turned p.target) (range_with_len 0 i)) ≡ 0 = omega (arith, long) in
    ap (λ turned. get_or turned i false) h.signs
    ∙ get_or-append_right (map (is_turned p.target) (range_with_len 0 i)) (replicate (length p.target - i) false) i false (omega (arith, long))
    ∙ ap (λ k. get_or (replicate (length p.target - i) false) k false) place
    ∙ get_or-replicate (length p.target - i) 0 false false (omega arith)

-- one sign more
sign_more : (target : List ℤ) (i : ℕ) → i < length target →
    set (map (is_turned target) (range_with_len 0 i) ++ replicate (length target - i) false) i (is_turned target i) ≡ map (is_turned target)
    (range_with_len 0 (i + 1)) ++ replicate (length target - (i + 1)) false
sign_more target i low =
    let front : List Bool = map (is_turned target) (range_with_len 0 i) in
    let left : length target - i ≡ suc (length target - (i + 1)) = omega arith in
    let place : i - i ≡ 0 = omega arith in
    let one : suc i ≡ i + 1 = omega arith in
    let range : range_with_len 0 i ++ i ∷ [] ≡ range_with_len 0 (i + 1) = ap (λ k. range_with_len 0 i ++ k ∷ []) (sym (zero-add i)) ∙ range_more 0 i
    ∙ ap (range_with_len 0) one in
    set-append_right front (replicate (length target - i) false) i i (is_turned target i) (length-map-range_with_len (is_turned target) 0 i) (omega arith)
    ∙ ap₂ (λ k j. front ++ set (replicate k false) j (is_turned target i)) left place
    ∙ sym (append_assoc front (is_turned target i ∷ []) (replicate (length target - (i + 1)) false))
    ∙ ap (λ xs. xs ++ replicate (length target - (i + 1)) false) (sym (map_push (is_turned target) (range_with_len 0 i) i) ∙ ap (map (is_turned target)) range)

pub loading_turns : (A : Arithmetic) (p : Problem) (start now next : Work) (i : ℕ) (done : Unit {0}) → IsLoading A p start now i → i < length p.target →
    left_by (Ok done) next ≡ and_then (loaded_line A p i) (λ cells. Ok (with_sign (with_line now i cells) i (is_turned p.target i))) → KeepsShape now next →
    IsLoading A p start next (i + 1)
loading_turns A p start now next i done h low e k = by_answer (loaded_line A p i) refl e
  where
    by_answer : (r : Result (List ℚ) WideAt) → loaded_line A p i ≡ r →
        Ok next ≡ and_then r (λ cells. Ok (with_sign (with_line now i cells) i (is_turned p.target i))) → IsLoading A p start next (i + 1)
    by_answer (Err wide) is same = absurd (cc same)
    by_answer (Ok cells) is same =
        let n : ℕ = length p.target in
        let old : List (List ℚ) = now.table.lines in
        let next_is : next ≡ with_sign (with_line now i cells) i (is_turned p.target i) = ok_same next
        (with_sign (with_line now i cells) i (is_turned p.target i)) same in
        let lines_are : next.table.lines ≡ set old i cells = ap (λ (w : Work). w.table.lines) next_is in
        let long : i < length old = (let count = h.count in omega (arith, low, count)) in
        let here : i < length (range_with_len 0 n) = rw length-range_with_len low in
        record {
          exact = h.exact
              ∙ ap (λ ys. behind (take i old) (each (line_step A p) i ys)) (drop-cons (range_with_len 0 n) i 0 here)
              ∙ behind_more (line_step A p) (take i old) i (get_or (range_with_len 0 n) i 0) (drop (suc i) (range_with_len 0 n)) cells is
              ∙ rw (lines_are, add-one, take-suc-set old i cells long) refl;
          rest = rw (lines_are, add-one, drop-set-lt (suc i) old i cells (omega arith)) (rest_after i (n + 2) old (empty_line start.columns) h.rest);
          count = ap length lines_are ∙ length-set old i cells ∙ h.count;
          basis = ap (λ (w : Work). w.table.basis) next_is ∙ h.basis;
          signs = ap (λ (w : Work). w.table.turned) next_is ∙ ap (λ turned. set turned i (is_turned p.target i)) h.signs ∙ sign_more p.target i low;
          shape = shape_after start now next h.shape k;
        }

pub loading_refused : (A : Arithmetic) (p : Problem) (start now next : Work) (i : ℕ) (wide : WideAt) → IsLoading A p start now i → i < length p.target →
    left_by {A = Work} (Err wide) next ≡ and_then (loaded_line A p i) (λ cells. Ok (with_sign (with_line now i cells) i (is_turned p.target i))) →
    loaded A p ≡ Err wide
loading_refused A p start now next i wide h low e = by_answer (loaded_line A p i) refl e
  where
    by_answer : (r : Result (List ℚ) WideAt) → loaded_line A p i ≡ r →
        left_by {A = Work} (Err wide) next ≡ and_then r (λ cells. Ok (with_sign (with_line now i cells) i (is_turned p.target i))) → loaded A p ≡ Err wide
    by_answer (Ok cells) is same = absurd (cc same)
    by_answer (Err other) is same =
        let n : ℕ = length p.target in
        let here : i < length (range_with_len 0 n) = rw length-range_with_len low in
        let told : each (line_step A p) 0 (range_with_len 0 n) ≡ Err wide =
        h.exact ∙ ap (λ ys. behind (take i now.table.lines) (each (line_step A p) i ys)) (drop-cons (range_with_len 0 n) i 0 here)
        ∙ behind_fault (line_step A p) (take i now.table.lines) i (get_or (range_with_len 0 n) i 0) (drop (suc i) (range_with_len 0 n)) other is
        ∙ sym (cc same) in
        ap (after_lines A p) told

-- the lines that are all written
lines_made : (A : Arithmetic) (p : Problem) (start now : Work) → IsLoading A p start now (length p.target) →
    (each (line_step A p) 0 (range_with_len 0 (length p.target)) ≡ Ok (take (length p.target) now.table.lines))
    × (now.table.lines ≡ take (length p.target) now.table.lines ++ empty_line start.columns ∷ empty_line start.columns ∷ [])
lines_made A p start now h =
    let n : ℕ = length p.target in
    let two : n + 2 - n ≡ 2 = omega arith in (
      h.exact ∙ ap (λ ys. behind (take n now.table.lines) (each (line_step A p) n ys))
          (drop_all n (range_with_len 0 n) (rw length-range_with_len (omega arith))) ∙ ap Ok (append-nil (take n now.table.lines)),
      sym (take-append-drop n now.table.lines) ∙ ap (λ rest. take n now.table.lines ++ rest) (h.rest ∙ ap (λ k. replicate k (empty_line start.columns)) two),
    )

-- what a call left behind, seen as its tableau
pub table_left : {X : Type 0} (r : Result (Unit {0}) WideAt) (work : Work) (s : Result X WideAt) (f : X → Work) →
    left_by r work ≡ and_then s (λ x. Ok (f x)) → left_by r work.table ≡ and_then s (λ x. Ok (f x).table)
table_left {X} (Ok done) work s f e = ap (λ (w : Result Work WideAt). and_then w (λ w. Ok w.table)) e ∙ and_then_assoc s (λ x. Ok (f x)) (λ w. Ok w.table)
table_left {X} (Err wide) work s f e = ap (λ (w : Result Work WideAt). and_then w (λ w. Ok w.table)) e ∙ and_then_assoc s (λ x. Ok (f x)) (λ w. Ok w.table)

-- the two cost rows behind n lines
rows_set : (lines : List (List ℚ)) (n : ℕ) (empty first second : List ℚ) → length lines ≡ n →
    set (set (lines ++ empty ∷ empty ∷ []) (n + 1) second) n first ≡ lines ++ first ∷ second ∷ []
rows_set lines n empty first second long =
    let one : n + 1 - n ≡ 1 = omega arith in
    let none : n - n ≡ 0 = omega arith in
    ap (λ xs. set xs n first) (set-append_right lines (empty ∷ empty ∷ []) n (n + 1) second long (omega arith)
    ∙ ap (λ k. lines ++ set (empty ∷ empty ∷ []) k second) one)
    ∙ set-append_right lines (empty ∷ second ∷ []) n n first long (omega arith) ∙ ap (λ k. lines ++ set (empty ∷ second ∷ []) k first) none

-- the cost row of the bounds is refused
pub bounds_refused : (A : Arithmetic) (p : Problem) (start now next : Work) (wide : WideAt) → IsLoading A p start now (length p.target) →
    left_by {A = Work} (Err wide) next ≡ and_then (loaded_numbers A (length p.target + 1) (numbers_of p (length p.target + 1)))
    (λ own. Ok (with_line now (length p.target + 1) (own ++ replicate (now.columns - length p.rows) (whole (pos 0))))) → loaded A p ≡ Err wide
bounds_refused A p start now next wide h e = by_answer (loaded_numbers A (length p.target + 1) (numbers_of p (length p.target + 1))) refl e
  where
    by_answer : (r : Result (List ℚ) WideAt) → loaded_numbers A (length p.target + 1) (numbers_of p (length p.target + 1)) ≡ r →
        left_by {A = Work} (Err wide) next ≡ and_then r (λ own. Ok
        (with_line now (length p.target + 1) (own ++ replicate (now.columns - length p.rows) (whole (pos 0))))) → loaded A p ≡ Err wide
    by_answer (Ok own) is same = absurd (cc same)
    by_answer (Err other) is same =
        ap (after_lines A p) (lines_made A p start now h).0
        ∙ ap (after_costs A p (take (length p.target) now.table.lines))
        (ap (loaded_numbers A (length p.target + 1)) (sym (bound_numbers p (length p.target + 1) (omega arith))) ∙ is) ∙ sym (cc same)

-- the whole tableau
pub table_loaded : (A : Arithmetic) (p : Problem) (start now costed next : Work) (done : Unit {0}) (r : Result (Unit {0}) WideAt) →
    IsLoading A p start now (length p.target) →
    start.columns ≡ length p.target + length p.rows + 1 → start.table.basis ≡ range_with_len (length p.rows) (length p.target) →
    left_by (Ok done) costed ≡ and_then (loaded_numbers A (length p.target + 1) (numbers_of p (length p.target + 1)))
    (λ own. Ok (with_line now (length p.target + 1) (own ++ replicate (now.columns - length p.rows) (whole (pos 0))))) →
    left_by r next ≡ and_then (first_costs A (length p.target) (length p.rows) (take (length p.target) costed.table.lines))
    (λ line. Ok (with_line costed (length p.target) line)) →
    left_by r next.table ≡ loaded A p
table_loaded A p start now costed next done r h columns basis bounds_are first =
    let n : ℕ = length p.target in
    let m : ℕ = length p.rows in
    let (own, own_is, costed_is) = and_then_ok (loaded_numbers A (n + 1) (numbers_of p (n + 1)))
    (λ own. Ok (with_line now (n + 1) (own ++ replicate (now.columns - m) (whole (pos 0))))) costed bounds_are in
    let both = lines_made A p start now h in
    let lines : List (List ℚ) = take n now.table.lines in
    let second : List ℚ = own ++ replicate (n + 1) (whole (pos 0)) in
    let width : now.columns - m ≡ n + 1 = (let same = h.shape.columns in omega (arith, same, columns)) in
    let costed_as : costed ≡ with_line now (n + 1) second =
    ok_same costed (with_line now (n + 1) (own ++ replicate (now.columns - m) (whole (pos 0)))) costed_is
    ∙ ap (λ k. with_line now (n + 1) (own ++ replicate k (whole (pos 0)))) width in
    let long : length lines ≡ n = length-take-le n now.table.lines (let count = h.count in omega (arith, count)) in
    let kept : take n costed.table.lines ≡ lines = ap (λ (w : Work). take n w.table.lines) costed_as
    ∙ take-set-le n now.table.lines (n + 1) second (omega arith) in
    let none : n - n ≡ 0 = omega arith in
    let signs : now.table.turned ≡ map (is_turned p.target) (range_with_len 0 n) =
    h.signs ∙ ap (λ k. map (is_turned p.target) (range_with_len 0 n) ++ replicate k false) none ∙ append-nil (map (is_turned p.target) (range_with_len 0 n)) in
    let made : (line : List ℚ) → (with_line costed n line).table ≡ tableau_of p lines own line =
    λ line. ap (λ (w : Work). (with_line w n line).table) costed_as
    ∙ (λ k. record {
      lines = (ap (λ xs. set (set xs (n + 1) second) n line) both.1 ∙ rows_set lines n (empty_line start.columns) line second long) k;
      basis = (h.basis ∙ basis) k;
      turned = signs k;
    }) in
    table_left r next (first_costs A n m (take n costed.table.lines)) (λ line. with_line costed n line) first
    ∙ ap (λ lines. and_then (first_costs A n m lines) (λ line. Ok (with_line costed n line).table)) kept
    ∙ (λ k. and_then (first_costs A n m lines) (λ line. Ok (made line k)))
    ∙ ap (after_costs A p lines) (own_is ∙ ap (loaded_numbers A (n + 1)) (bound_numbers p (n + 1) (omega arith)))
    ∙ sym (ap (after_lines A p) both.0)

-- the work that was begun
abbrev pub begun_work : Work → ℕ → ℕ → Work
begun_work work n m = record work { lines = n; columns = n + m + 1; table = cleared n m }
