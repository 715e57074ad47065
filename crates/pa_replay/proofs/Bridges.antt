-- From lists to cells: what the checked operations give is exact, and a pivot on lists is a pivot of cells.
use Rattle.std.proofs.Common.{◌≡◌, ℕ, zero, suc, ◌<◌, ◌≤◌, ◌+◌, ◌==◌, true, false, if◌then◌else◌, List, [], ◌∷◌, length}
use Rattle.std.proofs.Common.{get_or, set, Result, Ok, Err, ◌⊎◌, inl, inr, sym, ap, ap₂, ◌∙◌, arith, zero-add, pos}
use Rattle.std.proofs.lemmas.List.{get_or_past, get_or-set_same, get_or-set_other, length-set}
use lib.IntN.{◌*ℤ◌}
use Rattle.std.specs.declared.cmp.Ordering.{Ordering}
use Rattle.pa_math.specs.RationalOrder.{compare_ℚ}
use Rattle.pa_math.specs.Answers.{and_then}
use Rattle.pa_math.specs.Rational.{ℚ, whole, ◌+ℚ◌, ◌-ℚ◌, ◌*ℚ◌, ◌/ℚ◌, reciprocal}
use Rattle.pa_math.proofs.RationalTactics.{by_ring, reads}
use Rattle.pa_frac.specs.declared.wide.Wide.{Wide}
use Rattle.pa_frac.specs.Operations.{is_zero, sum_in, difference_in, product_in, comparison_in, scaled_num, common_den, crossed_num, crossed_den}
use Rattle.pa_frac.proofs.Width.{exact_value}
use Rattle.pa_frac.proofs.Signs.{nonzero_value}
use Rattle.pa_row.proofs.Dots.{and_then_ok, ok_same}
use Rattle.pa_tableau.specs.Arithmetic.{Arithmetic, at_width, exact, each}
use Rattle.pa_tableau.specs.Tableau.{Tableau, number_at, line_at, cell, told_at, divided, reduced, line_reduced, other_reduced, lines_pivoted, pivoted}
use Rattle.pa_replay.proofs.Steps.{Cells, IsPivot}

-- ---- what is not refused is exact
pub record IsSound (A : Arithmetic) : Type 0 where
  pub sum : (x y z : ℚ) → Ok z ≡ A.sum x y → z ≡ x +ℚ y
  pub difference : (x y z : ℚ) → Ok z ≡ A.difference x y → z ≡ x -ℚ y
  pub product : (x y z : ℚ) → Ok z ≡ A.product x y → z ≡ x *ℚ y
  pub quotient : (x y z : ℚ) → Ok z ≡ A.quotient x y → z ≡ x /ℚ y
  pub comparison : (x y : ℚ) (o : Ordering) → Ok o ≡ A.comparison x y → o ≡ compare_ℚ x y

pub at_width_sound : (w : ℕ) → IsSound (at_width w)
unfolding sum_in difference_in product_in comparison_in
at_width_sound w = record {
  sum = λ x y z h. exact_value w (scaled_num x y ∷ scaled_num y x ∷ common_den x y ∷ (x +ℚ y).num ∷ []) z (x +ℚ y) h;
  difference = λ x y z h. exact_value w (scaled_num x y ∷ scaled_num y x ∷ common_den x y ∷ (x -ℚ y).num ∷ []) z (x -ℚ y) h;
  product = λ x y z h. exact_value w ((crossed_num x y *ℤ crossed_num y x) ∷ (crossed_den y x *ℤ crossed_den x y) ∷ []) z (x *ℚ y) h;
  quotient = λ x y z h. exact_value w ((crossed_num x (reciprocal y) *ℤ crossed_num (reciprocal y) x) ∷
      (crossed_den (reciprocal y) x *ℤ crossed_den x (reciprocal y)) ∷ []) z (x *ℚ reciprocal y) h;
  comparison = λ x y o h. exact_value w (scaled_num x y ∷ scaled_num y x ∷ []) o (compare_ℚ x y) h;
}

pub exact_sound : IsSound exact
exact_sound = record {
  sum = λ x y z h. ok_same z (x +ℚ y) h;
  difference = λ x y z h. ok_same z (x -ℚ y) h;
  product = λ x y z h. ok_same z (x *ℚ y) h;
  quotient = λ x y z h. ok_same z (x /ℚ y) h;
  comparison = λ x y o h. ok_same o (compare_ℚ x y) h;
}

-- what an operation gives, whatever place it is told at
pub told_ok : {A : Type 0} (pivot row column : ℕ) (r : Result A Wide) (a : A) → Ok a ≡ told_at pivot row column r → Ok a ≡ r
told_ok pivot row column (Ok x) a h = ap Ok (ok_same a x h)
told_ok pivot row column (Err wide) a h = cc

-- ---- a step for each item
pub each_at : {A B E : Type 0} (step : ℕ → A → Result B E) (i : ℕ) (xs : List A) (ys : List B) → Ok ys ≡ each step i xs →
    (k : ℕ) (d : A) (e : B) → k < length xs → Ok (get_or ys k e) ≡ step (i + k) (get_or xs k d)
each_at step i [] ys h k d e low = absurd (omega arith)
each_at {A} {B} {E} step i (x ∷ xs) ys h zero d e low =
    let (y, first, more) = and_then_ok (step i x) (λ y. and_then (each step (suc i) xs) (λ ys. Ok (y ∷ ys))) ys h in
    let (rest, others, whole) = and_then_ok (each step (suc i) xs) (λ ys. Ok (y ∷ ys)) ys more in
    ap (λ (zs : List B). Ok (get_or zs 0 e)) (ok_same ys (y ∷ rest) whole) ∙ first ∙ ap (λ i. step i x) (omega arith)
each_at {A} {B} {E} step i (x ∷ xs) ys h (suc k) d e low =
    let (y, first, more) = and_then_ok (step i x) (λ y. and_then (each step (suc i) xs) (λ ys. Ok (y ∷ ys))) ys h in
    let (rest, others, whole) = and_then_ok (each step (suc i) xs) (λ ys. Ok (y ∷ ys)) ys more in
    ap (λ (zs : List B). Ok (get_or zs (suc k) e)) (ok_same ys (y ∷ rest) whole) ∙ each_at step (suc i) xs rest others k d e (omega arith)
    ∙ ap (λ i. step i (get_or xs k d)) (omega arith)

pub each_length : {A B E : Type 0} (step : ℕ → A → Result B E) (i : ℕ) (xs : List A) (ys : List B) → Ok ys ≡ each step i xs → length ys ≡ length xs
each_length step i [] ys h = ap length (ok_same ys [] h)
each_length step i (x ∷ xs) ys h =
    let (y, first, more) = and_then_ok (step i x) (λ y. and_then (each step (suc i) xs) (λ ys. Ok (y ∷ ys))) ys h in
    let (rest, others, whole) = and_then_ok (each step (suc i) xs) (λ ys. Ok (y ∷ ys)) ys more in
    ap length (ok_same ys (y ∷ rest) whole) ∙ ap suc (each_length step (suc i) xs rest others)

-- ---- the lines of a pivot
below_or_past : (k n : ℕ) → (k < n) ⊎ (n ≤ k)
below_or_past k n = search arith

zero_ℚ : ℚ
zero_ℚ = whole (pos 0)

pub divided_at : (A : Arithmetic) (pivot row : ℕ) (p : ℚ) (line ps : List ℚ) → IsSound A → Ok ps ≡ divided A pivot row p line → (j : ℕ) →
    number_at ps j ≡ number_at line j /ℚ p
divided_at A pivot row p line ps s h j = by_place (below_or_past j (length line))
  where
    by_place : (j < length line) ⊎ (length line ≤ j) → number_at ps j ≡ number_at line j /ℚ p
    by_place (inl low) =
        s.quotient (number_at line j) p (number_at ps j)
        (told_ok pivot row (0 + j) (A.quotient (number_at line j) p) (number_at ps j)
        (each_at (λ j x. told_at pivot row j (A.quotient x p)) 0 line ps h j (whole (pos 0)) (whole (pos 0)) low))
    by_place (inr past) =
        let none : length ps ≤ j = rw (each_length (λ j x. told_at pivot row j (A.quotient x p)) 0 line ps h) past in
        get_or_past ps j (whole (pos 0)) none
        ∙ sym (ap (λ q. q /ℚ p) (get_or_past line j (whole (pos 0)) past) ∙ by_ring (reciprocal p ∷ []) (search reads depth 40) tt)

pub line_reduced_at : (A : Arithmetic) (pivot row : ℕ) (f : ℚ) (ps line new : List ℚ) → IsSound A → length line ≡ length ps →
    Ok new ≡ line_reduced A pivot row f ps line →
    (j : ℕ) → number_at new j ≡ number_at line j -ℚ f *ℚ number_at ps j
line_reduced_at A pivot row f ps line new s same h j = by_place (below_or_past j (length line))
  where
    step_value : (x q y : ℚ) → Ok y ≡ reduced A x f q → y ≡ x -ℚ f *ℚ q
    step_value x q y e =
        let (product, first, second) = and_then_ok (A.product f q) (λ z. A.difference x z) y e in
        s.difference x product y second ∙ ap (λ t. x -ℚ t) (s.product f q product first)

    by_place : (j < length line) ⊎ (length line ≤ j) → number_at new j ≡ number_at line j -ℚ f *ℚ number_at ps j
    by_place (inl low) =
        step_value (number_at line j) (number_at ps j) (number_at new j)
        (told_ok pivot row (0 + j) (reduced A (number_at line j) f (number_at ps (0 + j))) (number_at new j)
        (each_at (λ j x. told_at pivot row j (reduced A x f (number_at ps j))) 0 line new h j (whole (pos 0)) (whole (pos 0)) low)
        ∙ ap (λ k. reduced A (number_at line j) f (number_at ps k)) (omega arith))
    by_place (inr past) =
        let none : length new ≤ j = rw (each_length (λ j x. told_at pivot row j (reduced A x f (number_at ps j))) 0 line new h) past in
        get_or_past new j (whole (pos 0)) none
        ∙ sym (ap₂ (λ x q. x -ℚ f *ℚ q) (get_or_past line j (whole (pos 0)) past) (get_or_past ps j (whole (pos 0)) (omega (arith, same, past)))
        ∙ by_ring (f ∷ []) (search reads depth 40) tt)

-- ---- a pivot
-- the lines are equally long
abbrev pub IsRectangle : ℕ → List (List ℚ) → Type 0
IsRectangle w lines = (i : ℕ) → i < length lines → length (get_or lines i []) ≡ w

abbrev pub cells_of : Tableau → Cells
cells_of t i j = cell t i j

same_or_not : (i l : ℕ) → (i ≡ l) ⊎ (i ≡ l → ⊥)
same_or_not i l = search arith

-- what a pivot's lines are made of
pub record Pivoted (A : Arithmetic) (pivot l c : ℕ) (t u : Tableau) : Type 0 where
  pub ps : List ℚ
  pub divided : Ok ps ≡ divided A pivot l (cell t l c) (line_at t l)
  pub others : Ok u.lines ≡ each (other_reduced A pivot l c ps) 0 (set t.lines l ps)
  pub basis : u.basis ≡ set t.basis l c

pub pivoted_parts : (A : Arithmetic) (pivot l c : ℕ) (t u : Tableau) → Ok u ≡ pivoted A pivot l c t → Pivoted A pivot l c t u
pivoted_parts A pivot l c t u h =
    let (lines, both, made) = and_then_ok (lines_pivoted A pivot l c t.lines) (λ lines. Ok (record t { lines = lines; basis = set t.basis l c })) u h in
    let (ps, first, others) = and_then_ok (divided A pivot l (cell t l c) (line_at t l))
    (λ ps. each (other_reduced A pivot l c ps) 0 (set t.lines l ps)) lines both in
    let same : u ≡ record t { lines = lines; basis = set t.basis l c } = ok_same u (record t { lines = lines; basis = set t.basis l c }) made in
    record { ps = ps; divided = first; others = ap (λ (u : Tableau). Ok u.lines) same ∙ others; basis = ap (λ (u : Tableau). u.basis) same }

-- the line of a pivot, and another one
pivot_line_kept : (A : Arithmetic) (pivot l c : ℕ) (ps line : List ℚ) → other_reduced A pivot l c ps l line ≡ Ok line
pivot_line_kept A pivot l c ps line = ap (λ b. if b then Ok line else line_reduced A pivot l (number_at line c) ps line) test
  where
    test : (l == l) ≡ true
    test = search arith

other_line : (A : Arithmetic) (pivot l c i : ℕ) (ps line : List ℚ) → (i ≡ l → ⊥) →
    other_reduced A pivot l c ps i line ≡ line_reduced A pivot i (number_at line c) ps line
other_line A pivot l c i ps line d = ap (λ b. if b then Ok line else line_reduced A pivot i (number_at line c) ps line) test
  where
    test : (i == l) ≡ false
    test = grind (arith, d)

pub pivot_of_cells : (A : Arithmetic) (pivot l c w : ℕ) (t u : Tableau) → IsSound A → IsRectangle w t.lines → l < length t.lines →
    is_zero (cell t l c) ≡ false → Ok u ≡ pivoted A pivot l c t →
    IsPivot (cells_of t) (cells_of u) l c
pivot_of_cells A pivot l c w t u s rect low nonzero h =
    let p = pivoted_parts A pivot l c t u h in
    let inside : l < length (set t.lines l p.ps) = rw length-set low in
    let count : length u.lines ≡ length t.lines = each_length (other_reduced A pivot l c p.ps) 0 (set t.lines l p.ps) u.lines p.others
    ∙ length-set t.lines l p.ps in
    let long : length p.ps ≡ w = each_length (λ j x. told_at pivot l j (A.quotient x (cell t l c))) 0 (line_at t l) p.ps p.divided ∙ rect l low in
    let line_is : line_at u l ≡ p.ps =
    ok_same (line_at u l) p.ps (each_at (other_reduced A pivot l c p.ps) 0 (set t.lines l p.ps) u.lines p.others l [] [] inside
    ∙ ap₂ (λ i line. other_reduced A pivot l c p.ps i line) (zero-add l) (get_or-set_same t.lines l p.ps [] low) ∙ pivot_line_kept A pivot l c p.ps p.ps) in
    record {
      nonzero = nonzero_value (cell t l c) nonzero;
      divided = λ j. ap (λ line. number_at line j) line_is ∙ divided_at A pivot l (cell t l c) (line_at t l) p.ps s p.divided j;
      reduced = λ i j d. by_place i j d p.ps line_is count long p.others (below_or_past i (length t.lines));
    }
  where
    by_place : (i j : ℕ) → (i ≡ l → ⊥) → (ps : List ℚ) → line_at u l ≡ ps → length u.lines ≡ length t.lines → length ps ≡ w →
        Ok u.lines ≡ each (other_reduced A pivot l c ps) 0 (set t.lines l ps) →
        (i < length t.lines) ⊎ (length t.lines ≤ i) → cell u i j ≡ cell t i j -ℚ cell t i c *ℚ cell u l j
    by_place i j d ps line_is count long others (inl below) =
        line_reduced_at A pivot i (cell t i c) ps (line_at t i) (line_at u i) s (rect i below ∙ sym long)
        (each_at (other_reduced A pivot l c ps) 0 (set t.lines l ps) u.lines others i [] [] (rw length-set below)
        ∙ ap₂ (λ i line. other_reduced A pivot l c ps i line) (zero-add i) (get_or-set_other t.lines l i ps [] d)
        ∙ other_line A pivot l c i ps (line_at t i) d) j
        ∙ ap (λ line. cell t i j -ℚ cell t i c *ℚ number_at line j) (sym line_is)
    by_place i j d ps line_is count long others (inr past) =
        ap (λ line. number_at line j) (get_or_past u.lines i [] (omega (arith, count, past)))
        ∙ sym (ap₂ (λ x f. x -ℚ f *ℚ cell u l j) (ap (λ line. number_at line j) (get_or_past t.lines i [] past))
        (ap (λ line. number_at line c) (get_or_past t.lines i [] past))
        ∙ by_ring (cell u l j ∷ []) (search reads depth 40) tt)

pub rectangle_after : (A : Arithmetic) (pivot l c w : ℕ) (t u : Tableau) → IsRectangle w t.lines → l < length t.lines → Ok u ≡ pivoted A pivot l c t →
    (length u.lines ≡ length t.lines) × IsRectangle w u.lines
rectangle_after A pivot l c w t u rect low h =
    let p = pivoted_parts A pivot l c t u h in
    let count : length u.lines ≡ length t.lines = each_length (other_reduced A pivot l c p.ps) 0 (set t.lines l p.ps) u.lines p.others
    ∙ length-set t.lines l p.ps in
    let long : length p.ps ≡ w = each_length (λ j x. told_at pivot l j (A.quotient x (cell t l c))) 0 (line_at t l) p.ps p.divided ∙ rect l low in
    (count, λ i below. by_line i p.ps long p.others (omega (arith, below, count)) (same_or_not i l))
  where
    by_line : (i : ℕ) → (ps : List ℚ) → length ps ≡ w → Ok u.lines ≡ each (other_reduced A pivot l c ps) 0 (set t.lines l ps) → i < length t.lines →
        (i ≡ l) ⊎ (i ≡ l → ⊥) → length (line_at u i) ≡ w
    by_line i ps long others below (inl e) =
        ap length (ok_same (line_at u i) ps (each_at (other_reduced A pivot l c ps) 0 (set t.lines l ps) u.lines others i [] [] (rw length-set below)
        ∙ ap₂ (λ i line. other_reduced A pivot l c ps i line) (zero-add i ∙ e)
        (ap (λ i. get_or (set t.lines l ps) i []) e ∙ get_or-set_same t.lines l ps [] low) ∙ pivot_line_kept A pivot l c ps ps)) ∙ long
    by_line i ps long others below (inr d) =
        each_length (λ j x. told_at pivot i j (reduced A x (cell t i c) (number_at ps j))) 0 (line_at t i) (line_at u i)
        (each_at (other_reduced A pivot l c ps) 0 (set t.lines l ps) u.lines others i [] [] (rw length-set below)
        ∙ ap₂ (λ i line. other_reduced A pivot l c ps i line) (zero-add i) (get_or-set_other t.lines l i ps [] d) ∙ other_line A pivot l c i ps (line_at t i) d)
        ∙ rect i below
