-- What a pivot does to one line among the others.
use Rattle.std.proofs.Common.{◌≡◌, ℕ, ◌<◌, ◌≤◌, ◌+◌, ◌*◌, List, [], ◌++◌, length, get_or, take, drop, set, map, Result, Ok, refl}
use Rattle.std.proofs.Common.{sym, ap, ap₂, ◌∙◌, arith, pos, length-drop, zero, suc, ◌∷◌, ◌==◌, true, false, if◌then◌else◌}
use Rattle.std.proofs.lemmas.List.{length-take-le, set-get_or, get_or-take, get_or-drop, map-set, length-set}
use Rattle.pa_math.specs.Answers.{and_then}
use Rattle.pa_math.specs.Rational.{ℚ, whole}
use Rattle.pa_tableau.specs.declared.wide_at.WideAt.{WideAt}
use Rattle.pa_tableau.specs.Arithmetic.{Arithmetic, left_by}
use Rattle.pa_tableau.specs.LinesOf.{lines_of}
use Rattle.pa_tableau.specs.Tableau.{divided, line_reduced, number_at, other_reduced}
use Rattle.pa_tableau.proofs.LinesOf.{line_of_lines, value_line, value_written, left_in_line}

-- a number of a line that is seen through a value
pub value_at : {F A : Type 0} (value : F → A) (xs : List F) (j : ℕ) (x : F) (d : A) → j < length xs → x ≡ get_or xs j x → value x ≡ get_or (map value xs) j d
value_at value [] j x d h e = absurd (omega arith)
value_at value (y ∷ ys) zero x d h e = ap value e
value_at value (y ∷ ys) (suc j) x d h e = value_at value ys j x d (omega arith) e

pub line_inside : {F : Type 0} (from k width : ℕ) (cells : List F) → k ≡ width → from + width ≤ length cells → length (take k (drop from cells)) ≡ width
line_inside from k width cells e end =
    ap (λ k. length (take k (drop from cells))) e ∙ length-take-le width (drop from cells) (rw length-drop (omega (arith, end)))

-- a line that is reduced where it stands
pub reduced_in_place : {F : Type 0} (value : F → ℚ) (A : Arithmetic) (pivot n row column from k : ℕ) (ps cells line : List F) (x : F)
    (r : Result (Unit {0}) WideAt)
    → k ≡ length ps → from ≡ row * length ps → row < n → n * length ps ≤ length cells → from + length ps ≤ length cells → length line ≡ length ps
    → column < length ps → x ≡ get_or (take k (drop from cells)) column x
    → left_by r (map value line) ≡ line_reduced A pivot row (value x) (map value ps) (map value (take k (drop from cells)))
    → left_by r (lines_of n (length ps) (map value (take from cells ++ (line ++ drop k (drop from cells)))))
    ≡ and_then (line_reduced A pivot row (number_at (get_or (lines_of n (length ps) (map value cells)) row []) column) (map value ps)
    (get_or (lines_of n (length ps) (map value cells)) row []))
    (λ line. Ok (set (lines_of n (length ps) (map value cells)) row line))
reduced_in_place {F} value A pivot n row column from k ps cells line x r e place low room end same at x_is is =
    let inside : length (take k (drop from cells)) ≡ length ps = line_inside from k (length ps) cells e end in
    let line_is : map value (take k (drop from cells)) ≡ get_or (lines_of n (length ps) (map value cells)) row [] =
    ap (λ k. map value (take k (drop from cells))) e ∙ value_line value n (length ps) row from cells place low in
    let f_is : value x ≡ number_at (get_or (lines_of n (length ps) (map value cells)) row []) column =
    value_at value (take k (drop from cells)) column x (whole (pos 0)) (omega (arith, inside)) x_is ∙ ap (λ line. number_at line column) line_is in
    ap (λ k. left_by r (lines_of n (length ps) (map value (take from cells ++ (line ++ drop k (drop from cells)))))) e
    ∙ left_in_line value n (length ps) row from cells line r _ place low room same
    (is ∙ ap₂ (λ f line. line_reduced A pivot row f (map value ps) line) f_is line_is)

-- the pivot line stays
pub kept_in_place : (A : Arithmetic) (pivot skipped column row : ℕ) (ps : List ℚ) (lines : List (List ℚ)) → row ≡ skipped →
    Ok lines ≡ and_then (other_reduced A pivot skipped column ps row (get_or lines row [])) (λ line. Ok (set lines row line))
kept_in_place A pivot skipped column row ps lines e =
    ap Ok (sym (set-get_or lines row []))
    ∙ sym (ap (λ b. and_then
    (if b then Ok (get_or lines row []) else line_reduced A pivot row (number_at (get_or lines row []) column) ps (get_or lines row []))
    (λ line. Ok (set lines row line))) test)
  where
    test : (row == skipped) ≡ true
    test = search (arith, e)

pub reduced_unless : (A : Arithmetic) (pivot skipped column row : ℕ) (ps line : List ℚ) → (row ≡ skipped → ⊥) →
    other_reduced A pivot skipped column ps row line ≡ line_reduced A pivot row (number_at line column) ps line
reduced_unless A pivot skipped column row ps line h = ap (λ b. if b then Ok line else line_reduced A pivot row (number_at line column) ps line) test
  where
    test : (row == skipped) ≡ false
    test = grind (arith, h)

-- a line that is divided where it stands
pub divided_line : {F : Type 0} (value : F → ℚ) (A : Arithmetic) (pivot n row column from k width : ℕ) (cells : List F) (x : F) →
    k ≡ width → from ≡ row * width → row < n → from + width ≤ length cells → column < width → x ≡ get_or (take k (drop from cells)) column x →
    divided A pivot row (value x) (map value (take k (drop from cells)))
    ≡ divided A pivot row (number_at (get_or (lines_of n width (map value cells)) row []) column) (get_or (lines_of n width (map value cells)) row [])
divided_line {F} value A pivot n row column from k width cells x e place low end at x_is =
    let inside : length (take k (drop from cells)) ≡ width = line_inside from k width cells e end in
    let line_is : map value (take k (drop from cells)) ≡ get_or (lines_of n width (map value cells)) row [] =
    ap (λ k. map value (take k (drop from cells))) e ∙ value_line value n width row from cells place low in
    ap₂ (λ f line. divided A pivot row f line)
    (value_at value (take k (drop from cells)) column x (whole (pos 0)) (omega (arith, inside)) x_is ∙ ap (λ line. number_at line column) line_is) line_is

pub divided_in_place : {F : Type 0} (value : F → ℚ) (A : Arithmetic) (pivot n row column from k width : ℕ) (cells line : List F) (x : F)
    (r : Result (Unit {0}) WideAt)
    → k ≡ width → from ≡ row * width → row < n → n * width ≤ length cells → from + width ≤ length cells → length line ≡ width → column < width
    → x ≡ get_or (take k (drop from cells)) column x → left_by r (map value line) ≡ divided A pivot row (value x) (map value (take k (drop from cells)))
    → left_by r (lines_of n width (map value (take from cells ++ (line ++ drop k (drop from cells)))))
    ≡ and_then
    (divided A pivot row (number_at (get_or (lines_of n width (map value cells)) row []) column) (get_or (lines_of n width (map value cells)) row []))
    (λ line. Ok (set (lines_of n width (map value cells)) row line))
divided_in_place {F} value A pivot n row column from k width cells line x r e place low room end same at x_is is =
    ap (λ k. left_by r (lines_of n width (map value (take from cells ++ (line ++ drop k (drop from cells)))))) e
    ∙ left_in_line value n width row from cells line r _ place low room same
    (is ∙ divided_line value A pivot n row column from k width cells x e place low end at x_is)

-- a cell
pub cell_is : {F : Type 0} (value : F → ℚ) (n width row column : ℕ) (cells : List F) (x : F) → row < n → column < width → row * width + column < length cells
    → x ≡ get_or cells (row * width + column) x → value x ≡ number_at (get_or (lines_of n width (map value cells)) row []) column
cell_is value n width row column cells x low at end e =
    value_at value cells (row * width + column) x (whole (pos 0)) end e
    ∙ sym (ap (λ line. number_at line column) (line_of_lines n width row (row * width) (map value cells) refl low)
    ∙ get_or-take width (drop (row * width) (map value cells)) column (whole (pos 0)) at
    ∙ get_or-drop (row * width) (map value cells) column (whole (pos 0)))

-- a cell that is written
pub set_in_place : {F : Type 0} (value : F → ℚ) (n width row column from k : ℕ) (cells : List F) (x : F) → k ≡ width → from ≡ row * width → row < n
    → n * width ≤ length cells → from + width ≤ length cells
    → lines_of n width (map value (take from cells ++ (set (take k (drop from cells)) column x ++ drop k (drop from cells))))
    ≡ set (lines_of n width (map value cells)) row (set (get_or (lines_of n width (map value cells)) row []) column (value x))
set_in_place {F} value n width row column from k cells x e place low room end =
    ap (λ k. lines_of n width (map value (take from cells ++ (set (take k (drop from cells)) column x ++ drop k (drop from cells))))) e
    ∙ value_written value n width row from cells (set (take width (drop from cells)) column x) place low room
    (rw length-set (line_inside from width width cells refl end))
    ∙ ap (set (lines_of n width (map value cells)) row)
    (map-set value (take width (drop from cells)) column x ∙ ap (λ line. set line column (value x)) (value_line value n width row from cells place low))
