-- Lines of equal width that stand one behind another: reading and writing one of them.
use Rattle.std.proofs.Common.{◌≡◌, ℕ, zero, suc, ◌<◌, ◌≤◌, ◌+◌, ◌*◌, List, [], ◌∷◌, ◌++◌, length, get_or, take, drop, set, map, Result, Ok, Err}
use Rattle.std.proofs.Common.{refl, sym, ap, ap₂, ◌∙◌, arith, append_assoc, length-drop, drop-drop, take-add, take_at, take-take, replicate}
use Rattle.std.proofs.lemmas.List.{map-append, take-map, drop-map, length-map, length-take-le, drop_at}
use Rattle.std.proofs.lemmas.List.{take-replicate, drop-take, replicate-append-replicate, length-replicate}
use Rattle.pa_math.specs.Answers.{and_then}
use Rattle.pa_tableau.specs.Arithmetic.{left_by}
use Rattle.pa_tableau.specs.LinesOf.{lines_of}

pub length-lines_of : {A : Type 0} (n width : ℕ) (cells : List A) → length (lines_of n width cells) ≡ n
length-lines_of zero width cells = refl
length-lines_of (suc n) width cells = ap suc (length-lines_of n width (drop width cells))

-- one line
pub line_of_lines : {A : Type 0} (n width i from : ℕ) (cells : List A) → from ≡ i * width → i < n
    → get_or (lines_of n width cells) i [] ≡ take width (drop from cells)
line_of_lines zero width i from cells e h = absurd (omega arith)
line_of_lines (suc n) width zero from cells e h =
    let none : 0 ≡ from = omega (arith, e) in
    ap (λ from. take width (drop from cells)) none
line_of_lines (suc n) width (suc i) from cells e h =
    let more : width + i * width ≡ from = omega (arith, e) in
    line_of_lines n width i (i * width) (drop width cells) refl (omega arith) ∙ ap (take width) (drop-drop (i * width) width cells)
    ∙ ap (λ from. take width (drop from cells)) more

-- a line written over
pub lines_of-written : {A : Type 0} (n width i from : ℕ) (cells line : List A) → from ≡ i * width → i < n → n * width ≤ length cells → length line ≡ width →
    lines_of n width (take from cells ++ (line ++ drop width (drop from cells))) ≡ set (lines_of n width cells) i line
lines_of-written zero width i from cells line e h k same = absurd (omega arith)
lines_of-written (suc n) width zero from cells line e h k same =
    let none : from ≡ 0 = omega (arith, e) in
    ap (λ from. lines_of (suc n) width (take from cells ++ (line ++ drop width (drop from cells)))) none
    ∙ ap₂ (λ first rest. first ∷ lines_of n width rest) (take_at line (drop width cells) width same) (drop_at line (drop width cells) width same)
lines_of-written {A} (suc n) width (suc i) from cells line e h k same =
    let more : from ≡ width + i * width = omega (arith, e) in
    let rest : List A = take (i * width) (drop width cells) ++ (line ++ drop width (drop (i * width) (drop width cells))) in
    let first : length (take width cells) ≡ width = length-take-le width cells (omega (arith, k)) in
    let split : take from cells ++ (line ++ drop width (drop from cells)) ≡ take width cells ++ rest =
    ap (λ from. take from cells ++ (line ++ drop width (drop from cells))) more
    ∙ ap₂ (λ front back. front ++ (line ++ drop width back)) (take-add width (i * width) cells) (sym (drop-drop (i * width) width cells))
    ∙ append_assoc (take width cells) (take (i * width) (drop width cells)) (line ++ drop width (drop (i * width) (drop width cells))) in
    ap (lines_of (suc n) width) split
    ∙ ap₂ (λ first rest. first ∷ lines_of n width rest) (take_at (take width cells) rest width first) (drop_at (take width cells) rest width first)
    ∙ ap (λ lines. take width cells ∷ lines)
    (lines_of-written n width i (i * width) (drop width cells) line refl (omega arith) (rw length-drop (omega (arith, k))) same)

-- ---- the same, where the cells are seen through a value
pub value_line : {F A : Type 0} (value : F → A) (n width i from : ℕ) (cells : List F) → from ≡ i * width → i < n →
    map value (take width (drop from cells)) ≡ get_or (lines_of n width (map value cells)) i []
value_line value n width i from cells e h =
    sym (line_of_lines n width i from (map value cells) e h ∙ ap (take width) (drop-map value from cells) ∙ take-map value width (drop from cells))

pub value_written : {F A : Type 0} (value : F → A) (n width i from : ℕ) (cells line : List F) → from ≡ i * width → i < n → n * width ≤ length cells
    → length line ≡ width
    → lines_of n width (map value (take from cells ++ (line ++ drop width (drop from cells)))) ≡ set (lines_of n width (map value cells)) i (map value line)
value_written value n width i from cells line e h k same =
    ap (lines_of n width)
    (map-append value (take from cells) (line ++ drop width (drop from cells))
    ∙ ap₂ ◌++◌ (sym (take-map value from cells))
    (map-append value line (drop width (drop from cells))
    ∙ ap (λ rest. map value line ++ rest) (sym (drop-map value width (drop from cells)) ∙ ap (drop width) (sym (drop-map value from cells)))))
    ∙ lines_of-written n width i from (map value cells) (map value line) e h (rw length-map k) (rw length-map same)

-- what a call leaves behind in one line, in all lines
pub left_in_line : {F A E : Type 0} (value : F → A) (n width i from : ℕ) (cells line : List F) (r : Result (Unit {0}) E) (s : Result (List A) E)
    → from ≡ i * width → i < n → n * width ≤ length cells → length line ≡ width → left_by r (map value line) ≡ s
    → left_by r (lines_of n width (map value (take from cells ++ (line ++ drop width (drop from cells)))))
    ≡ and_then s (λ y. Ok (set (lines_of n width (map value cells)) i y))
left_in_line {F} {A} {E} value n width i from cells line (Ok done) s e h k same is =
    ap Ok (value_written value n width i from cells line e h k same)
    ∙ ap (λ (s : Result (List A) E). and_then s (λ y. Ok (set (lines_of n width (map value cells)) i y))) is
left_in_line {F} {A} {E} value n width i from cells line (Err fault) s e h k same is =
    ap (λ (s : Result (List A) E). and_then s (λ y. Ok (set (lines_of n width (map value cells)) i y))) is

-- lines whose cells are all the same
pub cleared_lines : {A : Type 0} (n width : ℕ) (cells : List A) (z : A) → take (n * width) cells ≡ replicate (n * width) z
    → lines_of n width cells ≡ replicate n (replicate width z)
cleared_lines zero width cells z h = refl
cleared_lines (suc n) width cells z h =
    let product : suc n * width ≡ width + n * width = omega arith in
    let front : take (width + n * width) cells ≡ replicate (width + n * width) z = ap (λ k. take k cells) (sym product) ∙ h ∙ ap (λ k. replicate k z) product in
    let first : take width cells ≡ replicate width z =
    sym (take-take width (width + n * width) cells (omega arith)) ∙ ap (take width) front ∙ take-replicate width (width + n * width) z (omega arith) in
    let rest : take (n * width) (drop width cells) ≡ replicate (n * width) z =
    sym (drop-take width (n * width) cells) ∙ ap (drop width) (front ∙ sym (replicate-append-replicate width (n * width) z))
    ∙ drop_at (replicate width z) (replicate (n * width) z) width (length-replicate width z) in
    ap₂ ◌∷◌ first (cleared_lines n width (drop width cells) z rest)
