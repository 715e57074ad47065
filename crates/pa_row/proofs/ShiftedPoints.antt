-- A term less weighted rows: its exact value, and the points that meet it.
use Rattle.std.proofs.Common.{◌≡◌, ℕ, zero, suc, ◌-ℤ◌, List, [], ◌∷◌, length, Result, Ok, Err, All, refl, sym, ap, ap₂, ◌∙◌, arith}
use Rattle.std.proofs.lemmas.Int.{ints}
use Rattle.std.proofs.lemmas.List.Elements.{All-weaker}
use lib.IntN.{ℤ, pos, negsuc, ◌+ℤ◌, ◌*ℤ◌}
use lib.Signed.{◌≤ℤ◌, ◌<ℤ◌}
use Rattle.pa_ring.specs.Sums.{number_at, SameNumbers, times}
use Rattle.pa_ring.proofs.Integers.{null, ◌⋆◌, ◌⊞◌, <ℤ-≤ℤ}
use Rattle.pa_ring.proofs.IntegerTactics.{by_equations, reads}
use Rattle.pa_ring.proofs.Sums.{number_at-sum_of, number_at-times}
use Rattle.pa_math.specs.Answers.{and_then}
use Rattle.pa_math.proofs.Answers.{and_then_ok, ok_same}
use Rattle.pa_frac.specs.declared.wide.Wide.{Wide}
use Rattle.pa_frac.specs.Width.{within}
use Rattle.pa_frac.proofs.Width.{within_ok}
use Rattle.pa_meaning.specs.Rows.{Row, Point, Meets, MeetsAll, primitive}
use Rattle.pa_meaning.specs.Weights.{Weights, combined}
use Rattle.pa_meaning.specs.Shifting.{shifted, less_weighted}
use Rattle.pa_meaning.proofs.Shifting.{Meets-shifted}
use Rattle.pa_witness.proofs.Widths.{primitive_length, shifted_length}
use Rattle.pa_row.specs.Width.{IsCanonical}
use Rattle.pa_row.specs.Sums.{dot_in, numerators, bounds_at, columns_in, times_in, differences_in, shifted_in}
use Rattle.pa_row.specs.Loops.{scaled_less_in, columns_shifted, bound_shifted, less_weighted_in}
use Rattle.pa_row.proofs.Listed.{combined_is}
use Rattle.pa_row.proofs.Shifts.{always_wide}
use Rattle.pa_row.proofs.WeightedSums.{IsCombined, combined_exact, times_exact, times_length, same_lists}

-- ---- differences
differences_exact : (xs ys zs : List ℤ) (i : ℕ) → length xs ≡ length ys → Ok zs ≡ differences_in xs ys → number_at zs i +ℤ number_at ys i ≡ number_at xs i
differences_exact [] [] zs i e h = ap (λ t. number_at t i +ℤ pos 0) (ok_same zs [] h)
differences_exact [] (y ∷ ys) zs i e h = absurd (omega arith)
differences_exact (x ∷ xs) [] zs i e h = absurd (omega arith)
differences_exact (x ∷ xs) (y ∷ ys) zs zero e h =
    let (z, f, j) = and_then_ok (within 126 (x -ℤ y)) (λ z. and_then (differences_in xs ys) (λ zs. Ok (z ∷ zs))) zs h in
    let (rest, g, l) = and_then_ok (differences_in xs ys) (λ zs. Ok (z ∷ zs)) zs j in
    let z_is : z ≡ x -ℤ y = (within_ok 126 z (x -ℤ y) f).1 in
    ap (λ t. number_at t zero +ℤ y) (ok_same zs (z ∷ rest) l) ∙ omega (arith, ints, z_is)
differences_exact (x ∷ xs) (y ∷ ys) zs (suc i) e h =
    let (z, f, j) = and_then_ok (within 126 (x -ℤ y)) (λ z. and_then (differences_in xs ys) (λ zs. Ok (z ∷ zs))) zs h in
    let (rest, g, l) = and_then_ok (differences_in xs ys) (λ zs. Ok (z ∷ zs)) zs j in
    ap (λ t. number_at t (suc i) +ℤ number_at ys i) (ok_same zs (z ∷ rest) l) ∙ differences_exact xs ys rest i (omega arith) g

differences_length : (xs ys zs : List ℤ) → length xs ≡ length ys → Ok zs ≡ differences_in xs ys → length zs ≡ length xs
differences_length [] ys zs e h = ap length (ok_same zs [] h)
differences_length (x ∷ xs) [] zs e h = absurd (omega arith)
differences_length (x ∷ xs) (y ∷ ys) zs e h =
    let (z, f, j) = and_then_ok (within 126 (x -ℤ y)) (λ z. and_then (differences_in xs ys) (λ zs. Ok (z ∷ zs))) zs h in
    let (rest, g, l) = and_then_ok (differences_in xs ys) (λ zs. Ok (z ∷ zs)) zs j in
    ap length (ok_same zs (z ∷ rest) l) ∙ ap suc (differences_length xs ys rest (omega arith) g)

-- ---- the exact value
less_weighted_length : (term : Row) (rows : List Row) (w : Weights) → All (λ r. length r.c ≡ length term.c) rows
    → length (less_weighted term rows w).c ≡ length term.c
less_weighted_length term rows w wide = sym (primitive_length (less_weighted term rows w)) ∙ shifted_length (length term.c) term rows w refl wide

-- numbers that are not `Wide` are those of the term times the denominator, less the weighted rows
pub less_weighted_is : (term : Row) (rows : List Row) (w : Weights) (zs : List ℤ) (b : ℤ) → All (λ r. length r.c ≡ length term.c) rows →
    Ok zs ≡ columns_shifted rows w term.c → Ok b ≡ bound_shifted rows w term.b → record { c = zs; b = b } ≡ less_weighted term rows w
less_weighted_is term rows w zs b wide h k =
    let (sums, e, i) =
    and_then_ok (columns_in rows w.parts zero (length term.c)) (λ sums. and_then (times_in w.den term.c) (λ scaled. differences_in scaled sums)) zs h in
    let (scaled, f, j) = and_then_ok (times_in w.den term.c) (λ scaled. differences_in scaled sums) zs i in
    let (sum, g, l) = and_then_ok (dot_in (numerators w.parts) (bounds_at rows w.parts)) (λ sum. scaled_less_in w.den term.b sum) b k in
    let (product, m, o) = and_then_ok (within 126 (w.den *ℤ term.b)) (λ scaled. within 126 (scaled -ℤ sum)) b l in
    let is : IsCombined rows w.parts (length term.c) (record { c = sums; b = sum }) =
    combined_exact rows w.parts (length term.c) (record { c = sums; b = sum }) wide (combined_is rows w.parts (length term.c) sums sum (sym e) g) in
    let scaled_is : scaled ≡ times w.den term.c = times_exact w.den term.c scaled f in
    let scaled_long : length scaled ≡ length term.c = ap length scaled_is ∙ times_length w.den term.c in
    let long : length scaled ≡ length sums = scaled_long ∙ sym is.length in
    let total : Row = combined w.parts rows in
    let left : Row = less_weighted term rows w in
    let same : SameNumbers zs left.c =
    λ n.
    let own : number_at left.c n ≡ number_at scaled n +ℤ negsuc 0 *ℤ number_at total.c n =
    number_at-sum_of (times w.den term.c) (times (negsuc 0) total.c) n
    ∙ ap₂ (λ a b. a +ℤ b) (ap (λ t. number_at t n) (sym scaled_is)) (number_at-times (negsuc 0) total.c n) in
    by_equations (number_at zs n ∷ number_at sums n ∷ number_at scaled n ∷ number_at total.c n ∷ number_at left.c n ∷ [])
    (null (differences_exact scaled sums zs n long j) ⊞ negsuc 0 ⋆ null own ⊞ negsuc 0 ⋆ null (is.coefficients n)) (search reads depth 40) tt in
    let numbers : zs ≡ left.c =
    same_lists zs left.c (differences_length scaled sums zs long j ∙ scaled_long ∙ sym (less_weighted_length term rows w wide)) same in
    let product_is : product ≡ w.den *ℤ term.b = (within_ok 126 product (w.den *ℤ term.b) m).1 in
    let difference : b ≡ product -ℤ sum = (within_ok 126 b (product -ℤ sum) o).1 in
    let bound : b ≡ left.b = omega (arith, ints, product_is, difference, is.bound) in
    ap₂ (λ c b. record { c = c; b = b }) numbers bound

-- ---- the sums in another order
no_bound : (r : Result (List ℤ) Wide) (e : Wide)
    → (let out : Result Row Wide = Err e in out) ≡ and_then {B = Row} (and_then {B = Row} r (λ c. Err e)) (λ row. Ok (primitive row))
no_bound (Ok c) e = refl
no_bound (Err d) e = refl

all_there : (r : Result (List ℤ) Wide) (s : Result ℤ Wide) →
    and_then {B = Row} r (λ c. and_then {B = Row} s (λ b. Ok (primitive (record { c = c; b = b }))))
    ≡ and_then {B = Row} (and_then {B = Row} r (λ c. and_then {B = Row} s (λ b. Ok (record { c = c; b = b })))) (λ row. Ok (primitive row))
all_there (Ok c) (Ok b) = refl
all_there (Ok c) (Err e) = refl
all_there (Err e) s = refl

shifted_order : (xs ys : Result (List ℤ) Wide) (s t : Result ℤ Wide)
    → and_then {B = Row} (and_then {B = Row} xs (λ c. and_then {B = Row} s (λ b. Ok (record { c = c; b = b }))))
    (λ sum. and_then {B = Row} (and_then {B = Row} ys (λ c. and_then {B = Row} t (λ b. Ok (record { c = c; b = b }))))
    (λ scaled. and_then {B = Row} (differences_in scaled.c sum.c)
    (λ c. and_then {B = Row} (within 126 (scaled.b -ℤ sum.b)) (λ b. Ok (primitive (record { c = c; b = b }))))))
    ≡ and_then {B = Row} (and_then {B = Row} (and_then xs (λ sums. and_then ys (λ scaled. differences_in scaled sums)))
    (λ c. and_then {B = Row} (and_then s (λ sum. and_then t (λ scaled. within 126 (scaled -ℤ sum)))) (λ b. Ok (record { c = c; b = b }))))
    (λ row. Ok (primitive row))
shifted_order (Err e) ys s t = refl
shifted_order (Ok xs) (Err d) (Ok s) t = refl
shifted_order (Ok xs) (Err d) (Err e) t = refl
shifted_order (Ok xs) (Ok ys) (Err e) t = no_bound (differences_in ys xs) e
shifted_order (Ok xs) (Ok ys) (Ok s) (Err e) = no_bound (differences_in ys xs) e
shifted_order (Ok xs) (Ok ys) (Ok s) (Ok t) = all_there (differences_in ys xs) (within 126 (t -ℤ s))

-- the shifted row is what is left of the term, made primitive
pub shifted_by_columns : (term : Row) (rows : List Row) (w : Weights)
    → shifted_in term rows w ≡ and_then {B = Row} (less_weighted_in term rows w) (λ row. Ok (primitive row))
shifted_by_columns term rows w =
    shifted_order (columns_in rows w.parts zero (length term.c)) (times_in w.den term.c) (dot_in (numerators w.parts) (bounds_at rows w.parts))
    (within 126 (w.den *ℤ term.b))

-- An answer that is not `Wide` is the denominator times the term, less the weighted rows, made primitive.
pub shifted_exact : (term : Row) (rows : List Row) (w : Weights) (answer : Row) → All (λ r. length r.c ≡ length term.c) rows
    → Ok answer ≡ shifted_in term rows w → answer ≡ shifted term rows w
shifted_exact term rows w answer wide h =
    let (row, e, last) = and_then_ok (less_weighted_in term rows w) (λ row. Ok (primitive row)) answer (h ∙ shifted_by_columns term rows w) in
    let (c, f, i) =
    and_then_ok (columns_shifted rows w term.c) (λ c. and_then {B = Row} (bound_shifted rows w term.b) (λ b. Ok (record { c = c; b = b }))) row e in
    let (b, g, j) = and_then_ok (bound_shifted rows w term.b) (λ b. Ok (record { c = c; b = b })) row i in
    ok_same answer (primitive row) last ∙ ap primitive (ok_same row (record { c = c; b = b }) j ∙ less_weighted_is term rows w c b wide f g)

-- a point that meets what is left of the term, and the rows, meets the term
pub less_weighted_points : (term : Row) (rows : List Row) (w : Weights) (x : Point) → IsCanonical w → Meets (less_weighted term rows w) x → MeetsAll rows x
    → Meets term x
less_weighted_points term rows w x canonical met all =
    Meets-shifted term rows w x canonical.positive
    (All-weaker (λ (part : ℕ × ℤ). pos 0 <ℤ part.1) (λ (part : ℕ × ℤ). pos 0 ≤ℤ part.1) (λ part up. <ℤ-≤ℤ up) w.parts canonical.numerators) all met
