-- What the tests of shifts tell.
use Rattle.std.proofs.Common.{◌≡◌, refl, sym, ap, ◌∙◌, subst, ℕ, ◌≤◌, List, [], ◌∷◌, ◌++◌, length, drop, ℤ, pos, Bool, true, false, Option, Some}
use Rattle.std.proofs.Common.{None, Result, Ok, Err, All, Decides, IfOk, arith, if◌then◌else◌, append_assoc, true≢false, option_map}
use Rattle.std.proofs.lemmas.List.Elements.{All-nil, All-cons, All-head, All-tail, All-weaker}
use Rattle.std.proofs.lemmas.Bool.Decides.{Decides-like, not_from_Decides}
use Rattle.std.specs.List.{list_all}
use Rattle.std.specs.Ordering.{int_eq}
use lib.Signed.{◌<ℤ◌, ◌≤ℤ◌}
use Rattle.pa_ring.specs.Sums.{SameNumbers}
use Rattle.pa_ring.proofs.Integers.{<ℤ-≤ℤ}
use Rattle.pa_math.specs.Answers.{IsAnswer, and_then, given, seen_as, told_as}
use Rattle.pa_math.proofs.Answers.{told_as_ok}
use Rattle.pa_frac.specs.declared.wide.Wide.{Wide}
use Rattle.pa_meaning.specs.Rows.{Row, front_row}
use Rattle.pa_meaning.specs.Weights.{Weights, AllPlaced}
use Rattle.pa_meaning.specs.Shifting.{shifted}
use Rattle.pa_witness.specs.Shifts.{ShiftHolds, ShiftsHold, shifted_rows}
use Rattle.pa_row.specs.Width.{IsCanonical}
use Rattle.pa_row.specs.Sums.{shifted_in}
use Rattle.pa_row.proofs.Dots.{and_then_ok, ok_same}
use Rattle.pa_row.proofs.WeightedSums.{Decides-zeros}
use Rattle.pa_row.proofs.ShiftedPoints.{shifted_exact}
use Rattle.pa_row.specs.declared.fault.RowFault.{RowFault}
use Rattle.pa_row.specs.declared.fault.RowFault.TheVariants as fault
use Rattle.pa_row.specs.Answers.{as_fault}
use Rattle.pa_check.specs.Proofs.{are_below}
use Rattle.pa_check.specs.Shifts.{is_gone, left_over, shift_in, shifts_from, shifts_in, IsShifted}
use Rattle.pa_check.proofs.Proofs.{below_decides}

-- one shift: it holds and this row is left, or it does not hold
abbrev pub IsLeft : ℕ → List Row → Row → Weights → Option Row → Type 0
IsLeft n rows t w (Some row) = ShiftHolds n rows t w × (row ≡ front_row n (shifted t rows w))
IsLeft n rows t w None = ¬ ShiftHolds n rows t w

holds_from : (n : ℕ) (rows : List Row) (t : Row) (w : Weights) → IsCanonical w → AllPlaced w.parts rows → SameNumbers (drop n (shifted t rows w).c) []
    → ShiftHolds n rows t w
holds_from n rows t w canonical placed gone = record {
  positive = canonical.positive;
  weights = All-weaker (λ part. pos 0 <ℤ part.1) (λ part. pos 0 ≤ℤ part.1) (λ part l. <ℤ-≤ℤ l) w.parts canonical.numerators;
  places = placed;
  gone = gone;
}

left_tells : (n : ℕ) (rows : List Row) (t : Row) (w : Weights) (gone : Bool) (row : Row) → IsCanonical w → AllPlaced w.parts rows → row ≡ shifted t rows w
    → Decides gone (SameNumbers (drop n (shifted t rows w).c) [])
    → IsLeft n rows t w (if gone then Some (front_row n row) else None)
left_tells n rows t w true row canonical placed is d = (holds_from n rows t w canonical placed (d.0 refl), ap (front_row n) is)
left_tells n rows t w false row canonical placed is d = λ h. absurd (true≢false (sym (d.1 h.gone)))

shift_by : (n : ℕ) (rows : List Row) (t : Row) (w : Weights) (placed : Bool) → Decides placed (AllPlaced w.parts rows) → IsCanonical w
    → All (λ r. length r.c ≡ length t.c) rows
    → (left : Option Row) → (if placed then and_then (shifted_in t rows w) (λ row. Ok (left_over n row)) else Ok None) ≡ Ok left → IsLeft n rows t w left
shift_by n rows t w false d canonical columns left e = subst (IsLeft n rows t w) (ok_same None left e) (λ h. absurd (true≢false (sym (d.1 h.places))))
shift_by n rows t w true d canonical columns left e =
    let (row, is, last) = and_then_ok (shifted_in t rows w) (λ row. Ok (left_over n row)) left (sym e) in
    let exact : row ≡ shifted t rows w = shifted_exact t rows w row columns is in
    subst (IsLeft n rows t w) (sym (ok_same left (left_over n row) last))
    (left_tells n rows t w (is_gone n row) row canonical (d.0 refl) exact
    (subst (λ (r : Row). Decides (is_gone n row) (SameNumbers (drop n r.c) [])) exact (Decides-zeros (drop n row.c))))

pub shift_tells : (n : ℕ) (rows : List Row) (t : Row) (w : Weights) → IsCanonical w → All (λ r. length r.c ≡ length t.c) rows → (left : Option Row)
    → shift_in n rows t w ≡ Ok left → IsLeft n rows t w left
shift_tells n rows t w canonical columns left e =
    shift_by n rows t w (are_below (length rows) w.parts) (below_decides (length rows) w.parts) canonical columns left e

-- ---- all shifts
-- these rows and what the shifts leave, or the shifts do not hold
abbrev pub IsBehind : List Row → ℕ → List Row → List Row → List Weights → Option (List Row) → Type 0
IsBehind made n rows ts ws (Some left) = ShiftsHold n rows ts ws × (left ≡ made ++ shifted_rows n rows ts ws)
IsBehind made n rows ts ws None = ¬ ShiftsHold n rows ts ws

behind_more : (made : List Row) (n : ℕ) (rows : List Row) (t : Row) (ts : List Row) (w : Weights) (ws : List Weights) (row : Row) → ShiftHolds n rows t w
    → row ≡ front_row n (shifted t rows w)
    → (left : Option (List Row)) → IsBehind (made ++ row ∷ []) n rows ts ws left → IsBehind made n rows (t ∷ ts) (w ∷ ws) left
behind_more made n rows t ts w ws row h is None b = λ all. b all.1
behind_more made n rows t ts w ws row h is (Some left) b = (
  (h, b.0),
  b.1 ∙ append_assoc made (row ∷ []) (shifted_rows n rows ts ws) ∙ ap (λ r. made ++ r ∷ shifted_rows n rows ts ws) is,
)

from_tells : (made : List Row) (width n : ℕ) (rows ts : List Row) (ws : List Weights) → All IsCanonical ws → All (λ r. length r.c ≡ width) rows
    → All (λ r. length r.c ≡ width) ts
    → (left : Option (List Row)) → shifts_from made n rows ts ws ≡ Ok left → IsBehind made n rows ts ws left
from_tells made width n rows [] [] canonical given_columns columns left e =
    subst (IsBehind made n rows [] []) (ok_same (Some made) left e) (tt, sym (append_none made))
  where
    append_none : (xs : List Row) → xs ++ [] ≡ xs
    append_none [] = refl
    append_none (x ∷ xs) = ap (λ t. x ∷ t) (append_none xs)
from_tells made width n rows [] (w ∷ ws) canonical given_columns columns left e = subst (IsBehind made n rows [] (w ∷ ws)) (ok_same None left e) (λ h. h)
from_tells made width n rows (t ∷ ts) [] canonical given_columns columns left e = subst (IsBehind made n rows (t ∷ ts) []) (ok_same None left e) (λ h. h)
from_tells made width n rows (t ∷ ts) (w ∷ ws) canonical given_columns columns left e =
    let (first, is, last) = and_then_ok (shift_in n rows t w) (λ left. given (Ok None) left (λ row. shifts_from (made ++ row ∷ []) n rows ts ws)) left
    (sym e) in
    by_first first (shift_tells n rows t w (All-head IsCanonical w ws canonical)
    (λ k d l. given_columns k d l ∙ sym (All-head (λ r. length r.c ≡ width) t ts columns)) first (sym is)) (sym last)
    (λ row f. from_tells (made ++ row ∷ []) width n rows ts ws (All-tail IsCanonical w ws canonical) given_columns
    (All-tail (λ r. length r.c ≡ width) t ts columns) left f)
  where
    by_first : (first : Option Row) → IsLeft n rows t w first → given (Ok None) first (λ row. shifts_from (made ++ row ∷ []) n rows ts ws) ≡ Ok left
        → ((row : Row) → shifts_from (made ++ row ∷ []) n rows ts ws ≡ Ok left → IsBehind (made ++ row ∷ []) n rows ts ws left)
        → IsBehind made n rows (t ∷ ts) (w ∷ ws) left
    by_first None h f rest = subst (IsBehind made n rows (t ∷ ts) (w ∷ ws)) (ok_same None left f) (λ all. h all.0)
    by_first (Some row) h f rest = behind_more made n rows t ts w ws row h.0 h.1 left (rest row f)

pub shifts_tells : (width n : ℕ) (rows ts : List Row) (ws : List Weights) → All IsCanonical ws → All (λ r. length r.c ≡ width) rows
    → All (λ r. length r.c ≡ width) ts
    → (left : Option (List Row)) → shifts_in n rows ts ws ≡ Ok left → IsShifted n rows ts ws left
shifts_tells width n rows ts ws canonical given_columns columns None e = from_tells [] width n rows ts ws canonical given_columns columns None e
shifts_tells width n rows ts ws canonical given_columns columns (Some left) e = from_tells [] width n rows ts ws canonical given_columns columns (Some left) e

-- ---- for the code
pub shifts_told : {V : Type 0} (view : V → List Row) (result : Result (Option V) RowFault) (due : Result (Option (List Row)) Wide)
    (P : Option (List Row) → Type 0) → IsAnswer fault.Memory (told_as as_fault due) (seen_as (option_map view) result)
    → ((left : Option (List Row)) → due ≡ Ok left → P left) → IfOk result (λ left. P (option_map view left))
shifts_told view (Ok left) due P e t = t (option_map view left) (told_as_ok as_fault due (option_map view left) e)
shifts_told view (Err e) due P h t = tt
