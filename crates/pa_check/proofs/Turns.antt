-- One turn of each loop over items.
use Rattle.std.proofs.Common.{◌≡◌, ℕ, zero, suc, ◌<◌, ◌+◌, List, [], ◌∷◌, ◌++◌, drop, take, length, get_or, ◌≤◌, Bool, true, false, Result, Ok}
use Rattle.std.proofs.Common.{Option, Some, None, ℤ, nat_eq, not, ◌&&◌, ◌||◌, refl, sym, ap, ◌∙◌, arith, add-one}
use Rattle.std.proofs.Math.Seq.{drop-cons}
use Rattle.pa_frac.specs.declared.wide.Wide.{Wide}
use Rattle.pa_meaning.specs.Rows.{Row, Point}
use Rattle.pa_meaning.specs.Weights.{Weights}
use Rattle.pa_check.specs.Tests.{both, each, each_with}
use Rattle.pa_check.specs.Proofs.{proof_in, proofs_in}
use Rattle.pa_check.specs.Directions.{level_in}
use Rattle.pa_check.specs.Points.{met_in}
use Rattle.pa_check.specs.Goals as goals
use Rattle.pa_meaning.specs.Directions.{Stuck}
use Rattle.pa_check.specs.StuckRows.{stuck_in, circle_from}
use Rattle.pa_check.specs.Shifts.{shift_in, shifts_from}
use Rattle.pa_math.specs.Answers.{and_then, given}
use Rattle.pa_witness.specs.Thinning.{Dropped}
use Rattle.pa_check.specs.Drops.{is_dropped, names_none, drop_in, drops_from}
use Rattle.std.proofs.lemmas.List.{take_more}

each_turn : {A : Type 0} (test : A → Result Bool Wide) (xs : List A) (i : ℕ) (x : A) → i < length xs → x ≡ get_or xs i x
    → each test (drop i xs) ≡ both (test x) (each test (drop (i + 1) xs))
each_turn test xs i x h is = rw (add-one, drop-cons xs i x h, ← is) refl

pub level_turn : (d : List ℤ) (rows : List Row) (i : ℕ) (row : Row) → i < length rows → row ≡ get_or rows i row
    → each (level_in d) (drop i rows) ≡ both (level_in d row) (each (level_in d) (drop (i + 1) rows))
level_turn d rows i row h is = each_turn (level_in d) rows i row h is

pub met_turn : (x : Point) (rows : List Row) (i : ℕ) (row : Row) → i < length rows → row ≡ get_or rows i row
    → each (met_in x) (drop i rows) ≡ both (met_in x row) (each (met_in x) (drop (i + 1) rows))
met_turn x rows i row h is = each_turn (met_in x) rows i row h is

pub column_turn : (rows : List Row) (w : Weights) (least : Bool) (cs : List ℤ) (i : ℕ) (c : ℤ) → i < length cs → c ≡ get_or cs i c →
    goals.columns_in rows w least i (drop i cs) ≡ both (goals.column_in rows w least i c) (goals.columns_in rows w least (i + 1) (drop (i + 1) cs))
column_turn rows w least cs i c h is = rw (add-one, drop-cons cs i c h, ← is) refl

-- ---- drops
pub named_turn : (done : List Dropped) (place : ℕ) (parts : List (ℕ × ℤ)) (i : ℕ) (part : ℕ × ℤ) → i < length parts → part ≡ get_or parts i part →
    names_none done place (drop i parts) ≡ (not (nat_eq part.0 place || is_dropped done part.0) && names_none done place (drop (i + 1) parts))
named_turn done place parts i part h is = rw (add-one, drop-cons parts i part h, ← is) refl

pub drop_turn : (rows : List Row) (own : ℕ) (drops : List Dropped) (i : ℕ) (d : Dropped) → i < length drops → d ≡ get_or drops i d →
    drops_from rows own (take i drops) (drop i drops) ≡ both (drop_in rows own (take i drops) d) (drops_from rows own (take (i + 1) drops) (drop (i + 1) drops))
drop_turn rows own drops i d h is = rw (take_more drops i d h, add-one, drop-cons drops i d h, ← is) refl

-- ---- items with their certificates
-- the items and the certificates at a place, both there
pub with_turn : (rows asked : List Row) (ws : List Weights) (i : ℕ) (row : Row) (w : Weights) → i < length asked → i < length ws → row ≡ get_or asked i row
    → w ≡ get_or ws i w →
    proofs_in rows (drop i asked) (drop i ws) ≡ both (proof_in rows row w) (proofs_in rows (drop (i + 1) asked) (drop (i + 1) ws))
with_turn rows asked ws i row w h k is was = rw (add-one, drop-cons asked i row h, drop-cons ws i w k, ← is, ← was) refl

drop-none : {A : Type 0} (xs : List A) (i : ℕ) → length xs ≤ i → drop i xs ≡ []
drop-none [] zero h = refl
drop-none [] (suc i) h = refl
drop-none (x ∷ xs) zero h = absurd (omega arith)
drop-none (x ∷ xs) (suc i) h = drop-none xs i (omega arith)

drop-some : {A : Type 0} (xs : List A) (i : ℕ) → i < length xs → (x : A) × (rest : List A) × (drop i xs ≡ x ∷ rest)
drop-some [] i h = absurd (omega arith)
drop-some (x ∷ xs) zero h = (x, xs, refl)
drop-some (x ∷ xs) (suc i) h = drop-some xs i (omega arith)

-- no certificate is left for an item
pub with_lacking : (rows asked : List Row) (ws : List Weights) (i : ℕ) → i < length asked → length ws ≤ i → proofs_in rows (drop i asked) (drop i ws) ≡ Ok false
with_lacking rows asked ws i h k =
    let (row, rest, is) = drop-some asked i h in
    rw (is, drop-none ws i k) refl

-- behind the last item
pub with_none_left : (rows asked : List Row) (ws : List Weights) (i : ℕ) → length asked ≤ i → length ws ≤ i
    → proofs_in rows (drop i asked) (drop i ws) ≡ Ok true
with_none_left rows asked ws i h k = rw (drop-none asked i h, drop-none ws i k) refl

pub with_too_many : (rows asked : List Row) (ws : List Weights) (i : ℕ) → length asked ≤ i → i < length ws
    → proofs_in rows (drop i asked) (drop i ws) ≡ Ok false
with_too_many rows asked ws i h k =
    let (w, rest, is) = drop-some ws i k in
    rw (drop-none asked i h, is) refl

-- ---- shifts
pub shift_turn : (made : List Row) (n : ℕ) (rows ts : List Row) (ws : List Weights) (i : ℕ) (t : Row) (w : Weights) → i < length ts → i < length ws
    → t ≡ get_or ts i t → w ≡ get_or ws i w →
    shifts_from made n rows (drop i ts) (drop i ws) ≡ and_then (shift_in n rows t w)
    (λ left. given (Ok None) left (λ row. shifts_from (made ++ row ∷ []) n rows (drop (i + 1) ts) (drop (i + 1) ws)))
shift_turn made n rows ts ws i t w h k is was = rw (add-one, drop-cons ts i t h, drop-cons ws i w k, ← is, ← was) refl

pub shift_lacking : (made : List Row) (n : ℕ) (rows ts : List Row) (ws : List Weights) (i : ℕ) → i < length ts → length ws ≤ i
    → shifts_from made n rows (drop i ts) (drop i ws) ≡ Ok None
shift_lacking made n rows ts ws i h k =
    let (t, rest, is) = drop-some ts i h in
    rw (is, drop-none ws i k) refl

pub shift_none_left : (made : List Row) (n : ℕ) (rows ts : List Row) (ws : List Weights) (i : ℕ) → length ts ≤ i → length ws ≤ i
    → shifts_from made n rows (drop i ts) (drop i ws) ≡ Ok (Some made)
shift_none_left made n rows ts ws i h k = rw (drop-none ts i h, drop-none ws i k) refl

pub shift_too_many : (made : List Row) (n : ℕ) (rows ts : List Row) (ws : List Weights) (i : ℕ) → length ts ≤ i → i < length ws
    → shifts_from made n rows (drop i ts) (drop i ws) ≡ Ok None
shift_too_many made n rows ts ws i h k =
    let (w, rest, is) = drop-some ws i k in
    rw (drop-none ts i h, is) refl

-- ---- stuck rows
pub circle_turn : (given : List Row) (parts : List (List Row)) (stuck : List Stuck) (i : ℕ) (s : Stuck) → i < length stuck → s ≡ get_or stuck i s →
    circle_from given parts (take i stuck) (drop i stuck) ≡ both (stuck_in given parts (take i stuck) s)
    (circle_from given parts (take (i + 1) stuck) (drop (i + 1) stuck))
circle_turn given parts stuck i s h is = rw (take_more stuck i s h, add-one, drop-cons stuck i s h, ← is) refl
