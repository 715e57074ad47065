-- Costs of rows with others between them.
use Rattle.std.proofs.Common.{◌≡◌, refl, sym, ap, ap₂, ◌∙◌, subst, ℕ, ◌≤◌, List, [], ◌∷◌, ◌++◌, take, drop, length, Result, Ok, Err, All}
use Rattle.std.proofs.Common.{IfOk, suc, arith}
use Rattle.std.proofs.lemmas.List.{length-take, take-append-drop}
use Rattle.std.proofs.Math.Seq.{drop-append_seam, take-append_seam}
use Rattle.std.proofs.lemmas.List.Elements.{All-append, All-drop, All-take}
use Rattle.pa_math.specs.Answers.{and_then, seen_as}
use Rattle.pa_math.proofs.Answers.{and_then_ok, ok_same}
use Rattle.pa_frac.specs.declared.wide.Wide.{Wide}
use Rattle.pa_meaning.specs.Rows.{Row, Point}
use Rattle.pa_shift.specs.Seen.{with_costs}
use Rattle.pa_shift.specs.Shifting.{costed_in, costed_row, with_between}

-- two lists of costs, of which the first one is formed first
abbrev both : Result (List Row) Wide → Result (List Row) Wide → Result (List Row) Wide
both a b = and_then a (λ front. and_then b (λ back. Ok (front ++ back)))

headed : (first : Row) (a b : Result (List Row) Wide)
    → both (and_then a (λ others. Ok (first ∷ others))) b ≡ and_then (both a b) (λ others. Ok (first ∷ others))
headed first (Ok a) (Ok b) = refl
headed first (Ok a) (Err e) = refl
headed first (Err e) b = refl

costed_both : (x : Point) (xs ys : List Row) → costed_in x (xs ++ ys) ≡ both (costed_in x xs) (costed_in x ys)
costed_both x [] ys = by (costed_in x ys)
  where
    by : (b : Result (List Row) Wide) → b ≡ and_then b (λ back. Ok back)
    by (Ok b) = refl
    by (Err e) = refl
costed_both x (row ∷ xs) ys =
    ap (λ r. and_then (costed_row x row) (λ first. and_then r (λ others. Ok (first ∷ others)))) (costed_both x xs ys) ∙ by (costed_row x row)
  where
    by : (s : Result Row Wide) → and_then s (λ first. and_then (both (costed_in x xs) (costed_in x ys)) (λ others. Ok (first ∷ others)))
        ≡ both (and_then s (λ first. and_then (costed_in x xs) (λ others. Ok (first ∷ others)))) (costed_in x ys)
    by (Ok first) = sym (headed first (costed_in x xs) (costed_in x ys))
    by (Err e) = refl

pub costed_length : (x : Point) (rows costs : List Row) → Ok costs ≡ costed_in x rows → length costs ≡ length rows
costed_length x [] costs h = ap length (ok_same costs [] h)
costed_length x (row ∷ rows) costs h =
    let (first, e, j) = and_then_ok (costed_row x row) (λ first. and_then (costed_in x rows) (λ others. Ok (first ∷ others))) costs h in
    let (others, f, k) = and_then_ok (costed_in x rows) (λ others. Ok (first ∷ others)) costs j in
    ap length (ok_same costs (first ∷ others) k) ∙ ap suc (costed_length x rows others f)

between : (place : ℕ) (a b c : Result (List Row) Wide) → ((front : List Row) → Ok front ≡ a → length front ≡ place)
    → with_costs place b (both a c) ≡ both (both a b) c
between place (Ok a) (Ok b) (Ok c) h =
    let same : length a ≡ place = h a refl in
    subst (λ n. with_costs n (Ok b) (both (Ok a) (Ok c)) ≡ both (both (Ok a) (Ok b)) (Ok c)) same
    (ap Ok (ap₂ (λ front back. (front ++ b) ++ back) (take-append_seam a c) (drop-append_seam a c)))
between place (Ok a) (Ok b) (Err e) h = refl
between place (Ok a) (Err d) (Ok c) h = refl
between place (Ok a) (Err d) (Err e) h = refl
between place (Err e) b c h = refl

pub costed_between : (x : Point) (place : ℕ) (others rows : List Row) → place ≤ length rows
    → with_costs place (costed_in x others) (costed_in x rows) ≡ costed_in x (with_between place others rows)
costed_between x place others rows within =
    ap (λ xs. with_costs place (costed_in x others) (costed_in x xs)) (sym (take-append-drop place rows))
    ∙ ap (with_costs place (costed_in x others)) (costed_both x (take place rows) (drop place rows))
    ∙ between place (costed_in x (take place rows)) (costed_in x others) (costed_in x (drop place rows)) long
    ∙ ap (λ r. both r (costed_in x (drop place rows))) (sym (costed_both x (take place rows) others))
    ∙ sym (costed_both x (take place rows ++ others) (drop place rows))
  where
    long : (front : List Row) → Ok front ≡ costed_in x (take place rows) → length front ≡ place
    long front h =
        let same : length front ≡ length (take place rows) = costed_length x (take place rows) front h in
        let first = length-take place rows in
        omega (arith, same, first, within)

-- the same of rows that are seen through a view
pub more_is : {T : Type 0} (view : T → List Row) (x : Point) (place : ℕ) (others rows all_rows : List Row) (costs all : Result T Wide) → place ≤ length rows
    → seen_as view costs ≡ costed_in x rows → seen_as view all ≡ with_costs place (costed_in x others) (seen_as view costs)
    → all_rows ≡ with_between place others rows → seen_as view all ≡ costed_in x all_rows
more_is view x place others rows all_rows costs all within are is same =
    is ∙ ap (with_costs place (costed_in x others)) are ∙ costed_between x place others rows within ∙ ap (costed_in x) (sym same)

pub costs_long : {T : Type 0} (view : T → List Row) (x : Point) (place : ℕ) (rows : List Row) (costs : Result T Wide) → place ≤ length rows
    → seen_as view costs ≡ costed_in x rows → IfOk costs (λ v. place ≤ length (view v))
costs_long view x place rows (Ok v) within are = let same = costed_length x rows (view v) are in omega (arith, same, within)
costs_long view x place rows (Err e) within are = tt

pub columns_between : (n place : ℕ) (others rows : List Row) → All (λ (r : Row). n ≤ length r.c) others → All (λ (r : Row). n ≤ length r.c) rows
    → All (λ (r : Row). n ≤ length r.c) (with_between place others rows)
columns_between n place others rows h k =
    All-append (λ (r : Row). n ≤ length r.c) (take place rows ++ others) (drop place rows)
    (All-append (λ (r : Row). n ≤ length r.c) (take place rows) others (All-take (λ (r : Row). n ≤ length r.c) place rows k) h)
    (All-drop (λ (r : Row). n ≤ length r.c) place rows k)
