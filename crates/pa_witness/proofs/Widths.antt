-- How many columns the rows of results have.
use Rattle.std.proofs.Common.{◌≡◌, refl, sym, ap, subst, ◌∙◌, ℕ, zero, suc, pred, ◌<◌, ◌≤◌, Bool, true, false, not, cond, List, [], ◌∷◌, ◌++◌, length, map}
use Rattle.std.proofs.Common.{filter, flat_map, replicate, int_lt, int_div, neg_ℤ, Option, Some, None, All, length-take-le, arith}
use Rattle.std.proofs.lemmas.List.{length-map}
use Rattle.std.proofs.lemmas.List.Elements.{All-nil, All-cons, All-head, All-tail, All-weaker, All-map, All-append, All-filter}
use Rattle.std.specs.List.{list_any}
use Rattle.std.specs.Ordering.{int_eq}
use lib.IntN.{ℤ, pos, negsuc}
use Rattle.pa_ring.specs.Sums.{number_at, sum_of, times, without}
use Rattle.pa_ring.proofs.Lists.{All-flat_map}
use Rattle.pa_math.specs.Answers.{given}
use Rattle.pa_math.specs.Divisors.{gcd_ℤ, gcd_all}
use Rattle.pa_meaning.specs.Rows.{Row, row_at, primitive, row_sum, without_column, front_row}
use Rattle.pa_meaning.specs.Weights.{Weights, combined, impossible}
use Rattle.pa_meaning.specs.Contracts.{Name}
use Rattle.pa_witness.specs.Elimination.{cancelled, zeros_at, positives_at, negatives_at, eliminated}
use Rattle.pa_meaning.specs.Shifting.{less_weighted, shifted}
use Rattle.pa_witness.specs.Shifts.{shifted_rows}
use Rattle.pa_witness.specs.Thinning.{Dropped, is_constant, is_impossible, tightest, cleaned, places_of, without_places, thinned}
use Rattle.pa_witness.specs.Steps.{Version, equality_in, stepped, kept_at, others_at, substituted, substituted_at}
use Rattle.pa_witness.specs.Projection.{AreThere, place_of, names_left, projected}
use Rattle.pa_witness.proofs.Thinning.{All-without_places}
use Rattle.pa_witness.proofs.Substitution.{All-row_at}
use Rattle.pa_witness.proofs.Equalities.{equality_in_is}
use Rattle.pa_witness.proofs.Cleaning.{All-tightest}
use Rattle.pa_witness.proofs.NamedColumns.{length-without, place_below}

-- each row has this many columns
abbrev pub HasColumns : ℕ → List Row → Type 0
HasColumns n rows = All (λ r. length r.c ≡ n) rows

-- ---- one row
length-times : (k : ℤ) (xs : List ℤ) → length (times k xs) ≡ length xs
length-times k [] = refl
length-times k (x ∷ xs) = ap suc (length-times k xs)

sum_of_length : (n : ℕ) (xs ys : List ℤ) → length xs ≡ n → length ys ≤ n → length (sum_of xs ys) ≡ n
sum_of_length n [] [] e h = e
sum_of_length n [] (y ∷ ys) e h = absurd (omega arith)
sum_of_length n (x ∷ xs) [] e h = e
sum_of_length zero (x ∷ xs) (y ∷ ys) e h = absurd (omega arith)
sum_of_length (suc n) (x ∷ xs) (y ∷ ys) e h = ap suc (sum_of_length n xs ys (omega arith) (omega arith))

sum_of_most : (n : ℕ) (xs ys : List ℤ) → length xs ≤ n → length ys ≤ n → length (sum_of xs ys) ≤ n
sum_of_most n [] ys e h = h
sum_of_most n (x ∷ xs) [] e h = e
sum_of_most zero (x ∷ xs) (y ∷ ys) e h = absurd (omega arith)
sum_of_most (suc n) (x ∷ xs) (y ∷ ys) e h = let rest = sum_of_most n xs ys (omega arith) (omega arith) in omega arith

row_sum_length : (n : ℕ) (m : ℤ) (p : Row) (l : ℤ) (q : Row) → length p.c ≡ n → length q.c ≤ n → length (row_sum m p l q).c ≡ n
row_sum_length n m p l q e h = sum_of_length n (times m p.c) (times l q.c) (length-times m p.c ∙ e) (let t = length-times l q.c in omega arith)

pub primitive_length : (r : Row) → length (primitive r).c ≡ length r.c
primitive_length r = length-map r.c (λ x. int_div x (gcd_all (r.b ∷ r.c)))

row_at_most : (rows : List Row) (n i : ℕ) → HasColumns n rows → length (row_at rows i).c ≤ n
row_at_most [] n i h = omega arith
row_at_most (r ∷ rows) n zero h = let e : length r.c ≡ n = All-head (λ r. length r.c ≡ n) r rows h in omega arith
row_at_most (r ∷ rows) n (suc i) h = row_at_most rows n i (All-tail (λ r. length r.c ≡ n) r rows h)

combined_most : (rows : List Row) (parts : List (ℕ × ℤ)) (n : ℕ) → HasColumns n rows → length (combined parts rows).c ≤ n
combined_most rows [] n h = omega arith
combined_most rows (part ∷ parts) n h =
    let first : length (times part.1 (row_at rows part.0).c) ≤ n = let e = length-times part.1 (row_at rows part.0).c in let m =
    row_at_most rows n part.0 h in omega arith in
    sum_of_most n (times part.1 (row_at rows part.0).c) (combined parts rows).c first (combined_most rows parts n h)

pub shifted_length : (n : ℕ) (t : Row) (rows : List Row) (w : Weights) → length t.c ≡ n → HasColumns n rows → length (shifted t rows w).c ≡ n
shifted_length n t rows w e h = primitive_length (less_weighted t rows w)
    ∙ row_sum_length n w.den t (negsuc 0) (combined w.parts rows) e (combined_most rows w.parts n h)

-- ---- shifted rows
pub shifted_rows_columns : (first n : ℕ) (rows ts : List Row) (ws : List Weights) → first ≤ n → HasColumns n rows → HasColumns n ts
    → HasColumns first (shifted_rows first rows ts ws)
shifted_rows_columns first n rows [] ws less h k = All-nil (λ r. length r.c ≡ first)
shifted_rows_columns first n rows (t ∷ ts) [] less h k = All-nil (λ r. length r.c ≡ first)
shifted_rows_columns first n rows (t ∷ ts) (w ∷ ws) less h k =
    let long : length (shifted t rows w).c ≡ n = shifted_length n t rows w (All-head (λ r. length r.c ≡ n) t ts k) h in
    All-cons (λ r. length r.c ≡ first) (front_row first (shifted t rows w)) (shifted_rows first rows ts ws)
    (length-take-le first (shifted t rows w).c (omega arith))
    (shifted_rows_columns first n rows ts ws less h (All-tail (λ r. length r.c ≡ n) t ts k))

-- ---- thinned lists
replicate_length : (n : ℕ) (z : ℤ) → length (replicate n z) ≡ n
replicate_length zero z = refl
replicate_length (suc n) z = ap suc (replicate_length n z)

pub cleaned_columns : (n : ℕ) (rows : List Row) → HasColumns n rows → HasColumns n (cleaned n rows)
cleaned_columns n rows h = by (list_any is_impossible rows)
  where
    by : (b : Bool) → HasColumns n (cond b (impossible n ∷ []) (tightest [] (filter (λ r. not (is_constant r)) rows)))
    by true = All-cons (λ r. length r.c ≡ n) (impossible n) [] (replicate_length n (pos 0)) (All-nil (λ r. length r.c ≡ n))
    by false = All-tightest (λ r. length r.c ≡ n) [] (filter (λ r. not (is_constant r)) rows)
        (All-filter (λ r. not (is_constant r)) (λ r. length r.c ≡ n) rows h)

pub thinned_columns : (n : ℕ) (rows : List Row) (drops : List Dropped) → HasColumns n rows → HasColumns n (thinned n rows drops)
thinned_columns n rows drops h = All-without_places (λ r. length r.c ≡ n) (places_of drops) 0 (cleaned n rows) (cleaned_columns n rows h)

-- ---- eliminated columns
sum_length : (n : ℕ) (m : ℤ) (p : Row) (l : ℤ) (q : Row) → length p.c ≡ n → length q.c ≡ n → length (primitive (row_sum m p l q)).c ≡ n
sum_length n m p l q e f = primitive_length (row_sum m p l q) ∙ row_sum_length n m p l q e (omega arith)

pub cancelled_length : (n k : ℕ) (p q : Row) → length p.c ≡ n → length q.c ≡ n → length (cancelled k p q).c ≡ n
cancelled_length n k p q e f =
    let g : ℤ = gcd_ℤ (number_at p.c k) (number_at q.c k) in
    sum_length n (int_div (neg_ℤ (number_at q.c k)) g) p (int_div (number_at p.c k) g) q e f

abbrev pairs_at : ℕ → List Row → List Row
pairs_at k rows = flat_map (λ p. map (cancelled k p) (negatives_at k rows)) (positives_at k rows)

pub eliminated_columns : (n k : ℕ) (rows : List Row) → k < n → HasColumns n rows → HasColumns (pred n) (eliminated k rows)
eliminated_columns n k rows less h =
    All-map (λ r. length r.c ≡ pred n) (without_column k) (zeros_at k rows ++ pairs_at k rows)
    (All-weaker (λ r. length r.c ≡ n) (λ r. length (without k r.c) ≡ pred n) (λ r e. length-without k r.c (omega arith) ∙ ap pred e)
    (zeros_at k rows ++ pairs_at k rows)
    (All-append (λ r. length r.c ≡ n) (zeros_at k rows) (pairs_at k rows) (All-filter (λ r. int_eq (number_at r.c k) (pos 0)) (λ r. length r.c ≡ n) rows h)
    (All-flat_map (λ r. length r.c ≡ n) (λ p. map (cancelled k p) (negatives_at k rows)) (positives_at k rows)
    (All-weaker (λ r. length r.c ≡ n) (λ p. All (λ r. length r.c ≡ n) (map (cancelled k p) (negatives_at k rows)))
    (λ p e. All-map (λ r. length r.c ≡ n) (cancelled k p) (negatives_at k rows)
    (All-weaker (λ r. length r.c ≡ n) (λ q. length (cancelled k p q).c ≡ n) (λ q f. cancelled_length n k p q e f) (negatives_at k rows)
    (All-filter (λ r. int_lt (number_at r.c k) (pos 0)) (λ r. length r.c ≡ n) rows h)))
    (positives_at k rows) (All-filter (λ r. int_lt (pos 0) (number_at r.c k)) (λ r. length r.c ≡ n) rows h)))))

substituted_length : (n k : ℕ) (p q row : Row) → length p.c ≡ n → length q.c ≡ n → length row.c ≡ n → length (substituted k p q row).c ≡ n
substituted_length n k p q row e f g = by (int_lt (pos 0) (number_at row.c k))
  where
    by : (b : Bool) → length (cond b (cancelled k row q) (cancelled k p row)).c ≡ n
    by true = cancelled_length n k row q g f
    by false = cancelled_length n k p row e g

pub stepped_columns : (v : Version) (n k : ℕ) (rows : List Row) → k < n → HasColumns n rows → HasColumns (pred n) (stepped v k rows)
stepped_columns v n k rows less h = by (equality_in v k rows) refl
  where
    shorter : (r : Row) → length r.c ≡ n → length (without k r.c) ≡ pred n
    shorter r e = length-without k r.c (omega arith) ∙ ap pred e

    by : (o : Option (ℕ × ℕ)) → equality_in v k rows ≡ o → HasColumns (pred n) (given (eliminated k rows) o (substituted_at k rows))
    by None none = eliminated_columns n k rows less h
    by (Some (i, j)) some =
        let is = equality_in_is v k rows (i, j) some in
        let p : length (row_at rows i).c ≡ n = All-row_at (λ r. length r.c ≡ n) rows i is.first h in
        let q : length (row_at rows j).c ≡ n = All-row_at (λ r. length r.c ≡ n) rows j is.second h in
        All-append (λ r. length r.c ≡ pred n) (kept_at k rows)
        (map (λ row. without_column k (substituted k (row_at rows i) (row_at rows j) row)) (others_at k i j rows))
        (All-map (λ r. length r.c ≡ pred n) (without_column k) (zeros_at k rows)
        (All-weaker (λ r. length r.c ≡ n) (λ r. length (without k r.c) ≡ pred n) shorter (zeros_at k rows)
        (All-filter (λ r. int_eq (number_at r.c k) (pos 0)) (λ r. length r.c ≡ n) rows h)))
        (All-map (λ r. length r.c ≡ pred n) (λ row. without_column k (substituted k (row_at rows i) (row_at rows j) row)) (others_at k i j rows)
        (All-weaker (λ r. length r.c ≡ n)
        (λ r. length (without k (substituted k (row_at rows i) (row_at rows j) r).c) ≡ pred n)
        (λ r e. shorter (substituted k (row_at rows i) (row_at rows j) r) (substituted_length n k (row_at rows i) (row_at rows j) r p q e))
        (others_at k i j rows)
        (All-filter (λ r. not (int_eq (number_at r.c k) (pos 0))) (λ r. length r.c ≡ n) (without_places (i ∷ j ∷ []) 0 rows)
        (All-without_places (λ r. length r.c ≡ n) (i ∷ j ∷ []) 0 rows h))))

-- the rows that are left have a column for each name that is left
pub projected_columns_fit : (v : Version) (names : List Name) (rows : List Row) (gone : List Name) (steps : List (List Dropped)) → AreThere names gone
    → length steps ≡ length gone
    → HasColumns (length names) rows → HasColumns (length (names_left names gone)) (projected v names rows gone steps)
projected_columns_fit v names rows [] steps there e h = h
projected_columns_fit v names rows (g ∷ gone) [] there e h = absurd (omega arith)
projected_columns_fit v names rows (g ∷ gone) (drops ∷ steps) there e h =
    let left : List Name = without (place_of g names) names in
    let less : place_of g names < length names = place_below g names there.0 in
    let made : HasColumns (length left) (stepped v (place_of g names) rows) =
    subst (λ n. HasColumns n (stepped v (place_of g names) rows)) (sym (length-without (place_of g names) names less))
    (stepped_columns v (length names) (place_of g names) rows less h) in
    projected_columns_fit v left (thinned (length left) (stepped v (place_of g names) rows) drops) gone steps there.1 (omega arith)
    (thinned_columns (length left) (stepped v (place_of g names) rows) drops made)
