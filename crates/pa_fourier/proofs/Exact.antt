-- The rows of a step that is not Wide: their values, their columns, and what they mean.
use Rattle.std.proofs.Common.{◌≡◌, refl, sym, subst, ap, ap₂, ◌∙◌, ℕ, suc, pred, ◌+◌, ◌<◌, Bool, true, false, not, cond, List, [], ◌∷◌, ◌++◌, append_assoc}
use Rattle.std.proofs.Common.{append-nil, length, length-append, IfErr, map, filter, flat_map, int_lt, All, Option, Some, None, Result, Ok, Err, IfOk, arith}
use Rattle.std.proofs.lemmas.List.Elements.{All-head, All-tail, All-weaker}
use Rattle.std.specs.Ordering.{int_eq}
use lib.IntN.{pos}
use Rattle.pa_ring.specs.Sums.{number_at}
use Rattle.pa_ring.proofs.Lists.{All-filter_where}
use Rattle.pa_math.specs.Answers.{and_then, given, IsAnswer}
use Rattle.pa_frac.specs.declared.wide.Wide.{Wide}
use Rattle.pa_meaning.specs.Rows.{Row, row_at, without_column}
use Rattle.pa_witness.specs.Elimination.{cancelled, zeros_at, positives_at, negatives_at, eliminated}
use Rattle.pa_witness.specs.Thinning.{without_places}
use Rattle.pa_witness.proofs.Thinning.{All-without_places}
use Rattle.pa_witness.proofs.Widths.{stepped_columns}
use Rattle.pa_row.specs.Sums.{cancelled_in}
use Rattle.pa_row.proofs.Pairs.{cancelled_exact}
use Rattle.pa_fourier.specs.declared.fault.StepFault.{StepFault}
use Rattle.pa_fourier.specs.declared.fault.StepFault.TheVariants.{Memory}
use Rattle.pa_math.specs.Answers.{seen_as}
use Rattle.pa_witness.specs.Steps.{Version, kept_at, others_at, substituted, substituted_at, equality_in, stepped, step_count}
use Rattle.pa_fourier.specs.StepFaults.{made_with, cancelled_without, pairs_with, pairs_due, substituted_without, substituted_due, step_in}
use Rattle.pa_fourier.proofs.Faults.{StopsStep, made_stops}
use Rattle.pa_witness.proofs.Substitution.{All-row_at}
use Rattle.pa_witness.proofs.Equalities.{equality_in_is}

-- ---- the sum of two rows
and_then_same : {A B : Type 0} (r : Result A Wide) (f : A → Result B Wide) (v : B) → and_then r f ≡ Ok v → (a : A) × (Ok a ≡ r) × (Ok v ≡ f a)
and_then_same (Ok a) f v h = (a, refl, sym h)
and_then_same (Err e) f v h = absurd (cc)

-- each sum that is due is this row, where it is not Wide
abbrev Gives : Result Row Wide → Row → Type 0
Gives due row = (v : Row) → due ≡ Ok v → v ≡ row

cancelled_gives : (k : ℕ) (p n : Row) → length p.c ≡ length n.c → Gives (cancelled_without k p n) (without_column k (cancelled k p n))
cancelled_gives k p n same v h =
    let (row, e, f) = and_then_same (cancelled_in k p n) (λ row. Ok (without_column k row)) v h in
    ok_row v (without_column k row) f ∙ ap (without_column k) (cancelled_exact k p n row same e)
  where
    ok_row : (r s : Row) → ◌≡◌ {A = Result Row Wide} (Ok r) (Ok s) → r ≡ s
    ok_row r s h = cc

-- ---- lists of sums
abbrev Exact : List (Result Row Wide) → List Row → Type 0
Exact [] [] = Unit {0}
Exact [] (r ∷ rs) = ⊥
Exact (d ∷ ds) [] = ⊥
Exact (d ∷ ds) (r ∷ rs) = Gives d r × Exact ds rs

made_exact : (made new : List Row) (due : List (Result Row Wide)) (rows : List Row) → Exact due rows → made_with made due ≡ Ok new → new ≡ made ++ rows
made_exact made new [] [] h e = ok_list new made (sym e) ∙ sym (append_nil made)
  where
    ok_list : (xs ys : List Row) → ◌≡◌ {A = Result (List Row) StepFault} (Ok xs) (Ok ys) → xs ≡ ys
    ok_list xs ys h = cc

    append_nil : (xs : List Row) → xs ++ [] ≡ xs
    append_nil xs = simp append-nil
made_exact made new [] (r ∷ rows) h e = absurd h
made_exact made new (d ∷ due) [] h e = absurd h
made_exact made new (Ok v ∷ due) (r ∷ rows) h e =
    made_exact (made ++ v ∷ []) new due rows h.1 e ∙ append_assoc made (v ∷ []) rows ∙ ap (λ x. made ++ x ∷ rows) (h.0 v refl)
made_exact made new (Err w ∷ due) (r ∷ rows) h e = absurd (cc)

exact_append : (ds : List (Result Row Wide)) (rs : List Row) (es : List (Result Row Wide)) (ss : List Row) → Exact ds rs → Exact es ss
    → Exact (ds ++ es) (rs ++ ss)
exact_append [] [] es ss h k = k
exact_append [] (r ∷ rs) es ss h k = absurd h
exact_append (d ∷ ds) [] es ss h k = absurd h
exact_append (d ∷ ds) (r ∷ rs) es ss h k = (h.0, exact_append ds rs es ss h.1 k)

exact_map : (f : Row → Result Row Wide) (g : Row → Row) (xs : List Row) → All (λ x. Gives (f x) (g x)) xs → Exact (map f xs) (map g xs)
exact_map f g [] h = tt
exact_map f g (x ∷ xs) h = (All-head (λ x. Gives (f x) (g x)) x xs h, exact_map f g xs (All-tail (λ x. Gives (f x) (g x)) x xs h))

exact_flat_map : (f : Row → List (Result Row Wide)) (g : Row → List Row) (xs : List Row) → All (λ x. Exact (f x) (g x)) xs
    → Exact (flat_map f xs) (flat_map g xs)
exact_flat_map f g [] h = tt
exact_flat_map f g (x ∷ xs) h =
    exact_append (f x) (g x) (flat_map f xs) (flat_map g xs) (All-head (λ x. Exact (f x) (g x)) x xs h)
    (exact_flat_map f g xs (All-tail (λ x. Exact (f x) (g x)) x xs h))

-- ---- the rows of a step
abbrev HasColumns : ℕ → Row → Type 0
HasColumns n r = length r.c ≡ n

kept_of_filter : (P : Row → Type 0) (test : Row → Bool) (rows : List Row) → All P rows → All P (filter test rows)
kept_of_filter P test rows h = All-filter_where P test rows (All-weaker P (λ r. test r ≡ true → P r) (λ r p t. p) rows h)

abbrev pairs_rows : ℕ → List Row → List Row
pairs_rows k rows = flat_map (λ p. map (λ n. without_column k (cancelled k p n)) (negatives_at k rows)) (positives_at k rows)

pairs_exact : (k columns : ℕ) (rows : List Row) → All (HasColumns columns) rows → Exact (pairs_due k rows) (pairs_rows k rows)
pairs_exact k columns rows h =
    exact_flat_map (pairs_with k rows) (λ p. map (λ n. without_column k (cancelled k p n)) (negatives_at k rows)) (positives_at k rows)
    (All-weaker (HasColumns columns) (λ p. Exact (pairs_with k rows p) (map (λ n. without_column k (cancelled k p n)) (negatives_at k rows)))
    (λ p hp. exact_map (cancelled_without k p) (λ n. without_column k (cancelled k p n)) (negatives_at k rows)
    (All-weaker (HasColumns columns) (λ n. Gives (cancelled_without k p n) (without_column k (cancelled k p n))) (λ n hn. cancelled_gives k p n (hp ∙ sym hn))
    (negatives_at k rows)
    (kept_of_filter (HasColumns columns) (λ row. int_lt (number_at row.c k) (pos 0)) rows h)))
    (positives_at k rows) (kept_of_filter (HasColumns columns) (λ row. int_lt (pos 0) (number_at row.c k)) rows h))

map_flat_map : (f : Row → Row) (g : Row → List Row) (h : Row → List Row) → ((x : Row) → map f (g x) ≡ h x) → (xs : List Row)
    → map f (flat_map g xs) ≡ flat_map h xs
map_flat_map f g h e [] = refl
map_flat_map f g h e (x ∷ xs) = map_append (g x) (flat_map g xs) ∙ ap₂ (λ a b. a ++ b) (e x) (map_flat_map f g h e xs)
  where
    map_append : (xs ys : List Row) → map f (xs ++ ys) ≡ map f xs ++ map f ys
    map_append [] ys = refl
    map_append (x ∷ xs) ys = ap (λ t. f x ∷ t) (map_append xs ys)

map_map : (f g : Row → Row) (xs : List Row) → map f (map g xs) ≡ map (λ x. f (g x)) xs
map_map f g [] = refl
map_map f g (x ∷ xs) = ap (λ t. f (g x) ∷ t) (map_map f g xs)

eliminated_is : (k : ℕ) (rows : List Row) → eliminated k rows ≡ kept_at k rows ++ pairs_rows k rows
eliminated_is k rows =
    map_append (zeros_at k rows) (flat_map (λ p. map (cancelled k p) (negatives_at k rows)) (positives_at k rows))
    ∙ ap (λ t. kept_at k rows ++ t)
    (map_flat_map (without_column k) (λ p. map (cancelled k p) (negatives_at k rows))
    (λ p. map (λ n. without_column k (cancelled k p n)) (negatives_at k rows))
    (λ p. map_map (without_column k) (cancelled k p) (negatives_at k rows)) (positives_at k rows))
  where
    map_append : (xs ys : List Row) → map (without_column k) (xs ++ ys) ≡ map (without_column k) xs ++ map (without_column k) ys
    map_append [] ys = refl
    map_append (x ∷ xs) ys = ap (λ t. without_column k x ∷ t) (map_append xs ys)

substituted_gives : (k columns : ℕ) (p n row : Row) → HasColumns columns p → HasColumns columns n → HasColumns columns row
    → Gives (substituted_without k p n row) (without_column k (substituted k p n row))
substituted_gives k columns p n row hp hn hr = by (int_lt (pos 0) (number_at row.c k))
  where
    by : (b : Bool) → Gives (cond b (cancelled_without k row n) (cancelled_without k p row)) (without_column k (cond b (cancelled k row n) (cancelled k p row)))
    by true = cancelled_gives k row n (hr ∙ sym hn)
    by false = cancelled_gives k p row (hp ∙ sym hr)

-- the sums of a step that substitutes an equality are those of its rows
substituted_exact : (v : Version) (k columns : ℕ) (rows : List Row) (places : ℕ × ℕ) → equality_in v k rows ≡ Some places → All (HasColumns columns) rows
    → Exact (substituted_due k rows places)
    (map (λ row. without_column k (substituted k (row_at rows places.0) (row_at rows places.1) row)) (others_at k places.0 places.1 rows))
substituted_exact v k columns rows places some h =
    let is = equality_in_is v k rows places some in
    let hp : HasColumns columns (row_at rows places.0) = All-row_at (HasColumns columns) rows places.0 is.first h in
    let hn : HasColumns columns (row_at rows places.1) = All-row_at (HasColumns columns) rows places.1 is.second h in
    exact_map (substituted_without k (row_at rows places.0) (row_at rows places.1))
    (λ row. without_column k (substituted k (row_at rows places.0) (row_at rows places.1) row)) (others_at k places.0 places.1 rows)
    (All-weaker (HasColumns columns)
    (λ row. Gives (substituted_without k (row_at rows places.0) (row_at rows places.1) row)
    (without_column k (substituted k (row_at rows places.0) (row_at rows places.1) row)))
    (λ row hr. substituted_gives k columns (row_at rows places.0) (row_at rows places.1) row hp hn hr) (others_at k places.0 places.1 rows)
    (kept_of_filter (HasColumns columns) (λ row. not (int_eq (number_at row.c k) (pos 0))) (without_places (places.0 ∷ places.1 ∷ []) 0 rows)
    (All-without_places (HasColumns columns) (places.0 ∷ places.1 ∷ []) 0 rows h)))

-- a step that is not Wide gives its rows
pub step_value : (v : Version) (k columns : ℕ) (rows new : List Row) → All (HasColumns columns) rows → step_in v k rows ≡ Ok new → new ≡ stepped v k rows
step_value v k columns rows new h e = by (equality_in v k rows) refl e
  where
    by : (o : Option (ℕ × ℕ)) → equality_in v k rows ≡ o → made_with (kept_at k rows) (given (pairs_due k rows) o (substituted_due k rows)) ≡ Ok new
        → new ≡ given (eliminated k rows) o (substituted_at k rows)
    by None none e = made_exact (kept_at k rows) new (pairs_due k rows) (pairs_rows k rows) (pairs_exact k columns rows h) e ∙ sym (eliminated_is k rows)
    by (Some places) some e =
        made_exact (kept_at k rows) new (substituted_due k rows places)
        (map (λ row. without_column k (substituted k (row_at rows places.0) (row_at rows places.1) row)) (others_at k places.0 places.1 rows))
        (substituted_exact v k columns rows places some h) e

-- ---- where a step stops
exact_length : (due : List (Result Row Wide)) (rows : List Row) → Exact due rows → length due ≡ length rows
exact_length [] [] h = refl
exact_length [] (r ∷ rs) h = absurd h
exact_length (d ∷ ds) [] h = absurd h
exact_length (d ∷ ds) (r ∷ rs) h = ap suc (exact_length ds rs h.1)

-- a step that is Wide is so at one of its rows
pub step_stops : (v : Version) (k columns : ℕ) (rows : List Row) → All (HasColumns columns) rows → IfErr (step_in v k rows) (StopsStep (step_count v k rows))
step_stops v k columns rows h = by (equality_in v k rows) refl
  where
    stops : (due : List (Result Row Wide)) (new all : List Row) → Exact due new → all ≡ kept_at k rows ++ new
        → IfErr (made_with (kept_at k rows) due) (StopsStep (length all))
    stops due new all exact is =
        subst (λ n. IfErr (made_with (kept_at k rows) due) (StopsStep n))
        (ap (λ m. length (kept_at k rows) + m) (exact_length due new exact) ∙ sym (length-append (kept_at k rows) new) ∙ ap length (sym is))
        (made_stops (kept_at k rows) due)

    by : (o : Option (ℕ × ℕ)) → equality_in v k rows ≡ o
        → IfErr (made_with (kept_at k rows) (given (pairs_due k rows) o (substituted_due k rows)))
        (StopsStep (length (given (eliminated k rows) o (substituted_at k rows))))
    by None none = stops (pairs_due k rows) (pairs_rows k rows) (eliminated k rows) (pairs_exact k columns rows h) (eliminated_is k rows)
    by (Some places) some =
        stops (substituted_due k rows places)
        (map (λ row. without_column k (substituted k (row_at rows places.0) (row_at rows places.1) row)) (others_at k places.0 places.1 rows))
        (substituted_at k rows places) (substituted_exact v k columns rows places some h) refl

-- they have one column less
pub step_columns : (v : Version) (k columns : ℕ) (rows : List Row) → k < columns → All (HasColumns columns) rows
    → All (λ r. length r.c + 1 ≡ columns) (stepped v k rows)
step_columns v k columns rows l h =
    All-weaker (λ r. length r.c ≡ pred columns) (λ r. length r.c + 1 ≡ columns) (λ r e. omega arith) (stepped v k rows) (stepped_columns v columns k rows l h)

-- what holds of each answer that is due holds of the answer
pub if_ok : {T V : Type 0} (view : T → V) (due : Result V StepFault) (P : V → Type 0) → ((v : V) → due ≡ Ok v → P v) → (r : Result T StepFault)
    → IsAnswer Memory due (seen_as view r) → IfOk r (λ t. P (view t))
if_ok view due P f (Ok t) h = f (view t) h
if_ok view due P f (Err e) h = tt
