-- What the weighted sums of rows say where they are not `Wide`.
use Rattle.std.proofs.Common.{◌≡◌, ◌↔◌, ◌⊎◌, inl, inr, ℕ, zero, suc, ◌<◌, ◌≤◌, ◌+◌, Bool, IsTrue, ◌&&◌, int_le}
use Rattle.std.proofs.Common.{int_lt, List, [], ◌∷◌, length, Ok, All, refl, sym, ap, ap₂, subst, ◌∙◌, arith}
use Rattle.std.proofs.lemmas.Int.{ints}
use Rattle.std.proofs.lemmas.List.Elements.{All-head, All-tail, All-weaker}
use Rattle.std.proofs.lemmas.Bool.Decides.{Decides-and, Decides-or, Decides-like, Decides-int_eq, Decides-at}
use Rattle.std.specs.Bool.{Decides}
use Rattle.std.specs.List.{list_all}
use Rattle.std.specs.Ordering.{int_eq}
use Rattle.std.specs.Cmp.Lexicographic.{pointwise}
use Rattle.std.specs.Cmp.Rules.{signed_items}
use lib.IntN.{ℤ, pos, ◌+ℤ◌, ◌*ℤ◌}
use lib.Signed.{◌≤ℤ◌, ◌<ℤ◌}
use Rattle.pa_ring.specs.Sums.{number_at, SameNumbers, dot, times}
use Rattle.pa_ring.proofs.Integers.{<ℤ-≤ℤ}
use Rattle.pa_ring.proofs.Sums.{number_at-sum_of, number_at-times}
use Rattle.pa_math.specs.Answers.{and_then}
use Rattle.pa_frac.specs.Width.{within}
use Rattle.pa_frac.proofs.Width.{within_ok}
use Rattle.pa_meaning.specs.Rows.{Row}
use Rattle.pa_meaning.specs.Weights.{Weights, row_at, combined, AllPlaced, Implies, IsContradiction, Proves}
use Rattle.pa_row.specs.Width.{IsCanonical}
use Rattle.pa_row.specs.Sums.{dot_in, numerators, in_column, bounds_at, columns_in, combined_in, times_in, scaled_in, shows, covers_in}
use Rattle.pa_row.proofs.Dots.{and_then_ok, ok_same, dot_in_exact}

-- ---- the combined row, number by number
-- its number in a column is the sum of products
pub combined_number : (rows : List Row) (parts : List (ℕ × ℤ)) (k : ℕ) → number_at (combined parts rows).c k ≡ dot (numerators parts) (in_column rows k parts)
combined_number rows [] k = refl
combined_number rows (part ∷ parts) k =
    number_at-sum_of (times part.1 (row_at rows part.0).c) (combined parts rows).c k
    ∙ ap₂ (λ a b. a +ℤ b) (number_at-times part.1 (row_at rows part.0).c k) (combined_number rows parts k)

pub combined_bound : (rows : List Row) (parts : List (ℕ × ℤ)) → (combined parts rows).b ≡ dot (numerators parts) (bounds_at rows parts)
combined_bound rows [] = refl
combined_bound rows (part ∷ parts) = ap (λ t. part.1 *ℤ (row_at rows part.0).b +ℤ t) (combined_bound rows parts)

-- ---- past the columns
pub past : (xs : List ℤ) (k : ℕ) → length xs ≤ k → number_at xs k ≡ pos 0
past [] k h = refl
past (x ∷ xs) zero h = absurd (omega arith)
past (x ∷ xs) (suc k) h = past xs k (omega arith)

row_past : (rows : List Row) (n i k : ℕ) → All (λ r. length r.c ≡ n) rows → n ≤ k → number_at (row_at rows i).c k ≡ pos 0
row_past [] n i k h m = refl
row_past (r ∷ rows) n zero k h m = past r.c k (let e : length r.c ≡ n = All-head (λ r. length r.c ≡ n) r rows h in omega arith)
row_past (r ∷ rows) n (suc i) k h m = row_past rows n i k (All-tail (λ r. length r.c ≡ n) r rows h) m

pub combined_past : (rows : List Row) (parts : List (ℕ × ℤ)) (n k : ℕ) → All (λ r. length r.c ≡ n) rows → n ≤ k → number_at (combined parts rows).c k ≡ pos 0
combined_past rows [] n k h m = refl
combined_past rows (part ∷ parts) n k h m =
    number_at-sum_of (times part.1 (row_at rows part.0).c) (combined parts rows).c k
    ∙ ap₂ (λ a b. a +ℤ b) (number_at-times part.1 (row_at rows part.0).c k ∙ ap (λ t. part.1 *ℤ t) (row_past rows n part.0 k h m))
    (combined_past rows parts n k h m)
    ∙ omega (arith, ints)

-- ---- the sums of the columns
record Columns (rows : List Row) (parts : List (ℕ × ℤ)) (column n : ℕ) (sums : List ℤ) : Type 0 where
  sum : ℤ
  rest : List ℤ
  first : Ok sum ≡ dot_in (numerators parts) (in_column rows column parts)
  others : Ok rest ≡ columns_in rows parts (suc column) n
  whole : sums ≡ sum ∷ rest

columns_split : (rows : List Row) (parts : List (ℕ × ℤ)) (column n : ℕ) (sums : List ℤ) → Ok sums ≡ columns_in rows parts column (suc n)
    → Columns rows parts column n sums
columns_split rows parts column n sums h =
    let (sum, e, j) =
    and_then_ok (dot_in (numerators parts) (in_column rows column parts)) (λ sum. and_then (columns_in rows parts (suc column) n) (λ sums. Ok (sum ∷ sums)))
    sums h in
    let (rest, f, l) = and_then_ok (columns_in rows parts (suc column) n) (λ sums. Ok (sum ∷ sums)) sums j in
    record { sum = sum; rest = rest; first = e; others = f; whole = ok_same sums (sum ∷ rest) l }

columns_length : (rows : List Row) (parts : List (ℕ × ℤ)) (column n : ℕ) (sums : List ℤ) → Ok sums ≡ columns_in rows parts column n → length sums ≡ n
columns_length rows parts column zero sums h = ap length (ok_same sums [] h)
columns_length rows parts column (suc n) sums h =
    let t = columns_split rows parts column n sums h in
    ap length t.whole ∙ ap suc (columns_length rows parts (suc column) n t.rest t.others)

columns_number : (rows : List Row) (parts : List (ℕ × ℤ)) (column n : ℕ) (sums : List ℤ) (i k : ℕ) → Ok sums ≡ columns_in rows parts column n → i < n
    → k ≡ column + i → number_at sums i ≡ number_at (combined parts rows).c k
columns_number rows parts column zero sums i k h m p = absurd (omega arith)
columns_number rows parts column (suc n) sums zero k h m p =
    let t = columns_split rows parts column n sums h in
    let q : column ≡ k = omega arith in
    ap (λ t. number_at t zero) t.whole ∙ dot_in_exact (numerators parts) (in_column rows column parts) t.sum t.first ∙ sym (combined_number rows parts column)
    ∙ ap (λ t. number_at (combined parts rows).c t) q
columns_number rows parts column (suc n) sums (suc i) k h m p =
    let t = columns_split rows parts column n sums h in
    ap (λ t. number_at t (suc i)) t.whole ∙ columns_number rows parts (suc column) n t.rest i k t.others (omega arith) (omega arith)

-- ---- exact answers
-- the sum has this many columns, and the combined row's numbers
pub record IsCombined (rows : List Row) (parts : List (ℕ × ℤ)) (columns : ℕ) (sum : Row) : Type 0 where
  pub length : length sum.c ≡ columns
  pub coefficients : SameNumbers sum.c (combined parts rows).c
  pub bound : sum.b ≡ (combined parts rows).b

pub combined_exact : (rows : List Row) (parts : List (ℕ × ℤ)) (n : ℕ) (sum : Row) → All (λ r. length r.c ≡ n) rows → Ok sum ≡ combined_in rows parts n
    → IsCombined rows parts n sum
combined_exact rows parts n sum wide h =
    let (sums, e, k) =
    and_then_ok (columns_in rows parts zero n) (λ sums. and_then (dot_in (numerators parts) (bounds_at rows parts)) (λ b. Ok (record { c = sums; b = b })))
    sum h in
    let (b, f, l) = and_then_ok (dot_in (numerators parts) (bounds_at rows parts)) (λ b. Ok (record { c = sums; b = b })) sum k in
    let is : sum ≡ record { c = sums; b = b } = ok_same sum (record { c = sums; b = b }) l in
    let long : length sums ≡ n = columns_length rows parts zero n sums e in
    record {
      length = ap (λ (r : Row). length r.c) is ∙ long;
      coefficients = λ i. ap (λ (r : Row). number_at r.c i) is ∙ number sums e long i (below i n);
      bound = ap (λ (r : Row). r.b) is ∙ dot_in_exact (numerators parts) (bounds_at rows parts) b f ∙ sym (combined_bound rows parts);
    }
  where
    below : (i n : ℕ) → (i < n) ⊎ (n ≤ i)
    below i n = grind arith

    number : (sums : List ℤ) → Ok sums ≡ columns_in rows parts zero n → length sums ≡ n → (i : ℕ) → (i < n) ⊎ (n ≤ i)
        → number_at sums i ≡ number_at (combined parts rows).c i
    number sums e long i (inl m) = columns_number rows parts zero n sums i i e m (omega arith)
    number sums e long i (inr m) = past sums i (omega arith) ∙ sym (combined_past rows parts n i wide m)

pub times_exact : (k : ℤ) (xs ys : List ℤ) → Ok ys ≡ times_in k xs → ys ≡ times k xs
times_exact k [] ys h = ok_same ys [] h
times_exact k (x ∷ xs) ys h =
    let (z, e, j) = and_then_ok (within 126 (k *ℤ x)) (λ product. and_then (times_in k xs) (λ products. Ok (product ∷ products))) ys h in
    let (zs, f, l) = and_then_ok (times_in k xs) (λ products. Ok (z ∷ products)) ys j in
    ok_same ys (z ∷ zs) l ∙ ap₂ (λ a b. a ∷ b) (within_ok 126 z (k *ℤ x) e).1 (times_exact k xs zs f)

pub scaled_exact : (k : ℤ) (row scaled : Row) → Ok scaled ≡ scaled_in k row → scaled ≡ record { c = times k row.c; b = k *ℤ row.b }
scaled_exact k row scaled h =
    let (c, e, j) = and_then_ok (times_in k row.c) (λ c. and_then (within 126 (k *ℤ row.b)) (λ b. Ok (record { c = c; b = b }))) scaled h in
    let (b, f, l) = and_then_ok (within 126 (k *ℤ row.b)) (λ b. Ok (record { c = c; b = b })) scaled j in
    ok_same scaled (record { c = c; b = b }) l ∙ ap₂ (λ c b. record { c = c; b = b }) (times_exact k row.c c e) (within_ok 126 b (k *ℤ row.b) f).1

-- ---- what the test of two sums says
pub same_lists : (xs ys : List ℤ) → length xs ≡ length ys → SameNumbers xs ys → xs ≡ ys
same_lists [] [] e h = refl
same_lists [] (y ∷ ys) e h = absurd (omega arith)
same_lists (x ∷ xs) [] e h = absurd (omega arith)
same_lists (x ∷ xs) (y ∷ ys) e h = ap₂ (λ a b. a ∷ b) (h zero) (same_lists xs ys (omega arith) (λ i. h (suc i)))

pub times_length : (k : ℤ) (xs : List ℤ) → length (times k xs) ≡ length xs
times_length k [] = refl
times_length k (x ∷ xs) = ap suc (times_length k xs)

zeros_cons : (x : ℤ) (xs : List ℤ) → (x ≡ pos 0) × SameNumbers xs [] → SameNumbers (x ∷ xs) []
zeros_cons x xs h zero = h.0
zeros_cons x xs h (suc i) = h.1 i

pub Decides-zeros : (xs : List ℤ) → Decides (list_all (λ z. int_eq z (pos 0)) xs) (SameNumbers xs [])
Decides-zeros [] = (λ t. λ i. refl, λ h. refl)
Decides-zeros (x ∷ xs) =
    Decides-like (list_all (λ z. int_eq z (pos 0)) (x ∷ xs)) (zeros_cons x xs) (λ h. (h zero, λ i. h (suc i)))
    (Decides-and (int_eq x (pos 0)) (list_all (λ z. int_eq z (pos 0)) xs) (Decides-int_eq x (pos 0)) (Decides-zeros xs))

Decides-int_le : (a b : ℤ) → Decides (int_le a b) (a ≤ℤ b)
Decides-int_le a b = (λ t. omega (arith, ints), λ h. grind (arith, ints))

Decides-int_lt : (a b : ℤ) → Decides (int_lt a b) (a <ℤ b)
Decides-int_lt a b = (λ t. omega (arith, ints), λ h. grind (arith, ints))

Decides-shows : (rows : List Row) (parts : List (ℕ × ℤ)) (den : ℤ) (sum row : Row) → IsCombined rows parts (length row.c) sum →
    Decides (shows sum (record { c = times den row.c; b = den *ℤ row.b })) (Implies den (combined parts rows) row ⊎ IsContradiction (combined parts rows))
Decides-shows rows parts den sum row is =
    Decides-or (pointwise int_eq sum.c (times den row.c) && int_le sum.b (den *ℤ row.b)) (list_all (λ z. int_eq z (pos 0)) sum.c && int_lt sum.b (pos 0))
    (Decides-like (pointwise int_eq sum.c (times den row.c) && int_le sum.b (den *ℤ row.b))
    (λ (e, h). record { coefficients = λ i. sym (is.coefficients i) ∙ ap (λ t. number_at t i) e; bound = subst (λ t. t ≤ℤ (den *ℤ row.b)) is.bound h })
    (λ (h : Implies den (combined parts rows) row). (
      same_lists sum.c (times den row.c) (is.length ∙ sym (times_length den row.c)) (λ i. is.coefficients i ∙ h.coefficients i),
      subst (λ t. t ≤ℤ (den *ℤ row.b)) (sym is.bound) h.bound,
    ))
    (Decides-and (pointwise int_eq sum.c (times den row.c)) (int_le sum.b (den *ℤ row.b)) (signed_items sum.c (times den row.c))
    (Decides-int_le sum.b (den *ℤ row.b))))
    (Decides-like (list_all (λ z. int_eq z (pos 0)) sum.c && int_lt sum.b (pos 0))
    (λ (e, h). record { coefficients = λ i. sym (is.coefficients i) ∙ e i; bound = subst (λ t. t <ℤ pos 0) is.bound h })
    (λ (h : IsContradiction (combined parts rows)). ((λ i. is.coefficients i ∙ h.coefficients i), subst (λ t. t <ℤ pos 0) (sym is.bound) h.bound))
    (Decides-and (list_all (λ z. int_eq z (pos 0)) sum.c) (int_lt sum.b (pos 0)) (Decides-zeros sum.c) (Decides-int_lt sum.b (pos 0))))

-- an answer that is not `Wide` says whether the weights prove the row
pub covers_truly : (rows : List Row) (row : Row) (w : Weights) (told : Bool) → IsCanonical w → AllPlaced w.parts rows
    → All (λ r. length r.c ≡ length row.c) rows → Ok told ≡ covers_in rows row w → IsTrue told ↔ Proves w rows row
covers_truly rows row w told canonical placed wide h =
    let (sum, e, j) = and_then_ok (combined_in rows w.parts (length row.c)) (λ sum. and_then (scaled_in w.den row) (λ scaled. Ok (shows sum scaled))) told h in
    let (scaled, f, l) = and_then_ok (scaled_in w.den row) (λ scaled. Ok (shows sum scaled)) told j in
    let test : told ≡ shows sum (record { c = times w.den row.c; b = w.den *ℤ row.b }) =
    ok_same told (shows sum scaled) l ∙ ap (λ t. shows sum t) (scaled_exact w.den row scaled f) in
    let tells : Decides told (Implies w.den (combined w.parts rows) row ⊎ IsContradiction (combined w.parts rows)) =
    Decides-at told (shows sum (record { c = times w.den row.c; b = w.den *ℤ row.b })) test
    (Decides-shows rows w.parts w.den sum row (combined_exact rows w.parts (length row.c) sum wide e)) in (
      λ t. record {
        positive = canonical.positive;
        weights = All-weaker (λ (part : ℕ × ℤ). pos 0 <ℤ part.1) (λ (part : ℕ × ℤ). pos 0 ≤ℤ part.1) (λ part up. <ℤ-≤ℤ up) w.parts canonical.numerators;
        places = placed;
        shown = tells.0 t;
      },
      λ (p : Proves w rows row). tells.1 p.shown,
    )
