-- Directions by their places in a list without repeats.
use Rattle.std.proofs.Common.{◌≡◌, refl, sym, ap, ap₂, ◌∙◌, subst, ℕ, suc, ◌+◌, ◌<◌, ◌≤◌, Bool, true, false, not, ◌||◌, cond, List, []}
use Rattle.std.proofs.Common.{◌∷◌, ◌++◌, length, get_or, nat_eq, Option, Some, None, arith}
use Rattle.std.proofs.lemmas.Bool.{true≢false, eqb-false}
use Rattle.std.proofs.lemmas.Bool.Decides.{Decides-eqb, Decides-int_eq}
use Rattle.std.proofs.lemmas.Slice.Eq.{slice_eq-Decides}
use Rattle.std.proofs.Math.ListN.{get_or-append}
use Rattle.std.proofs.Math.Seq.{get_or-append_seam}
use Rattle.pa_row.proofs.Turns.{row_at_read}
use Rattle.std.specs.List.{list_any, position_or_len}
use lib.IntN.{pos}
use Rattle.pa_math.specs.Divisors.{gcd_all, quotients}
use Rattle.pa_meaning.specs.Rows.{Row, row_at}
use Rattle.pa_witness.specs.Thinning.{are_parallel}
use Rattle.pa_witness.proofs.Cleaning.{parallel_lists}
use Rattle.pa_meaning.proofs.PrimitiveRows.{zero_quotient}
use Rattle.pa_row.specs.Same.{same_row}
use Rattle.pa_witness.specs.Equalities.{place_from}
use Rattle.pa_fourier.specs.Groups.{direction, AreGroups}
use Rattle.pa_fourier.proofs.Bounds.{divisor_behind_zero}
use Rattle.pa_witness.proofs.Equalities.{found_at}
use Rattle.pa_row.proofs.SameRows.{same_row_is}

by_test : {X : Type 0} (t : Bool) → (t ≡ true → X) → (t ≡ false → X) → X
by_test true f g = f refl
by_test false f g = g refl

-- ---- places in a list that grows
pub place_append : (test : Row → Bool) (i : ℕ) (keys more : List Row) (g : ℕ) → place_from test i keys ≡ Some g → place_from test i (keys ++ more) ≡ Some g
place_append test i [] more g h = absurd (cc)
place_append test i (k ∷ keys) more g h = by (test k) h (λ e. place_append test (suc i) keys more g e)
  where
    by : (b : Bool) → cond b (Some i) (place_from test (suc i) keys) ≡ Some g
        → (place_from test (suc i) keys ≡ Some g → place_from test (suc i) (keys ++ more) ≡ Some g)
        → cond b (Some i) (place_from test (suc i) (keys ++ more)) ≡ Some g
    by true h rest = h
    by false h rest = rest h

place_there : (test : Row → Bool) (i : ℕ) (keys : List Row) → list_any test keys ≡ true → place_from test i keys ≡ Some (i + position_or_len test keys)
place_there test i [] h = absurd (cc)
place_there test i (k ∷ keys) h = by (test k) h (λ e. place_there test (suc i) keys e)
  where
    by : (b : Bool) → (b || list_any test keys) ≡ true → (list_any test keys ≡ true → place_from test (suc i) keys ≡ Some (suc i + position_or_len test keys))
        → cond b (Some i) (place_from test (suc i) keys) ≡ Some (i + cond (not b) (1 + position_or_len test keys) 0)
    by true h rest = ap Some (omega arith)
    by false h rest = rest h ∙ ap Some (omega arith)

place_new : (test : Row → Bool) (i : ℕ) (keys : List Row) (x : Row) → list_any test keys ≡ false → test x ≡ true
    → place_from test i (keys ++ x ∷ []) ≡ Some (i + position_or_len test keys)
place_new test i [] x h e = ap (λ b. cond b (Some i) None) e ∙ ap Some (omega arith)
place_new test i (k ∷ keys) x h e = by (test k) h (λ f. place_new test (suc i) keys x f e)
  where
    by : (b : Bool) → (b || list_any test keys) ≡ false
        → (list_any test keys ≡ false → place_from test (suc i) (keys ++ x ∷ []) ≡ Some (suc i + position_or_len test keys))
        → cond b (Some i) (place_from test (suc i) (keys ++ x ∷ [])) ≡ Some (i + cond (not b) (1 + position_or_len test keys) 0)
    by true h rest = absurd (cc)
    by false h rest = rest h ∙ ap Some (omega arith)

same_itself : (r : Row) → same_row r r ≡ true
same_itself r = rw ((slice_eq-Decides Decides-int_eq r.c r.c _ refl).1 refl, (Decides-int_eq r.b r.b).1 refl) refl

-- the keys after one is added where it is new
abbrev pub with_key : List Row → Row → List Row
with_key keys d = cond (list_any (same_row d) keys) keys (keys ++ d ∷ [])

pub placed_new : (keys : List Row) (d : Row) → place_from (same_row d) 0 (with_key keys d) ≡ Some (position_or_len (same_row d) keys)
placed_new keys d = by (list_any (same_row d) keys) refl
  where
    by : (b : Bool) → list_any (same_row d) keys ≡ b → place_from (same_row d) 0 (cond b keys (keys ++ d ∷ [])) ≡ Some (position_or_len (same_row d) keys)
    by true e = place_there (same_row d) 0 keys e ∙ ap Some (omega arith)
    by false e = place_new (same_row d) 0 keys d e (same_itself d) ∙ ap Some (omega arith)

pub placed_before : (keys : List Row) (d q : Row) (g : ℕ) → place_from (same_row q) 0 keys ≡ Some g → place_from (same_row q) 0 (with_key keys d) ≡ Some g
placed_before keys d q g h = by (list_any (same_row d) keys)
  where
    by : (b : Bool) → place_from (same_row q) 0 (cond b keys (keys ++ d ∷ [])) ≡ Some g
    by true = h
    by false = place_append (same_row q) 0 keys (d ∷ []) g h

-- ---- parallel rows have one direction
direction_numbers : (r : Row) → (direction r).c ≡ quotients (gcd_all r.c) r.c
direction_numbers r = ap (λ d. quotients d r.c) (divisor_behind_zero r.c)

direction_from_parallel : (r s : Row) → are_parallel r s ≡ true → direction r ≡ direction s
direction_from_parallel r s h =
    ap₂ (λ c b. record { c = c; b = b }) (direction_numbers r ∙ parallel_lists (quotients (gcd_all r.c) r.c) (quotients (gcd_all s.c) s.c) h
    ∙ sym (direction_numbers s))
    (zero_quotient (gcd_all (pos 0 ∷ r.c)) ∙ sym (zero_quotient (gcd_all (pos 0 ∷ s.c))))

parallel_from_direction : (r s : Row) → direction r ≡ direction s → are_parallel r s ≡ true
parallel_from_direction r s h =
    (slice_eq-Decides Decides-int_eq (quotients (gcd_all r.c) r.c) (quotients (gcd_all s.c) s.c) _ refl).1
    (sym (direction_numbers r) ∙ ap (λ (q : Row). q.c) h ∙ direction_numbers s)

-- each row's number is the place of its direction
abbrev pub ArePlaced : ℕ → List Row → List Row → List ℕ → Type 0
ArePlaced n rows keys groups = (m : ℕ) → m < n → place_from (same_row (direction (row_at rows m))) 0 keys ≡ Some (get_or groups m 0)

pub groups_are : (rows keys : List Row) (groups : List ℕ) → length groups ≡ length rows → ArePlaced (length rows) rows keys groups → AreGroups rows groups
groups_are rows keys groups count placed = record { count = count; same = λ i j hi hj. by i j hi hj (are_parallel (row_at rows j) (row_at rows i)) refl }
  where
    same_places : (x y : ℕ) → ◌≡◌ {A = Option ℕ} (Some x) (Some y) → x ≡ y
    same_places x y h = cc

    one_direction : (i j : ℕ) → i < length rows → j < length rows → get_or groups i 0 ≡ get_or groups j 0
        → direction (row_at rows j) ≡ direction (row_at rows i)
    one_direction i j hi hj e =
        let f = found_at (same_row (direction (row_at rows i))) 0 keys (get_or groups i 0) (placed i hi) in
        let g = found_at (same_row (direction (row_at rows j))) 0 keys (get_or groups j 0) (placed j hj) in
        let at : f.after ≡ g.after = let a = f.place in let b = g.place in omega arith in
        same_row_is (direction (row_at rows j)) (row_at keys g.after) g.passes ∙ ap (row_at keys) (sym at)
        ∙ sym (same_row_is (direction (row_at rows i)) (row_at keys f.after) f.passes)

    by : (i j : ℕ) → i < length rows → j < length rows → (b : Bool) → are_parallel (row_at rows j) (row_at rows i) ≡ b
        → nat_eq (get_or groups i 0) (get_or groups j 0) ≡ b
    by i j hi hj true e =
        (Decides-eqb (get_or groups i 0) (get_or groups j 0)).1 (same_places (get_or groups i 0) (get_or groups j 0)
        (sym (placed i hi) ∙ ap (λ d. place_from (same_row d) 0 keys) (sym (direction_from_parallel (row_at rows j) (row_at rows i) e)) ∙ placed j hj))
    by i j hi hj false e = by_test (nat_eq (get_or groups i 0) (get_or groups j 0))
        (λ t. absurd (true≢false (sym (parallel_from_direction (row_at rows j) (row_at rows i)
        (one_direction i j hi hj ((Decides-eqb (get_or groups i 0) (get_or groups j 0)).0 t))) ∙ e)))
        (λ f. f)

-- each number is that of a place
pub placed_below : (rows keys : List Row) (groups : List ℕ) → length groups ≡ length rows → length keys ≤ length rows → ArePlaced (length rows) rows keys groups
    → (j : ℕ) → j < length groups → get_or groups j 0 < length groups
placed_below rows keys groups count few placed j h =
    let f = found_at (same_row (direction (row_at rows j))) 0 keys (get_or groups j 0) (placed j (omega arith)) in
    let p = f.place in let w = f.within in omega arith

-- one row more
pub placed_more : (n : ℕ) (rows keys now : List Row) (groups : List ℕ) (g : ℕ) (r : Row) → length groups ≡ n → n < length rows → r ≡ get_or rows n r
    → ArePlaced n rows keys groups
    → ((d : Row) (h : ℕ) → place_from (same_row d) 0 keys ≡ Some h → place_from (same_row d) 0 now ≡ Some h)
    → place_from (same_row (direction r)) 0 now ≡ Some g → ArePlaced (n + 1) rows now (groups ++ g ∷ [])
placed_more n rows keys now groups g r count l is placed stay here m h = by_test (nat_eq m n)
    (λ t. let same : m ≡ n = (Decides-eqb m n).0 t in
    subst (λ o. place_from (same_row (direction (row_at rows o))) 0 now ≡ Some (get_or (groups ++ g ∷ []) o 0)) (sym same)
    (ap (λ (q : Row). place_from (same_row (direction q)) 0 now) (row_at_read rows n r l ∙ sym is) ∙ here
    ∙ ap Some (sym (ap (λ o. get_or (groups ++ g ∷ []) o 0) (sym count) ∙ get_or-append_seam groups g [] 0))))
    (λ f. let earlier : m < n = let d = eqb-false m n f in omega arith in
    stay (direction (row_at rows m)) (get_or groups m 0) (placed m earlier) ∙ ap Some (sym (get_or-append groups (g ∷ []) 0 m (omega arith))))
