-- The clean of a list that is not Wide is the cleaned list.
use Rattle.std.proofs.Common.{◌≡◌, refl, sym, ap, ap₂, ◌∙◌, subst, ℕ, suc, ◌+◌, ◌<◌, ◌⊎◌, inl, inr, Bool, true, false, not, ◌&&◌}
use Rattle.std.proofs.Common.{◌||◌, cond, List, [], ◌∷◌, ◌++◌, append_assoc, append-nil, length, length-append, filter, int_lt, int_le, int_div}
use Rattle.std.proofs.Common.{nat_eq, nat_lt, Result, Ok, Err, arith}
use Rattle.std.proofs.lemmas.Int.{ints}
use Rattle.std.proofs.lemmas.Bool.{true≢false, lt-ltb, le-ltb}
use Rattle.std.proofs.lemmas.Bool.Decides.{Decides-int_eq, Decides-eqb}
use Rattle.std.specs.List.{list_any, list_all}
use Rattle.std.specs.Ordering.{int_eq, int_cmp}
use Rattle.std.specs.declared.cmp.Ordering.{Ordering}
use Rattle.std.specs.declared.cmp.Ordering.TheVariants.{Less, Equal, Greater}
use lib.IntN.{ℤ, pos, ◌*ℤ◌, *ℤ-zero}
use Rattle.pa_ring.specs.Sums.{number_at}
use Rattle.pa_math.specs.Answers.{and_then, told_as}
use Rattle.pa_math.specs.Divisors.{gcd_all, quotients}
use Rattle.pa_math.specs.RationalOrder.{compare_ℚ}
use Rattle.pa_math.proofs.Rationals.{ratio_over}
use Rattle.pa_math.proofs.RationalOrders.{compare_from_ratios}
use Rattle.pa_frac.specs.declared.wide.Wide.{Wide}
use Rattle.pa_frac.specs.Operations.{comparison_in, scaled_num}
use Rattle.pa_frac.proofs.Width.{exact_value}
use Rattle.pa_meaning.specs.Rows.{Row}
use Rattle.pa_witness.specs.Thinning.{is_constant, is_impossible, are_parallel, is_within, is_well_within, tightest, cleaned}
use Rattle.pa_meaning.specs.Weights.{impossible}
use Rattle.pa_witness.proofs.Cleaning.{HasCoefficients, nonconstant, constant_zeros, parallel_lists, Meets-cleaned}
use Rattle.pa_meaning.proofs.PrimitiveRows.{number_from_quotient, number_at-quotients, zero_quotient}
use Rattle.pa_fourier.specs.declared.fault.CleanFault.{CleanFault}
use Rattle.pa_fourier.specs.declared.fault.CleanFault.TheVariants as fault
use Rattle.pa_fourier.specs.Cleaning.{bound_of, stands_in, replaced_in, staying_in, clean_in, AreMetAlike}

by_test : {X : Type 0} (t : Bool) → (t ≡ true → X) → (t ≡ false → X) → X
by_test true f g = f refl
by_test false f g = g refl

and_then_same : {A B E : Type 0} (r : Result A E) (f : A → Result B E) (v : B) → and_then r f ≡ Ok v → (a : A) × (r ≡ Ok a) × (f a ≡ Ok v)
and_then_same (Ok a) f v h = (a, refl, h)
and_then_same (Err e) f v h = absurd (cc)

-- ---- one comparison
comparison_is : (r s : Row) (o : Ordering) → HasCoefficients r → HasCoefficients s → comparison_in 126 (bound_of r) (bound_of s) ≡ Ok o
    → o ≡ int_cmp (r.b *ℤ gcd_all s.c) (s.b *ℤ gcd_all r.c)
unfolding comparison_in
comparison_is r s o hr hs h =
    exact_value 126 (scaled_num (bound_of r) (bound_of s) ∷ scaled_num (bound_of s) (bound_of r) ∷ []) o (compare_ℚ (bound_of r) (bound_of s)) (sym h)
    ∙ sym (compare_from_ratios (ratio_over r.b (gcd_all r.c) hr) (ratio_over s.b (gcd_all s.c) hs))

-- a bound at most the other's stands in from an earlier place, a lesser one from any
abbrev at_most : Bool → ℤ → ℤ → Bool
at_most true a b = int_le a b
at_most false a b = int_lt a b

stands_when : (earlier : Bool) (a b : ℤ) → stands_in earlier (int_cmp a b) ≡ at_most earlier b a
stands_when true a b = by (int_lt a b) (int_lt b a) (int_le b a) refl refl refl
  where
    by : (x y z : Bool) → int_lt a b ≡ x → int_lt b a ≡ y → int_le b a ≡ z → stands_in true (cond x Less (cond y Greater Equal)) ≡ z
    by true y true e f g = absurd (grind (arith, ints))
    by true y false e f g = refl
    by false true true e f g = refl
    by false false true e f g = refl
    by false y false e f g = absurd (grind (arith, ints))
stands_when false a b = by (int_lt a b) (int_lt b a) refl refl
  where
    by : (x y : Bool) → int_lt a b ≡ x → int_lt b a ≡ y → stands_in false (cond x Less (cond y Greater Equal)) ≡ y
    by true true e f = absurd (grind (arith, ints))
    by true false e f = refl
    by false true e f = refl
    by false false e f = refl

-- ---- parallel rows
all_zeros : (cs : List ℤ) → ((i : ℕ) → number_at cs i ≡ pos 0) → list_all (λ z. int_eq z (pos 0)) cs ≡ true
all_zeros [] h = refl
all_zeros (c ∷ cs) h = rw ((Decides-int_eq c (pos 0)).1 (h 0)) (all_zeros cs (λ i. h (suc i)))

-- a row parallel to one with coefficients has coefficients
pub parallel_solid : (r s : Row) → is_constant r ≡ false → are_parallel r s ≡ true → is_constant s ≡ false
parallel_solid r s c p = by_test (is_constant s) (λ t. absurd (true≢false (sym (all_zeros r.c (zero t)) ∙ c))) (λ f. f)
  where
    zero : is_constant s ≡ true → (i : ℕ) → number_at r.c i ≡ pos 0
    zero t i =
        let quotient : number_at (quotients (gcd_all r.c) r.c) i ≡ pos 0 =
        ap (λ t. number_at t i) (parallel_lists (quotients (gcd_all r.c) r.c) (quotients (gcd_all s.c) s.c) p)
        ∙ number_at-quotients (gcd_all s.c) s.c i ∙ ap (λ z. int_div z (gcd_all s.c)) (constant_zeros s.c t i) ∙ zero_quotient (gcd_all s.c) in
        number_from_quotient r.c i ∙ ap (λ z. gcd_all r.c *ℤ z) quotient ∙ *ℤ-zero (gcd_all r.c)

abbrev solid : List Row → List Row
solid rows = filter (λ r. not (is_constant r)) rows

-- s stands in for r, from an earlier place or from a later one
abbrev stands : Bool → Row → Row → Bool
stands earlier r s = are_parallel r s && at_most earlier (s.b *ℤ gcd_all r.c) (r.b *ℤ gcd_all s.c)

-- what the comparisons with a front of the list tell
abbrev Told : Bool → ℕ → Row → ℕ → List Row → List Row → Bool → Type 0
Told earlier i r j front rest b =
    ((list_any (stands earlier r) (solid front) ≡ true) × (b ≡ true)) ⊎
    ((list_any (stands earlier r) (solid front) ≡ false) × (replaced_in i r (j + length front) rest ≡ Ok b))

abbrev AllOnOneSide : Bool → ℕ → ℕ → List Row → Type 0
AllOnOneSide earlier i j front = (m : ℕ) → m < length front → (nat_eq (j + m) i ≡ false) × (nat_lt (j + m) i ≡ earlier)

module _ (earlier : Bool) (i : ℕ) (r : Row) (solid_r : is_constant r ≡ false) (j : ℕ) (s : Row) (front rest : List Row) (b : Bool) where
  first_skipped : list_any (stands earlier r) (solid front) ≡ list_any (stands earlier r) (solid (s ∷ front)) → Told earlier i r (suc j) front rest b
      → Told earlier i r j (s ∷ front) rest b
  first_skipped e (inl (any, is)) = inl (sym e ∙ any, is)
  first_skipped e (inr (none, later)) = inr (sym e ∙ none, subst (λ n. replaced_in i r n rest ≡ Ok b) (omega arith) later)

  not_there : stands earlier r s ≡ false → list_any (stands earlier r) (solid front) ≡ list_any (stands earlier r) (solid (s ∷ front))
  not_there e = by (is_constant s)
    where
      by : (c : Bool) → list_any (stands earlier r) (solid front) ≡ list_any (stands earlier r) (cond (not c) (s ∷ solid front) (solid front))
      by true = refl
      by false = sym (ap (λ t. t || list_any (stands earlier r) (solid front)) e)

  there : is_constant s ≡ false → stands earlier r s ≡ true → list_any (stands earlier r) (solid (s ∷ front)) ≡ true
  there c e = ap (λ t. list_any (stands earlier r) (cond (not t) (s ∷ solid front) (solid front))) c
      ∙ ap (λ t. t || list_any (stands earlier r) (solid front)) e

  compared : are_parallel r s ≡ true → nat_lt j i ≡ earlier
      → and_then (and_then (comparison_in 126 (bound_of r) (bound_of s)) (λ order. Ok (stands_in (nat_lt j i) order)))
      (λ replaced. cond replaced (Ok true) (replaced_in i r (suc j) (front ++ rest))) ≡ Ok b
      → (replaced_in i r (suc j) (front ++ rest) ≡ Ok b → Told earlier i r (suc j) front rest b) → Told earlier i r j (s ∷ front) rest b
  compared p side h rec =
      let solid_s : is_constant s ≡ false = parallel_solid r s solid_r p in
      let (t, d, f) = and_then_same (and_then (comparison_in 126 (bound_of r) (bound_of s)) (λ order. Ok (stands_in (nat_lt j i) order)))
      (λ replaced. cond replaced (Ok true) (replaced_in i r (suc j) (front ++ rest))) b h in
      let (o, e, g) = and_then_same (comparison_in 126 (bound_of r) (bound_of s)) (λ order. Ok (stands_in (nat_lt j i) order)) t d in
      let order : stands_in (nat_lt j i) o ≡ at_most earlier (s.b *ℤ gcd_all r.c) (r.b *ℤ gcd_all s.c) =
      ap₂ stands_in side (comparison_is r s o (nonconstant r solid_r) (nonconstant s solid_s) e)
      ∙ stands_when earlier (r.b *ℤ gcd_all s.c) (s.b *ℤ gcd_all r.c) in
      let whole : stands earlier r s ≡ t = ap (λ t. t && at_most earlier (s.b *ℤ gcd_all r.c) (r.b *ℤ gcd_all s.c)) p ∙ sym order
      ∙ ok_same (stands_in (nat_lt j i) o) t g in
      by t whole solid_s f
    where
      ok_same : (x y : Bool) → ◌≡◌ {A = Result Bool Wide} (Ok x) (Ok y) → x ≡ y
      ok_same x y h = cc

      by : (t : Bool) → stands earlier r s ≡ t → is_constant s ≡ false → cond t (Ok true) (replaced_in i r (suc j) (front ++ rest)) ≡ Ok b
          → Told earlier i r j (s ∷ front) rest b
      by true e c f = inl (there c e, sym (ok_same true b f))
      by false e c f = first_skipped (not_there e) (rec f)

  first_told : nat_eq j i ≡ false → nat_lt j i ≡ earlier → replaced_in i r j (s ∷ front ++ rest) ≡ Ok b
      → (replaced_in i r (suc j) (front ++ rest) ≡ Ok b → Told earlier i r (suc j) front rest b) → Told earlier i r j (s ∷ front) rest b
  first_told other side h rec = by (nat_eq j i) (are_parallel r s) other refl h
    where
      by : (x p : Bool) → x ≡ false → are_parallel r s ≡ p
          → and_then (cond (not x && p) (and_then (comparison_in 126 (bound_of r) (bound_of s)) (λ order. Ok (stands_in (nat_lt j i) order))) (Ok false))
          (λ replaced. cond replaced (Ok true) (replaced_in i r (suc j) (front ++ rest))) ≡ Ok b
          → Told earlier i r j (s ∷ front) rest b
      by true p e f h = absurd (cc)
      by false true e f h = compared f side h rec
      by false false e f h = first_skipped (not_there (ap (λ t. t && at_most earlier (s.b *ℤ gcd_all r.c) (r.b *ℤ gcd_all s.c)) f)) (rec h)

front_told : (earlier : Bool) (i : ℕ) (r : Row) → is_constant r ≡ false → (j : ℕ) (front rest : List Row) (b : Bool) → AllOnOneSide earlier i j front
    → replaced_in i r j (front ++ rest) ≡ Ok b → Told earlier i r j front rest b
front_told earlier i r c j [] rest b side h = inr (refl, subst (λ n. replaced_in i r n rest ≡ Ok b) (omega arith) h)
front_told earlier i r c j (s ∷ front) rest b side h =
    let (other, here) = side 0 (omega arith) in
    first_told earlier i r c j s front rest b (subst (λ n. nat_eq n i ≡ false) (omega arith) other) (subst (λ n. nat_lt n i ≡ earlier) (omega arith) here) h
    (λ k. front_told earlier i r c (suc j) front rest b (λ m l. let (x, y) = side (suc m) (omega arith) in
    (subst (λ n. nat_eq n i ≡ false) (omega arith) x, subst (λ n. nat_lt n i ≡ earlier) (omega arith) y)) k)

-- ---- one row
before_one_side : (i : ℕ) (front : List Row) → length front ≡ i → AllOnOneSide true i 0 front
before_one_side i front e m l =
    (by_test (nat_eq (0 + m) i) (λ t. absurd (let same = (Decides-eqb (0 + m) i).0 t in omega arith)) (λ f. f), lt-ltb (0 + m) i (omega arith))

behind_one_side : (i : ℕ) (front : List Row) → AllOnOneSide false i (suc i) front
behind_one_side i front m l = (
  by_test (nat_eq (suc i + m) i) (λ t. absurd (let same = (Decides-eqb (suc i + m) i).0 t in omega arith)) (λ f. f),
  le-ltb (suc i + m) i (omega arith),
)

itself_skipped : (i : ℕ) (r : Row) (after : List Row) (b : Bool) → replaced_in i r i (r ∷ after) ≡ Ok b → replaced_in i r (suc i) after ≡ Ok b
itself_skipped i r after b h = by (nat_eq i i) ((Decides-eqb i i).1 refl) h
  where
    by : (x : Bool) → x ≡ true
        → and_then (cond (not x && are_parallel r r) (and_then (comparison_in 126 (bound_of r) (bound_of r))
        (λ order. Ok (stands_in (nat_lt i i) order))) (Ok false))
        (λ replaced. cond replaced (Ok true) (replaced_in i r (suc i) after)) ≡ Ok b
        → replaced_in i r (suc i) after ≡ Ok b
    by true e h = h
    by false e h = absurd (cc)

-- another row stands in for r exactly where one before it has at most its bound, or one behind it a lesser one
replaced_is : (r : Row) (before after : List Row) (b : Bool) → is_constant r ≡ false → replaced_in (length before) r 0 (before ++ r ∷ after) ≡ Ok b
    → (list_any (is_within r) (solid before) || list_any (is_well_within r) (solid after)) ≡ b
replaced_is r before after b c h = by (front_told true (length before) r c 0 before (r ∷ after) b (before_one_side (length before) before refl) h)
  where
    last : (b : Bool) → Told false (length before) r (suc (length before)) after [] b → list_any (is_well_within r) (solid after) ≡ b
    last b (inl (any, is)) = any ∙ sym is
    last b (inr (none, end)) = none ∙ (let same : false ≡ b = cc in same)

    by : Told true (length before) r 0 before (r ∷ after) b → (list_any (is_within r) (solid before) || list_any (is_well_within r) (solid after)) ≡ b
    by (inl (any, is)) = ap (λ t. t || list_any (is_well_within r) (solid after)) any ∙ sym is
    by (inr (none, later)) =
        ap (λ t. t || list_any (is_well_within r) (solid after)) none
        ∙ last b (front_told false (length before) r c (suc (length before)) after [] b (behind_one_side (length before) after)
        (subst (λ t. replaced_in (length before) r (suc (length before)) t ≡ Ok b) (sym (append-nil after))
        (itself_skipped (length before) r after b (subst (λ n. replaced_in (length before) r n (r ∷ after) ≡ Ok b) (omega arith) later))))

-- ---- all rows
-- a list in the order in which the earlier rows were met
abbrev SameTests : List Row → List Row → Type 0
SameTests before front = (q : Row) → list_any (is_within q) before ≡ list_any (is_within q) (solid front)

any_last : (test : Row → Bool) (xs : List Row) (r : Row) → list_any test (xs ++ r ∷ []) ≡ (test r || list_any test xs)
any_last test [] r = refl
any_last test (x ∷ xs) r = ap (λ t. test x || t) (any_last test xs r) ∙ swap (test x) (test r) (list_any test xs)
  where
    swap : (a b c : Bool) → (a || (b || c)) ≡ (b || (a || c))
    swap true true c = refl
    swap true false c = refl
    swap false b c = refl

solid_last : (xs : List Row) (r : Row) → solid (xs ++ r ∷ []) ≡ cond (not (is_constant r)) (solid xs ++ r ∷ []) (solid xs)
solid_last [] r = refl
solid_last (x ∷ xs) r = ap (λ t. cond (not (is_constant x)) (x ∷ t) t) (solid_last xs r) ∙ by (not (is_constant x)) (not (is_constant r))
  where
    by : (a b : Bool) → cond a (x ∷ cond b (solid xs ++ r ∷ []) (solid xs)) (cond b (solid xs ++ r ∷ []) (solid xs))
        ≡ cond b (cond a (x ∷ solid xs) (solid xs) ++ r ∷ []) (cond a (x ∷ solid xs) (solid xs))
    by true true = refl
    by true false = refl
    by false true = refl
    by false false = refl

staying_is : (kept before front rows all new : List Row) → all ≡ front ++ rows → SameTests before front → staying_in kept all (length front) rows ≡ Ok new
    → new ≡ kept ++ tightest before (solid rows)
staying_is kept before front [] all new e same h = let is : kept ≡ new = cc in sym is ∙ sym (append-nil kept)
staying_is kept before front (r ∷ rows) all new e same h =
    by_test (is_constant r)
    (λ c.
    let skipped : solid (front ++ r ∷ []) ≡ solid front = solid_last front r ∙ ap (λ t. cond (not t) (solid front ++ r ∷ []) (solid front)) c in
    let rest : staying_in kept all (length (front ++ r ∷ [])) rows ≡ Ok new = subst (λ n. staying_in kept all n rows ≡ Ok new) (longer) (constant_case c h) in
    staying_is kept before (front ++ r ∷ []) rows all new (e ∙ sym (append_assoc front (r ∷ []) rows))
    (λ q. same q ∙ ap (list_any (is_within q)) (sym skipped)) rest
    ∙ ap (λ t. kept ++ tightest before (cond (not t) (r ∷ solid rows) (solid rows))) (sym c))
    (λ c.
    let (b, told, rest) = solid_case c h in
    let added : solid (front ++ r ∷ []) ≡ solid front ++ r ∷ [] = solid_last front r ∙ ap (λ t. cond (not t) (solid front ++ r ∷ []) (solid front)) c in
    let replaced = replaced_is r front rows b c (subst (λ t. replaced_in (length front) r 0 t ≡ Ok b) e told) in
    let tested : (list_any (is_within r) before || list_any (is_well_within r) (solid rows)) ≡ b =
    ap (λ t. t || list_any (is_well_within r) (solid rows)) (same r) ∙ replaced in
    let tail = staying_is (cond b kept (kept ++ r ∷ [])) (r ∷ before) (front ++ r ∷ []) rows all new (e ∙ sym (append_assoc front (r ∷ []) rows))
    (λ q. ap (λ t. is_within q r || t) (same q) ∙ sym (any_last (is_within q) (solid front) r) ∙ ap (list_any (is_within q)) (sym added))
    (subst (λ n. staying_in (cond b kept (kept ++ r ∷ [])) all n rows ≡ Ok new) longer rest) in
    tail ∙ joined b
    ∙ ap (λ t. kept ++ cond t (tightest (r ∷ before) (solid rows)) (r ∷ tightest (r ∷ before) (solid rows))) (sym tested)
    ∙ ap (λ t. kept ++ tightest before (cond (not t) (r ∷ solid rows) (solid rows))) (sym c))
  where
    longer : suc (length front) ≡ length (front ++ r ∷ [])
    longer = let l = length-append front (r ∷ []) in omega arith

    constant_case : is_constant r ≡ true → staying_in kept all (length front) (r ∷ rows) ≡ Ok new → staying_in kept all (suc (length front)) rows ≡ Ok new
    constant_case c h = by (is_constant r) c h
      where
        by : (x : Bool) → x ≡ true → cond x (staying_in kept all (suc (length front)) rows)
            (and_then (told_as (λ wide. fault.Wide (length front)) (replaced_in (length front) r 0 all))
            (λ replaced. staying_in (cond replaced kept (kept ++ r ∷ [])) all (suc (length front)) rows)) ≡ Ok new
            → staying_in kept all (suc (length front)) rows ≡ Ok new
        by true c h = h
        by false c h = absurd (cc)

    told_same : (x : Result Bool Wide) (b : Bool) → told_as (λ wide. fault.Wide (length front)) x ≡ Ok b → x ≡ Ok b
    told_same (Ok a) b h = let same : a ≡ b = cc in ap Ok same
    told_same (Err w) b h = absurd (cc)

    solid_case : is_constant r ≡ false → staying_in kept all (length front) (r ∷ rows) ≡ Ok new
        → (b : Bool) × (replaced_in (length front) r 0 all ≡ Ok b) × (staying_in (cond b kept (kept ++ r ∷ [])) all (suc (length front)) rows ≡ Ok new)
    solid_case c h = by (is_constant r) c h
      where
        by : (x : Bool) → x ≡ false → cond x (staying_in kept all (suc (length front)) rows)
            (and_then (told_as (λ wide. fault.Wide (length front)) (replaced_in (length front) r 0 all))
            (λ replaced. staying_in (cond replaced kept (kept ++ r ∷ [])) all (suc (length front)) rows)) ≡ Ok new
            → (b : Bool) × (replaced_in (length front) r 0 all ≡ Ok b) × (staying_in (cond b kept (kept ++ r ∷ [])) all (suc (length front)) rows ≡ Ok new)
        by true c h = absurd (cc)
        by false c h =
            let (b, e, f) = and_then_same (told_as (λ wide. fault.Wide (length front)) (replaced_in (length front) r 0 all))
            (λ replaced. staying_in (cond replaced kept (kept ++ r ∷ [])) all (suc (length front)) rows) new h in
            (b, told_same (replaced_in (length front) r 0 all) b e, f)

    joined : (b : Bool) → cond b kept (kept ++ r ∷ []) ++ tightest (r ∷ before) (solid rows)
        ≡ kept ++ cond b (tightest (r ∷ before) (solid rows)) (r ∷ tightest (r ∷ before) (solid rows))
    joined true = refl
    joined false = append_assoc kept (r ∷ []) (tightest (r ∷ before) (solid rows))

-- the clean that is not Wide
pub clean_value : (n : ℕ) (rows new : List Row) → clean_in n rows ≡ Ok new → new ≡ cleaned n rows
clean_value n rows new h = by (list_any is_impossible rows) h
  where
    by : (b : Bool) → cond b (Ok (impossible n ∷ [])) (staying_in [] rows 0 rows) ≡ Ok new → new ≡ cond b (impossible n ∷ []) (tightest [] (solid rows))
    by true h = let same : (impossible n ∷ []) ≡ new = cc in sym same
    by false h = staying_is [] [] [] rows rows new refl (λ q. refl) h

pub clean_means : (n : ℕ) (rows new : List Row) → clean_in n rows ≡ Ok new → AreMetAlike rows new
clean_means n rows new h = subst (AreMetAlike rows) (sym (clean_value n rows new h)) (λ x up. Meets-cleaned n rows x up)

pub clean_of_staying : (n : ℕ) (rows : List Row) → list_any is_impossible rows ≡ false → clean_in n rows ≡ staying_in [] rows 0 rows
clean_of_staying n rows none = ap (λ b. cond {A = Result (List Row) CleanFault} b (Ok (impossible n ∷ [])) (staying_in [] rows 0 rows)) none

pub clean_of_impossible : (n : ℕ) (rows : List Row) → list_any is_impossible rows ≡ true → clean_in n rows ≡ Ok (impossible n ∷ [])
clean_of_impossible n rows some = ap (λ b. cond {A = Result (List Row) CleanFault} b (Ok (impossible n ∷ [])) (staying_in [] rows 0 rows)) some
