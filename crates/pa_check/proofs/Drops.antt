-- What the tests of drops tell.
use Rattle.std.proofs.Common.{◌≡◌, refl, sym, ap, ap₂, ◌∙◌, subst, ℕ, zero, suc, ◌<◌, ◌≤◌, List, [], ◌∷◌, ◌++◌, length, get_or, ℤ, Bool, true, false}
use Rattle.std.proofs.Common.{not, ◌&&◌, ◌||◌, Result, Ok, Err, All, AllPairs, Decides, IfOk, nat_lt, nat_eq, arith, true≢false}
use Rattle.std.proofs.lemmas.Bool.Decides.{Decides-by_and, Decides-ltb, Decides-like, Decides-and, Decides-at}
use Rattle.std.proofs.lemmas.List.Elements.{All-nil, All-cons, All-head, All-tail, All-append, All-get_or}
use Rattle.std.proofs.lemmas.List.Kept.{AllPairs-cons}
use Rattle.std.specs.List.{list_all, list_any}
use Rattle.pa_frac.specs.declared.wide.Wide.{Wide}
use Rattle.pa_meaning.specs.Rows.{Row, row_at}
use Rattle.pa_meaning.specs.Weights.{Weights, AllPlaced, Proves}
use Rattle.pa_witness.specs.Thinning.{Dropped, DropsHold, NamesNone, is_place_of}
use Rattle.pa_row.specs.Width.{IsCanonical}
use Rattle.pa_row.specs.Sums.{covers_in}
use Rattle.pa_row.proofs.WeightedSums.{covers_truly}
use Rattle.pa_row.proofs.Turns.{row_at_read}
use Rattle.pa_check.specs.Tests.{both, Tells}
use Rattle.pa_check.specs.Proofs.{are_below}
use Rattle.pa_check.specs.Drops.{is_above, is_dropped, names_none, is_named_well, drop_in, drops_from, drops_in, DropsStand}
use Rattle.pa_check.proofs.Tests.{tells_sure, tells_like, tells_both, told}
use Rattle.pa_check.proofs.Proofs.{below_decides}

-- ---- what the tests of names tell
-- the drop is in range and above those before it, its weights' places are those of rows, and none is dropped
pub record IsNamedWell (rows : List Row) (own : ℕ) (done : List Dropped) (d : Dropped) : Type 0 where
  pub own_place : d.row < own
  pub above : All (λ e. e.row < d.row) done
  pub places : AllPlaced d.weights.parts rows
  pub names : All (λ part. (nat_eq part.0 d.row || is_dropped done part.0) ≡ false) d.weights.parts

not_decides : (b : Bool) → Decides (not b) (b ≡ false)
not_decides true = (λ e. sym e, λ e. sym e)
not_decides false = (λ e. refl, λ e. refl)

pub above_decides : (done : List Dropped) (place : ℕ) → Decides (is_above done place) (All (λ e. e.row < place) done)
above_decides done place =
    Decides-by_and (λ e. nat_lt e.row place) (λ e. e.row < place) (λ xs. list_all (λ e. nat_lt e.row place) xs) (λ e. Decides-ltb e.row place) refl
    (λ x xs. refl) done

pub names_decides : (done : List Dropped) (place : ℕ) (parts : List (ℕ × ℤ))
    → Decides (names_none done place parts) (All (λ part. (nat_eq part.0 place || is_dropped done part.0) ≡ false) parts)
names_decides done place parts =
    Decides-by_and (λ part. not (nat_eq part.0 place || is_dropped done part.0)) (λ part. (nat_eq part.0 place || is_dropped done part.0) ≡ false)
    (λ xs. names_none done place xs)
    (λ part. not_decides (nat_eq part.0 place || is_dropped done part.0)) refl (λ x xs. refl) parts

pub well_named : (rows : List Row) (own : ℕ) (done : List Dropped) (d : Dropped) → Decides (is_named_well rows own done d) (IsNamedWell rows own done d)
well_named rows own done d =
    Decides-like (is_named_well rows own done d) (λ h. record { own_place = h.0.0.0; above = h.0.0.1; places = h.0.1; names = h.1 })
    (λ h. (((h.own_place, h.above), h.places), h.names))
    (Decides-and (nat_lt d.row own && is_above done d.row && are_below (length rows) d.weights.parts) (names_none done d.row d.weights.parts)
    (Decides-and (nat_lt d.row own && is_above done d.row) (are_below (length rows) d.weights.parts)
    (Decides-and (nat_lt d.row own) (is_above done d.row) (Decides-ltb d.row own) (above_decides done d.row))
    (below_decides (length rows) d.weights.parts)) (names_decides done d.row d.weights.parts))

-- ---- for the code
pub in_range : (rows : List Row) (own : ℕ) (done : List Dropped) (d : Dropped) → own ≤ length rows → is_named_well rows own done d ≡ true → d.row < length rows
in_range rows own done d h e = let l : d.row < own = ((well_named rows own done d).0 e).own_place in omega arith

pub weights_placed : (rows : List Row) (own : ℕ) (done : List Dropped) (d : Dropped) → is_named_well rows own done d ≡ true → AllPlaced d.weights.parts rows
weights_placed rows own done d e = ((well_named rows own done d).0 e).places

pub same_as_row : (n : ℕ) (rows : List Row) (row : Row) (i : ℕ) → All (λ r. length r.c ≡ n) rows → i < length rows → row ≡ get_or rows i row
    → All (λ r. length r.c ≡ length row.c) rows
same_as_row n rows row i a h is k d l = a k d l ∙ sym (ap (λ (r : Row). length r.c) is ∙ a i row h)

pub drop_answer : (rows : List Row) (own : ℕ) (done : List Dropped) (d : Dropped) (row : Row) (answer : Result Bool Wide)
    → is_named_well rows own done d ≡ true → d.row < length rows → row ≡ get_or rows d.row row
    → answer ≡ covers_in rows row d.weights → answer ≡ drop_in rows own done d
drop_answer rows own done d row answer named h is e =
    e ∙ ap (λ r. covers_in rows r d.weights) (is ∙ sym (row_at_read rows d.row row h))
    ∙ ap (λ b. both (Ok b) (covers_in rows (row_at rows d.row) d.weights)) (sym named)

-- ---- the drops in order
columns_at : (n : ℕ) (rows : List Row) (i : ℕ) → All (λ r. length r.c ≡ n) rows → i < length rows → All (λ r. length r.c ≡ length (row_at rows i).c) rows
columns_at n rows i a h = let row : Row = row_at rows i in same_as_row n rows row i a h (row_at_read rows i row h)

pub drop_tells : (n : ℕ) (rows : List Row) (own : ℕ) (done : List Dropped) (d : Dropped) → All (λ r. length r.c ≡ n) rows → own ≤ length rows
    → IsCanonical d.weights → Tells (drop_in rows own done d) (IsNamedWell rows own done d × Proves d.weights rows (row_at rows d.row))
drop_tells n rows own done d columns few canonical =
    tells_both (Ok (is_named_well rows own done d)) (covers_in rows (row_at rows d.row) d.weights)
    (tells_sure (is_named_well rows own done d) (well_named rows own done d))
    (λ h passed e. covers_truly rows (row_at rows d.row) d.weights passed canonical h.places
    (columns_at n rows d.row columns (let l : d.row < own = h.own_place in omega arith)) (sym e))

-- the drops after these: they are placed and ascend, each is above these, and hold where those before are gone
record Rest (rows : List Row) (own : ℕ) (gone : List ℕ) (done drops : List Dropped) : Type 0 where
  ascending : AllPairs (λ (d e : Dropped). d.row < e.row) drops
  above : All (λ d. All (λ e. e.row < d.row) done) drops
  placed : All (λ d. d.row < own) drops
  shown : DropsHold rows gone drops

-- the same places are gone
abbrev AreGone : List ℕ → List Dropped → Type 0
AreGone gone done = (i : ℕ) → is_dropped done i ≡ is_place_of gone i

or_false : (b : Bool) → (b || false) ≡ b
or_false true = refl
or_false false = refl

any_last : (done : List Dropped) (d : Dropped) (i : ℕ) → is_dropped (done ++ d ∷ []) i ≡ (nat_eq i d.row || is_dropped done i)
any_last [] d i = refl
any_last (e ∷ done) d i = ap (λ b. nat_eq i e.row || b) (any_last done d i) ∙ swapped (nat_eq i e.row) (nat_eq i d.row) (is_dropped done i)
  where
    swapped : (a b c : Bool) → (a || (b || c)) ≡ (b || (a || c))
    swapped true true c = refl
    swapped true false c = refl
    swapped false b c = refl

one_more_gone : (gone : List ℕ) (done : List Dropped) (d : Dropped) → AreGone gone done → AreGone (d.row ∷ gone) (done ++ d ∷ [])
one_more_gone gone done d same i = any_last done d i ∙ ap (λ b. nat_eq i d.row || b) (same i)

names_from : (gone : List ℕ) (done : List Dropped) (d : Dropped) → AreGone gone done
    → All (λ part. (nat_eq part.0 d.row || is_dropped done part.0) ≡ false) d.weights.parts → NamesNone (d.row ∷ gone) d.weights
names_from gone done d same a k e l = sym (ap (λ b. nat_eq (get_or d.weights.parts k e).0 d.row || b) (same (get_or d.weights.parts k e).0)) ∙ a k e l

names_to : (gone : List ℕ) (done : List Dropped) (d : Dropped) → AreGone gone done → NamesNone (d.row ∷ gone) d.weights
    → All (λ part. (nat_eq part.0 d.row || is_dropped done part.0) ≡ false) d.weights.parts
names_to gone done d same a k e l = ap (λ b. nat_eq (get_or d.weights.parts k e).0 d.row || b) (same (get_or d.weights.parts k e).0) ∙ a k e l

-- the first drop and the rest
Before : List Dropped → Dropped → Type 0
Before done d = All (λ e. e.row < d.row) done

split_above : (done : List Dropped) (d e : Dropped) → All (λ x. x.row < e.row) (done ++ d ∷ []) → All (λ x. x.row < e.row) done × (d.row < e.row)
split_above [] d e a = (All-nil (λ x. x.row < e.row), All-head (λ x. x.row < e.row) d [] a)
split_above (x ∷ done) d e a =
    let rest = split_above done d e (All-tail (λ x. x.row < e.row) x (done ++ d ∷ []) a) in
    (All-cons (λ x. x.row < e.row) x done (All-head (λ x. x.row < e.row) x (done ++ d ∷ []) a) rest.0, rest.1)

rest_cons : (rows : List Row) (own : ℕ) (gone : List ℕ) (done : List Dropped) (d : Dropped) (drops : List Dropped) → AreGone gone done
    → (IsNamedWell rows own done d × Proves d.weights rows (row_at rows d.row)) × Rest rows own (d.row ∷ gone) (done ++ d ∷ []) drops
    → Rest rows own gone done (d ∷ drops)
rest_cons rows own gone done d drops same h = record {
  ascending = AllPairs-cons (λ (d e : Dropped). d.row < e.row) d drops (λ k e l. (split_above done d (get_or drops k e) (h.1.above k e l)).1) h.1.ascending;
  above = All-cons (λ d. All (λ e. e.row < d.row) done) d drops h.0.0.above (λ k e l. (split_above done d (get_or drops k e) (h.1.above k e l)).0);
  placed = All-cons (λ d. d.row < own) d drops h.0.0.own_place h.1.placed;
  shown = (h.0.1, names_from gone done d same h.0.0.names, h.1.shown);
}

rest_parts : (rows : List Row) (own : ℕ) (gone : List ℕ) (done : List Dropped) (d : Dropped) (drops : List Dropped) → AreGone gone done
    → Rest rows own gone done (d ∷ drops) → (IsNamedWell rows own done d × Proves d.weights rows (row_at rows d.row))
    × Rest rows own (d.row ∷ gone) (done ++ d ∷ []) drops
rest_parts rows own gone done d drops same h = (
  (
    record {
      own_place = All-head (λ d. d.row < own) d drops h.placed;
      above = All-head (λ d. All (λ e. e.row < d.row) done) d drops h.above;
      places = h.shown.0.places;
      names = names_to gone done d same h.shown.1;
    },
    h.shown.0,
  ),
  record {
    ascending = λ i j x l m. h.ascending (suc i) (suc j) x (omega arith) (omega arith);
    above = λ k e l. All-append (λ x. x.row < (get_or drops k e).row) done (d ∷ []) (All-tail (λ d. All (λ e. e.row < d.row) done) d drops h.above k e l)
        (All-cons (λ x. x.row < (get_or drops k e).row) d [] (h.ascending 0 (suc k) e (omega arith) (omega arith))
        (All-nil (λ x. x.row < (get_or drops k e).row)));
    placed = All-tail (λ d. d.row < own) d drops h.placed;
    shown = h.shown.2;
  },
)

from_tells : (n : ℕ) (rows : List Row) (own : ℕ) (gone : List ℕ) (done drops : List Dropped) → All (λ r. length r.c ≡ n) rows → own ≤ length rows
    → AreGone gone done → All (λ d. IsCanonical d.weights) drops
    → Tells (drops_from rows own done drops) (Rest rows own gone done drops)
from_tells n rows own gone done [] columns few same canonical =
    tells_sure true (
      λ e. record {
        ascending = λ i j x l m. absurd (omega arith);
        above = All-nil (λ d. All (λ e. e.row < d.row) done);
        placed = All-nil (λ d. d.row < own);
        shown = tt;
      },
      λ h. refl,
    )
from_tells n rows own gone done (d ∷ drops) columns few same canonical =
    tells_like (drops_from rows own done (d ∷ drops)) (rest_cons rows own gone done d drops same) (rest_parts rows own gone done d drops same)
    (tells_both (drop_in rows own done d) (drops_from rows own (done ++ d ∷ []) drops)
    (drop_tells n rows own done d columns few (All-head (λ d. IsCanonical d.weights) d drops canonical))
    (λ h. from_tells n rows own (d.row ∷ gone) (done ++ d ∷ []) drops columns few (one_more_gone gone done d same)
    (All-tail (λ d. IsCanonical d.weights) d drops canonical)))

pub drops_tells : (n : ℕ) (rows : List Row) (own : ℕ) (drops : List Dropped) → All (λ r. length r.c ≡ n) rows → own ≤ length rows
    → All (λ d. IsCanonical d.weights) drops → Tells (drops_in rows own drops) (DropsStand rows own drops)
drops_tells n rows own drops columns few canonical =
    tells_like (drops_in rows own drops) (λ h. record { ascending = h.ascending; placed = h.placed; shown = h.shown })
    (λ h. record { ascending = h.ascending; above = λ k e l. All-nil (λ x. x.row < (get_or drops k e).row); placed = h.placed; shown = h.shown })
    (from_tells n rows own [] [] drops columns few (λ i. refl) canonical)

pub drops_told : (answer : Result Bool Wide) (n : ℕ) (rows : List Row) (own : ℕ) (drops : List Dropped) → All (λ r. length r.c ≡ n) rows → own ≤ length rows
    → All (λ d. IsCanonical d.weights) drops → answer ≡ drops_in rows own drops → IfOk answer (λ passed. Decides passed (DropsStand rows own drops))
drops_told answer n rows own drops columns few canonical e = told answer (drops_in rows own drops) e (drops_tells n rows own drops columns few canonical)
