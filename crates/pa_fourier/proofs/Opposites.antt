-- The places of the negatives of rows, filled from the last row to the first: a place that is put later is an earlier one.
use Rattle.std.proofs.Common.{◌≡◌, refl, sym, ap, ap₂, ◌∙◌, subst, ℕ, ◌<◌, ◌+◌, Bool, true, false, ◌&&◌, cond, List, [], ◌∷◌, ◌++◌, drop}
use Rattle.std.proofs.Common.{length, get_or, map, All, Option, Some, None, ◌^◌, append_assoc, add-one, int_lt, arith}
use Rattle.std.proofs.lemmas.Int.{ints}
use Rattle.std.proofs.lemmas.Bool.Decides.{Decides-int_eq}
use Rattle.std.proofs.lemmas.List.Elements.{All-map, All-weaker}
use Rattle.std.proofs.Math.Seq.{drop-cons}
use Rattle.std.specs.Ordering.{int_eq}
use Rattle.std.specs.Cmp.Lexicographic.{pointwise}
use Rattle.indexmap.specs.IndexMap.{IndexMap, get}
use lib.IntN.{ℤ, pos, neg_ℤ}
use lib.Signed.{◌<ℤ◌, ◌≤ℤ◌}
use Rattle.pa_ring.proofs.Integers.{abs-neg_ℤ}
use Rattle.pa_ring.specs.Sums.{number_at}
use Rattle.pa_math.specs.Answers.{given}
use Rattle.pa_meaning.specs.Rows.{Row}
use Rattle.pa_row.specs.Same.{same_row}
use Rattle.pa_row.specs.Width.{Fits, IsNarrow}
use Rattle.pa_row.proofs.SameRows.{same_row_is}
use Rattle.pa_witness.specs.Equalities.{negative, is_opposite, place_from, opposite_of, equality_from}
use Rattle.pa_witness.proofs.Substitution.{number_at-negative}
use Rattle.pa_fourier.proofs.Turns.{place_turn, equality_turn}

-- one number more
pub negated_turn : (xs : List ℤ) (i : ℕ) (x : ℤ) → i < length xs → x ≡ get_or xs i x → map neg_ℤ (drop i xs) ≡ neg_ℤ x ∷ map neg_ℤ (drop (i + 1) xs)
negated_turn xs i x h is = rw (add-one, drop-cons xs i x h, ← is) refl

-- the numbers so far, one more, and the others
pub negated_more : (xs : List ℤ) (i : ℕ) (x y : ℤ) (made more : List ℤ) → i < length xs → x ≡ get_or xs i x → y ≡ neg_ℤ x → more ≡ made ++ y ∷ []
    → made ++ map neg_ℤ (drop i xs) ≡ map neg_ℤ xs → more ++ map neg_ℤ (drop (i + 1) xs) ≡ map neg_ℤ xs
negated_more xs i x y made more h is negative all so_far =
    ap (λ t. t ++ map neg_ℤ (drop (i + 1) xs)) all ∙ append_assoc made (y ∷ []) (map neg_ℤ (drop (i + 1) xs))
    ∙ ap (λ t. made ++ t ∷ map neg_ℤ (drop (i + 1) xs)) negative ∙ sym (ap (λ t. made ++ t) (negated_turn xs i x h is)) ∙ so_far

-- a negative is as narrow as its number
negative_fits : (x : ℤ) → Fits x → Fits (neg_ℤ x)
negative_fits x h = subst (λ a. a < 2 ^ 126) (sym (abs-neg_ℤ x)) h

pub negative_narrow : (r : Row) (c : List ℤ) (b : ℤ) → IsNarrow r → c ≡ map neg_ℤ r.c → b ≡ neg_ℤ r.b → IsNarrow (record { c = c; b = b })
negative_narrow r c b narrow c_is b_is = record {
  coefficients = subst (All Fits) (sym c_is) (All-map Fits neg_ℤ r.c (All-weaker Fits (λ x. Fits (neg_ℤ x)) negative_fits r.c narrow.coefficients));
  bound = subst Fits (sym b_is) (negative_fits r.b narrow.bound);
}

-- ---- a row is the negative of another one exactly where that one is its negative
same_bool : (a b : Bool) → (a ≡ true → b ≡ true) → (b ≡ true → a ≡ true) → a ≡ b
same_bool true b f g = sym (f refl)
same_bool false true f g = g refl
same_bool false false f g = refl

opposite_numbers : (x y : ℤ) → int_eq (neg_ℤ x) y ≡ int_eq (neg_ℤ y) x
opposite_numbers x y = same_bool (int_eq (neg_ℤ x) y) (int_eq (neg_ℤ y) x)
    (λ h. let e = (Decides-int_eq (neg_ℤ x) y).0 h in (Decides-int_eq (neg_ℤ y) x).1 (omega (arith, ints)))
    (λ h. let e = (Decides-int_eq (neg_ℤ y) x).0 h in (Decides-int_eq (neg_ℤ x) y).1 (omega (arith, ints)))

opposite_lists : (xs ys : List ℤ) → pointwise int_eq (map neg_ℤ xs) ys ≡ pointwise int_eq (map neg_ℤ ys) xs
opposite_lists [] [] = refl
opposite_lists [] (y ∷ ys) = refl
opposite_lists (x ∷ xs) [] = refl
opposite_lists (x ∷ xs) (y ∷ ys) = ap₂ (λ a b. a && b) (opposite_numbers x y) (opposite_lists xs ys)

pub opposite_either : (r s : Row) → is_opposite r s ≡ is_opposite s r
opposite_either r s = ap₂ (λ a b. a && b) (opposite_lists r.c s.c) (opposite_numbers r.b s.b)

-- ---- the rows from one place on
module _ {S : Type 0} where
  -- at each row that is positive in column k the place of its first negative among the rows from place i on
  abbrev pub HoldsOpposites : ℕ → List Row → ℕ → IndexMap Row ℕ S → Type 0
  HoldsOpposites k rows i places = (q : Row) → pos 0 <ℤ number_at q.c k → get same_row places q ≡ place_from (is_opposite q) i (drop i rows)

-- a row that is not negative in the column is no negative of one that is positive there
is_no_opposite : (k : ℕ) (q r : Row) → pos 0 <ℤ number_at q.c k → pos 0 ≤ℤ number_at r.c k → is_opposite q r ≡ false
is_no_opposite k q r positive other = by (is_opposite q r) refl
  where
    by : (b : Bool) → is_opposite q r ≡ b → b ≡ false
    by false e = refl
    by true e =
        let same : negative q ≡ r = same_row_is (negative q) r e in
        let at : number_at r.c k ≡ neg_ℤ (number_at q.c k) = ap (λ (r : Row). number_at r.c k) (sym same) ∙ number_at-negative k q in
        absurd (omega (arith, ints))

module _ {S : Type 0} where
  -- one row less behind: the row is negative in the column, and its place is put at its negative
  pub opposites_put : (k : ℕ) (rows : List Row) (i : ℕ) (r : Row) (old new : IndexMap Row ℕ S) → i < length rows → r ≡ get_or rows i r
      → ((q : Row) → get same_row new q ≡ cond (is_opposite q r) (Some i) (get same_row old q))
      → HoldsOpposites k rows (i + 1) old → HoldsOpposites k rows i new
  opposites_put k rows i r old new h is put held q positive =
      put q ∙ ap (λ t. cond (is_opposite q r) (Some i) t) (held q positive) ∙ sym (place_turn (is_opposite q) rows i r h is)

  -- the row is none that is looked for
  pub opposites_passed : (k : ℕ) (rows : List Row) (i : ℕ) (r : Row) (old : IndexMap Row ℕ S) → i < length rows → r ≡ get_or rows i r
      → pos 0 ≤ℤ number_at r.c k → HoldsOpposites k rows (i + 1) old → HoldsOpposites k rows i old
  opposites_passed k rows i r old h is other held q positive =
      held q positive ∙ sym (place_turn (is_opposite q) rows i r h is
      ∙ ap (λ t. cond t (Some i) (place_from (is_opposite q) (i + 1) (drop (i + 1) rows))) (is_no_opposite k q r positive other))

not_above : (x : ℤ) (b : Bool) → int_lt (pos 0) x ≡ b → x ≤ℤ pos 0 → b ≡ false
not_above x false e h = refl
not_above x true e h = absurd (omega (arith, ints))

-- ---- one row of the search
module _ (k : ℕ) (rows : List Row) (i : ℕ) (r : Row) (h : i < length rows) (is : r ≡ get_or rows i r) where
  -- its negative is not there
  pub equality_none : opposite_of rows r ≡ None → equality_from k rows i (drop i rows) ≡ equality_from k rows (i + 1) (drop (i + 1) rows)
  equality_none none =
      equality_turn k rows i r h is
      ∙ ap (λ (o : Option ℕ). cond (int_lt (pos 0) (number_at r.c k)) (given rest o (λ j. Some (i, j))) rest) none ∙ either (int_lt (pos 0) (number_at r.c k))
    where
      rest : Option (ℕ × ℕ)
      rest = equality_from k rows (i + 1) (drop (i + 1) rows)

      either : (b : Bool) → cond b rest rest ≡ rest
      either true = refl
      either false = refl

  -- it is not positive in the column
  pub equality_passed : number_at r.c k ≤ℤ pos 0 → equality_from k rows i (drop i rows) ≡ equality_from k rows (i + 1) (drop (i + 1) rows)
  equality_passed other =
      equality_turn k rows i r h is ∙ ap (λ b. cond b (given rest (opposite_of rows r) (λ j. Some (i, j))) rest) is_below
    where
      rest : Option (ℕ × ℕ)
      rest = equality_from k rows (i + 1) (drop (i + 1) rows)

      is_below : int_lt (pos 0) (number_at r.c k) ≡ false
      is_below = not_above (number_at r.c k) (int_lt (pos 0) (number_at r.c k)) refl other
