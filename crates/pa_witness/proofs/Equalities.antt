-- The places that a search for an equality finds are those of a positive row and of its negative.
use Rattle.std.proofs.Common.{◌≡◌, refl, sym, ap, ap₂, ◌∙◌, subst, ℕ, suc, ◌+◌, ◌<◌, Bool, true, false, ◌&&◌, cond, List, [], ◌∷◌, length, int_lt, Option}
use Rattle.std.proofs.Common.{Some, None, arith}
use Rattle.std.proofs.lemmas.Int.{ints}
use Rattle.std.proofs.lemmas.Bool.Decides.{Decides-int_eq}
use Rattle.std.proofs.lemmas.Slice.Eq.{slice_eq-Decides}
use Rattle.std.specs.Ordering.{int_eq}
use Rattle.std.specs.Cmp.Lexicographic.{pointwise}
use lib.IntN.{ℤ, pos}
use lib.Signed.{◌<ℤ◌}
use Rattle.pa_ring.specs.Sums.{number_at}
use Rattle.pa_math.specs.Answers.{given}
use Rattle.pa_meaning.specs.Rows.{Row, row_at}
use Rattle.pa_witness.specs.Equalities.{same_row, negative, is_opposite, place_from, opposite_of, equality_from, equality_of}
use Rattle.pa_witness.specs.Steps.{Version, One, Two, equality_in}
use Rattle.pa_witness.proofs.Substitution.{IsEqualityAt}

-- ---- what a search finds
pub record IsFound (test : Row → Bool) (i : ℕ) (rows : List Row) (j : ℕ) : Type 0 where
  pub after : ℕ
  pub place : j ≡ i + after
  pub within : after < length rows
  pub passes : test (row_at rows after) ≡ true

found_next : (test : Row → Bool) (i : ℕ) (r : Row) (rows : List Row) (j : ℕ) → IsFound test (suc i) rows j → IsFound test i (r ∷ rows) j
found_next test i r rows j f = record {
  after = suc f.after;
  place = let e = f.place in omega arith;
  within = let h = f.within in omega arith;
  passes = f.passes;
}

pub found_at : (test : Row → Bool) (i : ℕ) (rows : List Row) (j : ℕ) → place_from test i rows ≡ Some j → IsFound test i rows j
found_at test i [] j h = absurd (cc)
found_at test i (r ∷ rows) j h = by (test r) refl h (λ g. found_next test i r rows j (found_at test (suc i) rows j g))
  where
    by : (b : Bool) → test r ≡ b → cond b (Some i) (place_from test (suc i) rows) ≡ Some j
        → (place_from test (suc i) rows ≡ Some j → IsFound test i (r ∷ rows) j) → IsFound test i (r ∷ rows) j
    by true e g rest = record { after = 0; place = let same : i ≡ j = cc in omega arith; within = omega arith; passes = e }
    by false e g rest = rest g

pub same_numbers : (xs ys : List ℤ) → pointwise int_eq xs ys ≡ true → xs ≡ ys
same_numbers xs ys h = (slice_eq-Decides Decides-int_eq xs ys _ refl).0 h

pub same_row_is : (r s : Row) → same_row r s ≡ true → r ≡ s
same_row_is r s h = by (pointwise int_eq r.c s.c) (int_eq r.b s.b) refl refl h
  where
    by : (a b : Bool) → pointwise int_eq r.c s.c ≡ a → int_eq r.b s.b ≡ b → (a && b) ≡ true → r ≡ s
    by true true e f g = ap₂ (λ c b. record { c = c; b = b }) (same_numbers r.c s.c e) ((Decides-int_eq r.b s.b).0 f)
    by true false e f g = absurd (cc)
    by false b e f g = absurd (cc)

opposite_is_negative : (r s : Row) → is_opposite r s ≡ true → s ≡ negative r
opposite_is_negative r s h = sym (same_row_is (negative r) s h)

is_below : (a b : ℤ) → int_lt a b ≡ true → a <ℤ b
is_below a b h = omega (arith, ints)

record IsPair (k : ℕ) (all : List Row) (i : ℕ) (rows : List Row) (places : ℕ × ℕ) : Type 0 where
  after : ℕ
  place : places.0 ≡ i + after
  within : after < length rows
  positive : pos 0 <ℤ number_at (row_at rows after).c k
  opposite : opposite_of all (row_at rows after) ≡ Some places.1

pair_next : (k : ℕ) (all : List Row) (i : ℕ) (r : Row) (rows : List Row) (places : ℕ × ℕ) → IsPair k all (suc i) rows places → IsPair k all i (r ∷ rows) places
pair_next k all i r rows places f = record {
  after = suc f.after;
  place = let e = f.place in omega arith;
  within = let h = f.within in omega arith;
  positive = f.positive;
  opposite = f.opposite;
}

pair_at : (k : ℕ) (all : List Row) (i : ℕ) (rows : List Row) (places : ℕ × ℕ) → equality_from k all i rows ≡ Some places → IsPair k all i rows places
pair_at k all i [] places h = absurd (cc)
pair_at k all i (r ∷ rows) places h =
    by (int_lt (pos 0) (number_at r.c k)) (opposite_of all r) refl refl h (λ g. pair_next k all i r rows places (pair_at k all (suc i) rows places g))
  where
    by : (b : Bool) (o : Option ℕ) → int_lt (pos 0) (number_at r.c k) ≡ b → opposite_of all r ≡ o
        → cond b (given (equality_from k all (suc i) rows) o (λ j. Some (i, j))) (equality_from k all (suc i) rows) ≡ Some places
        → (equality_from k all (suc i) rows ≡ Some places → IsPair k all i (r ∷ rows) places) → IsPair k all i (r ∷ rows) places
    by false o e f g rest = rest g
    by true None e f g rest = rest g
    by true (Some j) e f g rest =
        let same : (i, j) ≡ places = cc in record {
          after = 0;
          place = let first : i ≡ places.0 = ap (λ (t : ℕ × ℕ). t.0) same in omega arith;
          within = omega arith;
          positive = is_below (pos 0) (number_at r.c k) e;
          opposite = f ∙ ap (λ (t : ℕ × ℕ). Some t.1) same;
        }

-- the places of an equality are those of a positive row and its negative
pub equality_is : (k : ℕ) (rows : List Row) (places : ℕ × ℕ) → equality_of k rows ≡ Some places → IsEqualityAt k rows places.0 places.1
equality_is k rows places h =
    let pair = pair_at k rows 0 rows places h in
    let first : places.0 ≡ pair.after = let e = pair.place in omega arith in
    let found = found_at (is_opposite (row_at rows pair.after)) 0 rows places.1 pair.opposite in
    let second : places.1 ≡ found.after = let e = found.place in omega arith in
    record {
      first = let h = pair.within in omega arith;
      second = let h = found.within in omega arith;
      positive = subst (λ i. pos 0 <ℤ number_at (row_at rows i).c k) (sym first) pair.positive;
      opposite = ap (row_at rows) second ∙ opposite_is_negative (row_at rows pair.after) (row_at rows found.after) found.passes
          ∙ ap (λ i. negative (row_at rows i)) (sym first);
    }

pub equality_in_is : (v : Version) (k : ℕ) (rows : List Row) (places : ℕ × ℕ) → equality_in v k rows ≡ Some places → IsEqualityAt k rows places.0 places.1
equality_in_is One k rows places h = absurd (cc)
equality_in_is Two k rows places h = equality_is k rows places h
