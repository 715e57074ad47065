-- Rows that are dropped by weights: the list and the thinned list, each with the context, are met by the same points.
use Rattle.std.proofs.Common.{◌≡◌, ◌↔◌, refl, subst, sym, ℕ, zero, suc, ◌+◌, Bool, true, false, ◌||◌, cond, eqb, List, [], ◌∷◌, ◌++◌, All, arith}
use Rattle.std.proofs.lemmas.Bool.Decides.{Decides-eqb}
use Rattle.std.proofs.lemmas.List.Elements.{All-nil, All-cons, All-head, All-tail, All-weaker}
use lib.IntN.{pos}
use lib.Signed.{◌<ℤ◌}
use Rattle.pa_meaning.specs.Rows.{Row, Point, Meets, MeetsAll, row_at}
use Rattle.pa_meaning.specs.Weights.{Proves}
use Rattle.pa_witness.specs.Thinning.{Dropped, places_of, is_place_of, without_places, NamesNone, DropsHold}
use Rattle.pa_meaning.proofs.Farkas.{Meets-row_at, Meets-proved_named}

left_false : (a b : Bool) → (a || b) ≡ false → a ≡ false
left_false true b h = h
left_false false b h = refl

right_false : (a b : Bool) → (a || b) ≡ false → b ≡ false
right_false true b h = absurd (cc)
right_false false b h = h

both_false : (a b : Bool) → a ≡ false → b ≡ false → (a || b) ≡ false
both_false true b h k = h
both_false false b h k = k

-- a point that meets each row but the dropped ones meets the last of these too
restored_by : (rows : List Row) (gone : List ℕ) (d : Dropped) (x : Point) → pos 0 <ℤ x.q → Proves d.weights rows (row_at rows d.row)
    → NamesNone (d.row ∷ gone) d.weights
    → ((j : ℕ) → is_place_of (d.row ∷ gone) j ≡ false → Meets (row_at rows j) x)
    → (i : ℕ) → is_place_of gone i ≡ false → Meets (row_at rows i) x
restored_by rows gone d x up proves spared others i fresh = by (eqb i d.row) refl
  where
    here : Meets (row_at rows d.row) x
    here = Meets-proved_named d.weights rows (row_at rows d.row) x up proves
        (All-weaker (λ part. is_place_of (d.row ∷ gone) part.0 ≡ false) (λ part. Meets (row_at rows part.0) x) (λ part f. others part.0 f) d.weights.parts
        spared)

    by : (b : Bool) → eqb i d.row ≡ b → Meets (row_at rows i) x
    by true e = subst (λ k. Meets (row_at rows k) x) (sym ((Decides-eqb i d.row).0 e)) here
    by false e = others i (both_false (eqb i d.row) (is_place_of gone i) e fresh)

-- Where a point meets each row that is not dropped, it meets the dropped ones too: the last one first.
pub restored : (rows : List Row) (gone : List ℕ) (drops : List Dropped) (x : Point) → pos 0 <ℤ x.q → DropsHold rows gone drops
    → ((i : ℕ) → is_place_of (places_of drops) i ≡ false → is_place_of gone i ≡ false → Meets (row_at rows i) x)
    → (i : ℕ) → is_place_of gone i ≡ false → Meets (row_at rows i) x
restored rows gone [] x up h met i fresh = met i refl fresh
restored rows gone (d ∷ drops) x up h met i fresh =
    restored_by rows gone d x up h.0 h.1
    (restored rows (d.row ∷ gone) drops x up h.2 (λ j f k.
    met j (both_false (eqb j d.row) (is_place_of (places_of drops) j) (left_false (eqb j d.row) (is_place_of gone j) k) f)
    (right_false (eqb j d.row) (is_place_of gone j) k)))
    i fresh

-- a point that meets the rows that are left and the context meets each row that is not dropped
others_met : (gone : List ℕ) (i : ℕ) (rows context : List Row) (x : Point) → MeetsAll (without_places gone i rows) x → MeetsAll context x
    → (j : ℕ) → is_place_of gone (i + j) ≡ false → Meets (row_at (rows ++ context) j) x
others_met gone i [] context x h c j fresh = Meets-row_at context x j c
others_met gone i (r ∷ rows) context x h c zero fresh =
    let here : is_place_of gone i ≡ false = subst (λ k. is_place_of gone k ≡ false) (omega arith) fresh in
    All-head (λ r. Meets r x) r (without_places gone (suc i) rows) (rw here at h)
others_met gone i (r ∷ rows) context x h c (suc j) fresh =
    others_met gone (suc i) rows context x (by (is_place_of gone i) refl) c j (subst (λ k. is_place_of gone k ≡ false) (omega arith) fresh)
  where
    by : (b : Bool) → is_place_of gone i ≡ b → MeetsAll (without_places gone (suc i) rows) x
    by true e = rw e at h
    by false e = All-tail (λ r. Meets r x) r (without_places gone (suc i) rows) (rw e at h)

-- what holds of each row holds of the rows that are left
pub All-without_places : (P : Row → Type 0) (gone : List ℕ) (i : ℕ) (rows : List Row) → All P rows → All P (without_places gone i rows)
All-without_places P gone i [] h = All-nil P
All-without_places P gone i (r ∷ rows) h = by (is_place_of gone i) (All-without_places P gone (suc i) rows (All-tail P r rows h))
  where
    by : (b : Bool) → All P (without_places gone (suc i) rows) → All P (cond b (without_places gone (suc i) rows) (r ∷ without_places gone (suc i) rows))
    by true rest = rest
    by false rest = All-cons P r (without_places gone (suc i) rows) (All-head P r rows h) rest

all_from_places : (rows : List Row) (x : Point) → ((i : ℕ) → Meets (row_at rows i) x) → MeetsAll rows x
all_from_places [] x h = All-nil (λ r. Meets r x)
all_from_places (r ∷ rows) x h = All-cons (λ r. Meets r x) r rows (h 0) (all_from_places rows x (λ i. h (suc i)))

first_rows : (P : Row → Type 0) (xs ys : List Row) → All P (xs ++ ys) → All P xs
first_rows P [] ys h = All-nil P
first_rows P (r ∷ xs) ys h = All-cons P r xs (All-head P r (xs ++ ys) h) (first_rows P xs ys (All-tail P r (xs ++ ys) h))

-- Drops that hold change nothing for a point that meets the context.
pub drops_exact : (rows context : List Row) (drops : List Dropped) (x : Point) → pos 0 <ℤ x.q → DropsHold (rows ++ context) [] drops → MeetsAll context x
    → MeetsAll (without_places (places_of drops) 0 rows) x ↔ MeetsAll rows x
drops_exact rows context drops x up h c = (
  λ met. first_rows (λ r. Meets r x) rows context (all_from_places (rows ++ context) x (λ i.
      restored (rows ++ context) [] drops x up h
      (λ j f k. others_met (places_of drops) 0 rows context x met c j (subst (λ k. is_place_of (places_of drops) k ≡ false) (omega arith) f)) i refl)),
  All-without_places (λ r. Meets r x) (places_of drops) 0 rows,
)
