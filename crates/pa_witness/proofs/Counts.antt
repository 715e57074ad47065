-- How many rows a step makes.
use Rattle.std.proofs.Common.{◌≡◌, refl, sym, ap, ap₂, ◌∙◌, subst, ℕ, suc, ◌+◌, ◌-◌, ◌*◌, ◌<◌, ◌≤◌, ◌⊎◌, inl, inr, Bool, true, false, ◌||◌, cond, List}
use Rattle.std.proofs.Common.{[], ◌∷◌, ◌++◌, length, map, flat_map, int_lt, nat_eq, Option, Some, None, arith, length-append}
use Rattle.std.proofs.lemmas.Int.{ints}
use Rattle.std.proofs.lemmas.Bool.{true≢false, eqb-false}
use Rattle.std.proofs.lemmas.List.{length-map}
use Rattle.std.proofs.Math.Nat.{suc-mul}
use Rattle.std.proofs.lemmas.Bool.Decides.{Decides-eqb, Decides-int_eq}
use Rattle.std.specs.Ordering.{int_eq}
use lib.IntN.{ℤ, pos}
use lib.Signed.{◌<ℤ◌}
use Rattle.pa_ring.specs.Sums.{number_at}
use Rattle.pa_math.specs.Answers.{given}
use Rattle.pa_meaning.specs.Rows.{Row, row_at, without_column}
use Rattle.pa_witness.specs.Elimination.{cancelled, zeros_at, positives_at, negatives_at, eliminated}
use Rattle.pa_witness.specs.Thinning.{without_places}
use Rattle.pa_witness.specs.Steps.{Version, equality_in, stepped, step_count, kept_at, nonzeros_at, others_at, substituted, substituted_at}
use Rattle.pa_witness.proofs.Substitution.{IsEqualityAt, number_at-negative}
use Rattle.pa_witness.proofs.Equalities.{equality_in_is}

by_test : {X : Type 0} (t : Bool) → (t ≡ true → X) → (t ≡ false → X) → X
by_test true f g = f refl
by_test false f g = g refl

-- ---- counts
length_one : {A : Type 0} (b : Bool) (x : A) (xs : List A) → length (cond b (x ∷ xs) xs) ≡ cond b 1 0 + length xs
length_one true x xs = omega arith
length_one false x xs = omega arith

-- a number has one of three signs
one_sign : (a : ℤ) → cond (int_eq a (pos 0)) 1 0 + cond (int_lt (pos 0) a) 1 0 + cond (int_lt a (pos 0)) 1 0 ≡ 1
one_sign a = by (int_eq a (pos 0)) (int_lt (pos 0) a) (int_lt a (pos 0)) refl refl refl
  where
    by : (x y z : Bool) → int_eq a (pos 0) ≡ x → int_lt (pos 0) a ≡ y → int_lt a (pos 0) ≡ z → cond x 1 0 + cond y 1 0 + cond z 1 0 ≡ 1
    by true false false e f g = refl
    by false true false e f g = refl
    by false false true e f g = refl
    by true true z e f g = let h = (Decides-int_eq a (pos 0)).0 e in absurd (grind (arith, ints))
    by true false true e f g = let h = (Decides-int_eq a (pos 0)).0 e in absurd (grind (arith, ints))
    by false true true e f g = absurd (grind (arith, ints))
    by false false false e f g = absurd (true≢false (sym ((Decides-int_eq a (pos 0)).1 (grind (arith, ints))) ∙ e))

pub length_signs : (k : ℕ) (rows : List Row) → length (zeros_at k rows) + length (positives_at k rows) + length (negatives_at k rows) ≡ length rows
length_signs k [] = refl
length_signs k (r ∷ rows) =
    let rest = length_signs k rows in
    let one = one_sign (number_at r.c k) in
    let z = length_one (int_eq (number_at r.c k) (pos 0)) r (zeros_at k rows) in
    let p = length_one (int_lt (pos 0) (number_at r.c k)) r (positives_at k rows) in
    let n = length_one (int_lt (number_at r.c k) (pos 0)) r (negatives_at k rows) in
    omega arith

length_pairs : (f : Row → Row → Row) (ps ns : List Row) → length (flat_map (λ p. map (f p) ns) ps) ≡ length ps * length ns
length_pairs f [] ns = omega arith
length_pairs f (p ∷ ps) ns =
    length-append (map (f p) ns) (flat_map (λ p. map (f p) ns) ps) ∙ ap₂ (λ a b. a + b) (length-map ns (f p)) (length_pairs f ps ns)
    ∙ flip (length ns) (length ps * length ns) ∙ sym (suc-mul (length ps) (length ns))
  where
    flip : (a b : ℕ) → a + b ≡ b + a
    flip a b = omega arith

pub length_eliminated : (k : ℕ) (rows : List Row)
    → length (eliminated k rows) ≡ length (zeros_at k rows) + length (positives_at k rows) * length (negatives_at k rows)
length_eliminated k rows =
    length-map (zeros_at k rows ++ flat_map (λ p. map (cancelled k p) (negatives_at k rows)) (positives_at k rows)) (without_column k)
    ∙ length-append (zeros_at k rows) (flat_map (λ p. map (cancelled k p) (negatives_at k rows)) (positives_at k rows))
    ∙ ap (λ t. length (zeros_at k rows) + t) (length_pairs (cancelled k) (positives_at k rows) (negatives_at k rows))

-- whether the place is one of the list that begins at another
abbrev hits : ℕ → ℕ → List Row → ℕ
hits i at [] = 0
hits i at (r ∷ rows) = cond (nat_eq at i) 1 0 + hits i (suc at) rows

no_hits : (i at : ℕ) (rows : List Row) → i < at → hits i at rows ≡ 0
no_hits i at [] h = refl
no_hits i at (r ∷ rows) h = by_test (nat_eq at i)
    (λ t. absurd (let e = (Decides-eqb at i).0 t in omega arith))
    (λ f. let e : hits i at (r ∷ rows) ≡ 0 + hits i (suc at) rows = ap (λ b. cond b 1 0 + hits i (suc at) rows) f in let rest =
    no_hits i (suc at) rows (omega arith) in omega arith)

one_hit : (i at : ℕ) (rows : List Row) → at ≤ i → i < at + length rows → hits i at rows ≡ 1
one_hit i at [] h l = absurd (omega arith)
one_hit i at (r ∷ rows) h l = by_test (nat_eq at i)
    (λ t. let e : hits i at (r ∷ rows) ≡ 1 + hits i (suc at) rows = ap (λ b. cond b 1 0 + hits i (suc at) rows) t in let rest =
    no_hits i (suc at) rows (let d = (Decides-eqb at i).0 t in omega arith) in omega arith)
    (λ f. let e : hits i at (r ∷ rows) ≡ 0 + hits i (suc at) rows = ap (λ b. cond b 1 0 + hits i (suc at) rows) f in
    let rest = one_hit i (suc at) rows (let d = eqb-false at i f in omega arith) (omega arith) in omega arith)

length_others : (k i j at : ℕ) (rows : List Row) → (i ≡ j → ⊥)
    → ((m : ℕ) → m < length rows → (at + m ≡ i) ⊎ (at + m ≡ j) → int_eq (number_at (row_at rows m).c k) (pos 0) ≡ false)
    → length (zeros_at k rows) + length (nonzeros_at k (without_places (i ∷ j ∷ []) at rows)) + hits i at rows + hits j at rows ≡ length rows
length_others k i j at [] d h = refl
length_others k i j at (r ∷ rows) d h =
    by (nat_eq at i) (nat_eq at j) (int_eq (number_at r.c k) (pos 0)) refl refl refl
    (length_others k i j (suc at) rows d (λ m l e. h (suc m) (omega arith) (later m e)))
  where
    later : (m : ℕ) → (suc at + m ≡ i) ⊎ (suc at + m ≡ j) → (at + suc m ≡ i) ⊎ (at + suc m ≡ j)
    later m (inl e) = inl (omega arith)
    later m (inr e) = inr (omega arith)

    by : (a b z : Bool) → nat_eq at i ≡ a → nat_eq at j ≡ b → int_eq (number_at r.c k) (pos 0) ≡ z
        → length (zeros_at k rows) + length (nonzeros_at k (without_places (i ∷ j ∷ []) (suc at) rows)) + hits i (suc at) rows + hits j (suc at)
        rows ≡ length rows
        → length (cond z (r ∷ zeros_at k rows) (zeros_at k rows))
        + length (nonzeros_at k (cond (a || (b || false)) (without_places (i ∷ j ∷ []) (suc at) rows) (r ∷ without_places (i ∷ j ∷ []) (suc at) rows)))
        + (cond a 1 0 + hits i (suc at) rows) + (cond b 1 0 + hits j (suc at) rows) ≡ suc (length rows)
    by true true z e f g rest = absurd (d (sym ((Decides-eqb at i).0 e) ∙ (Decides-eqb at j).0 f))
    by true false true e f g rest = absurd (true≢false (sym g ∙ h 0 (omega arith) (inl (let s = (Decides-eqb at i).0 e in omega arith))))
    by true false false e f g rest = omega arith
    by false true true e f g rest = absurd (true≢false (sym g ∙ h 0 (omega arith) (inr (let s = (Decides-eqb at j).0 f in omega arith))))
    by false true false e f g rest = omega arith
    by false false true e f g rest = rw g (omega arith)
    by false false false e f g rest = rw g (omega arith)

pub length_substituted : (k : ℕ) (rows : List Row) (places : ℕ × ℕ) → IsEqualityAt k rows places.0 places.1
    → length (substituted_at k rows places) + 2 ≡ length rows
length_substituted k rows places is =
    let i : ℕ = places.0 in
    let j : ℕ = places.1 in
    let up : pos 0 <ℤ number_at (row_at rows i).c k = is.positive in
    let down : number_at (row_at rows j).c k <ℤ pos 0 = below in
    let all = length_others k i j 0 rows (λ e. let same : number_at (row_at rows i).c k ≡ number_at (row_at rows j).c k =
    ap (λ m. number_at (row_at rows m).c k) e in omega (arith, ints))
    (λ m l o. at_place m o) in
    let one = one_hit i 0 rows (omega arith) (let l : i < length rows = is.first in omega arith) in
    let other = one_hit j 0 rows (omega arith) (let l : j < length rows = is.second in omega arith) in
    let total : length (substituted_at k rows places) ≡ length (zeros_at k rows) + length (others_at k i j rows) =
    length-append (kept_at k rows) (map (λ row. without_column k (substituted k (row_at rows i) (row_at rows j) row)) (others_at k i j rows))
    ∙ ap₂ (λ a b. a + b) (length-map (zeros_at k rows) (without_column k))
    (length-map (others_at k i j rows) (λ row. without_column k (substituted k (row_at rows i) (row_at rows j) row))) in
    omega arith
  where
    below : number_at (row_at rows places.1).c k <ℤ pos 0
    below = let e = ap (λ (r : Row). number_at r.c k) is.opposite ∙ number_at-negative k (row_at rows places.0) in let up = is.positive in omega (arith, ints)

    nonzero : (a : ℤ) → (a ≡ pos 0 → ⊥) → int_eq a (pos 0) ≡ false
    nonzero a h = by_test (int_eq a (pos 0)) (λ t. absurd (h ((Decides-int_eq a (pos 0)).0 t))) (λ f. f)

    at_place : (m : ℕ) → (0 + m ≡ places.0) ⊎ (0 + m ≡ places.1) → int_eq (number_at (row_at rows m).c k) (pos 0) ≡ false
    at_place m (inl e) =
        let same : places.0 ≡ m = omega arith in
        let up : pos 0 <ℤ number_at (row_at rows m).c k = subst (λ o. pos 0 <ℤ number_at (row_at rows o).c k) same is.positive in
        nonzero (number_at (row_at rows m).c k) (λ z. omega (arith, ints))
    at_place m (inr e) =
        let same : places.1 ≡ m = omega arith in
        let down : number_at (row_at rows m).c k <ℤ pos 0 = subst (λ o. number_at (row_at rows o).c k <ℤ pos 0) same below in
        nonzero (number_at (row_at rows m).c k) (λ z. omega (arith, ints))

pub length_stepped_by_pairs : (v : Version) (k : ℕ) (rows : List Row) (p n : ℕ) → equality_in v k rows ≡ None → p ≡ length (positives_at k rows)
    → n ≡ length (negatives_at k rows) →
    length rows - p - n + p * n ≡ length (stepped v k rows)
length_stepped_by_pairs v k rows p n none p_is n_is =
    let parts = length_signs k rows in
    let left : length rows - p - n ≡ length (zeros_at k rows) = omega arith in
    ap₂ (λ a b. a + b) left (ap₂ (λ a b. a * b) p_is n_is) ∙ sym (length_eliminated k rows)
    ∙ sym (ap (λ o. length (given (eliminated k rows) o (substituted_at k rows))) none)

pub length_stepped_by_equality : (v : Version) (k : ℕ) (rows : List Row) (places : ℕ × ℕ) → equality_in v k rows ≡ Some places
    → length (stepped v k rows) + 2 ≡ length rows
length_stepped_by_equality v k rows places some =
    ap (λ o. length (given (eliminated k rows) o (substituted_at k rows)) + 2) some ∙ length_substituted k rows places (equality_in_is v k rows places some)

-- A step that substitutes an equality makes two rows less than there were; any other the rows with 0, and a row for each
-- pair of a positive and a negative one.
pub counted : (v : Version) (k : ℕ) (rows : List Row) → step_count v k rows
    ≡ given (length (zeros_at k rows) + length (positives_at k rows) * length (negatives_at k rows)) (equality_in v k rows) (λ places. length rows - 2)
counted v k rows = by (equality_in v k rows) refl
  where
    by : (o : Option (ℕ × ℕ)) → equality_in v k rows ≡ o → length (given (eliminated k rows) o (substituted_at k rows))
        ≡ given (length (zeros_at k rows) + length (positives_at k rows) * length (negatives_at k rows)) o (λ places. length rows - 2)
    by None none = length_eliminated k rows
    by (Some places) some = let e = length_substituted k rows places (equality_in_is v k rows places some) in omega arith
