-- Rows that are made one after another.
use Rattle.std.proofs.Common.{◌≡◌, ℕ, suc, ◌<◌, ◌+◌, ◌⊎◌, inl, inr, List, [], ◌∷◌, ◌++◌, drop, length, get_or, map, flat_map, Bool, true}
use Rattle.std.proofs.Common.{false, not, cond, if◌then◌else◌, Result, Ok, Err, refl, sym, ap, ◌∙◌, subst, arith, add-one, int_lt}
use Rattle.std.proofs.Math.Seq.{drop-cons}
use Rattle.std.proofs.lemmas.Int.{ints}
use Rattle.std.specs.Ordering.{int_eq}
use Rattle.std.specs.Result.{IsErrAnd}
use lib.IntN.{pos}
use lib.Signed.{◌≤ℤ◌, ◌<ℤ◌}
use Rattle.pa_ring.specs.Sums.{number_at}
use Rattle.pa_math.specs.Answers.{and_then, IsAnswer}
use Rattle.pa_frac.specs.declared.wide.Wide.{Wide}
use Rattle.pa_meaning.specs.Rows.{Row, without_column}
use Rattle.pa_witness.specs.Elimination.{zeros_at, positives_at, negatives_at}
use Rattle.pa_witness.specs.Thinning.{is_place_of, without_places}
use Rattle.pa_fourier.specs.declared.fault.StepFault.{StepFault}
use Rattle.pa_fourier.specs.declared.fault.StepFault.TheVariants.{Memory}
use Rattle.pa_math.specs.Answers.{seen_as}
use Rattle.pa_witness.specs.Steps.{kept_at, nonzeros_at}
use Rattle.pa_fourier.specs.StepFaults.{made_with, cancelled_without, pairs_with, substituted_without, substituted_one}

-- ---- one list of rows after another
pub made_append : (made : List Row) (xs ys : List (Result Row Wide)) → made_with made (xs ++ ys) ≡ and_then (made_with made xs) (λ m. made_with m ys)
made_append made [] ys = refl
made_append made (Ok r ∷ xs) ys = made_append (made ++ r ∷ []) xs ys
made_append made (Err e ∷ xs) ys = refl

-- what the first rows gave, and the rest
pub made_next : (made now : List Row) (xs ys : List (Result Row Wide)) → made_with made xs ≡ Ok now → made_with made (xs ++ ys) ≡ made_with now ys
made_next made now xs ys h = made_append made xs ys ∙ ap (λ t. and_then t (λ m. made_with m ys)) h

pub made_stopped : (made : List Row) (xs ys : List (Result Row Wide)) (e : StepFault) → (e ≡ Memory) ⊎ (made_with made xs ≡ Err e)
    → (e ≡ Memory) ⊎ (made_with made (xs ++ ys) ≡ Err e)
made_stopped made xs ys e (inl m) = inl m
made_stopped made xs ys e (inr h) = inr (made_append made xs ys ∙ ap (λ t. and_then t (λ m. made_with m ys)) h)

pub stopped_as : (due whole : Result (List Row) StepFault) (e : StepFault) → whole ≡ due → (e ≡ Memory) ⊎ (due ≡ Err e) → (e ≡ Memory) ⊎ (whole ≡ Err e)
stopped_as due whole e s (inl m) = inl m
stopped_as due whole e s (inr h) = inr (s ∙ h)

-- ---- one row more
cons_if : {A : Type 0} (b : Bool) (x : A) (xs : List A) → cond b (x ∷ xs) xs ≡ cond b (x ∷ []) [] ++ xs
cons_if true x xs = refl
cons_if false x xs = refl

pub kept_turn : (k : ℕ) (rows : List Row) (i : ℕ) (r : Row) → i < length rows → r ≡ get_or rows i r →
    kept_at k (drop i rows) ≡ (if int_eq (number_at r.c k) (pos 0) then without_column k r ∷ kept_at k (drop (i + 1) rows) else kept_at k (drop (i + 1) rows))
kept_turn k rows i r h is = rw (add-one, drop-cons rows i r h, ← is) (by (int_eq (number_at r.c k) (pos 0)))
  where
    by : (b : Bool)
        → map (without_column k) (cond b (r ∷ zeros_at k (drop (suc i) rows)) (zeros_at k (drop (suc i) rows)))
        ≡ cond b (without_column k r ∷ kept_at k (drop (suc i) rows)) (kept_at k (drop (suc i) rows))
    by true = refl
    by false = refl

-- a negative row
pub pairs_turn : (k : ℕ) (p : Row) (rows : List Row) (i : ℕ) (r : Row) → i < length rows → r ≡ get_or rows i r → number_at r.c k <ℤ pos 0 →
    pairs_with k (drop i rows) p ≡ (cancelled_without k p r ∷ []) ++ pairs_with k (drop (i + 1) rows) p
pairs_turn k p rows i r h is down = rw (add-one, drop-cons rows i r h, ← is) (by (int_lt (number_at r.c k) (pos 0)) (grind (arith, ints)))
  where
    by : (b : Bool) → b ≡ true
        → map (cancelled_without k p) (cond b (r ∷ negatives_at k (drop (suc i) rows)) (negatives_at k (drop (suc i) rows)))
        ≡ cancelled_without k p r ∷ pairs_with k (drop (suc i) rows) p
    by true e = refl
    by false e = absurd (cc)

-- another one
pub pairs_skip : (k : ℕ) (p : Row) (rows : List Row) (i : ℕ) (r : Row) → i < length rows → r ≡ get_or rows i r → pos 0 ≤ℤ number_at r.c k →
    pairs_with k (drop i rows) p ≡ pairs_with k (drop (i + 1) rows) p
pairs_skip k p rows i r h is up = rw (add-one, drop-cons rows i r h, ← is) (by (int_lt (number_at r.c k) (pos 0)) (grind (arith, ints)))
  where
    by : (b : Bool) → b ≡ false
        → map (cancelled_without k p) (cond b (r ∷ negatives_at k (drop (suc i) rows)) (negatives_at k (drop (suc i) rows)))
        ≡ pairs_with k (drop (suc i) rows) p
    by false e = refl
    by true e = absurd (cc)

-- a positive row with all others
pub all_pairs_turn : (k : ℕ) (all rows : List Row) (i : ℕ) (r : Row) → i < length rows → r ≡ get_or rows i r → pos 0 <ℤ number_at r.c k →
    flat_map (pairs_with k all) (positives_at k (drop i rows)) ≡ pairs_with k all r ++ flat_map (pairs_with k all) (positives_at k (drop (i + 1) rows))
all_pairs_turn k all rows i r h is up = rw (add-one, drop-cons rows i r h, ← is) (by (int_lt (pos 0) (number_at r.c k)) (grind (arith, ints)))
  where
    by : (b : Bool) → b ≡ true
        → flat_map (pairs_with k all) (cond b (r ∷ positives_at k (drop (suc i) rows)) (positives_at k (drop (suc i) rows)))
        ≡ pairs_with k all r ++ flat_map (pairs_with k all) (positives_at k (drop (suc i) rows))
    by true e = refl
    by false e = absurd (cc)

pub all_pairs_skip : (k : ℕ) (all rows : List Row) (i : ℕ) (r : Row) → i < length rows → r ≡ get_or rows i r → number_at r.c k ≤ℤ pos 0 →
    flat_map (pairs_with k all) (positives_at k (drop i rows)) ≡ flat_map (pairs_with k all) (positives_at k (drop (i + 1) rows))
all_pairs_skip k all rows i r h is up = rw (add-one, drop-cons rows i r h, ← is) (by (int_lt (pos 0) (number_at r.c k)) (grind (arith, ints)))
  where
    by : (b : Bool) → b ≡ false
        → flat_map (pairs_with k all) (cond b (r ∷ positives_at k (drop (suc i) rows)) (positives_at k (drop (suc i) rows)))
        ≡ flat_map (pairs_with k all) (positives_at k (drop (suc i) rows))
    by false e = refl
    by true e = absurd (cc)

-- ---- an equality substituted
-- the sums that are due for the rows from place i on
abbrev pub substituted_from : ℕ → Row → Row → List ℕ → ℕ → List Row → List (Result Row Wide)
substituted_from k p n gone i rows = map (substituted_without k p n) (nonzeros_at k (without_places gone i rows))

one_more : (k : ℕ) (p n r : Row) (rows : List Row)
    → map (substituted_without k p n) (nonzeros_at k (r ∷ rows)) ≡ substituted_one k p n r ++ map (substituted_without k p n) (nonzeros_at k rows)
one_more k p n r rows = by (not (int_eq (number_at r.c k) (pos 0)))
  where
    by : (b : Bool)
        → map (substituted_without k p n) (cond b (r ∷ nonzeros_at k rows) (nonzeros_at k rows))
        ≡ map (substituted_without k p n) (cond b (r ∷ []) []) ++ map (substituted_without k p n) (nonzeros_at k rows)
    by true = refl
    by false = refl

pub substituted_turn : (k : ℕ) (p n : Row) (gone : List ℕ) (rows : List Row) (i : ℕ) (r : Row) → i < length rows → r ≡ get_or rows i r
    → not (is_place_of gone i) ≡ true
    → substituted_from k p n gone i (drop i rows) ≡ substituted_one k p n r ++ substituted_from k p n gone (i + 1) (drop (i + 1) rows)
substituted_turn k p n gone rows i r h is other = rw (add-one, drop-cons rows i r h, ← is) (by (is_place_of gone i) other)
  where
    by : (b : Bool) → not b ≡ true
        → map (substituted_without k p n)
        (nonzeros_at k (cond b (without_places gone (suc i) (drop (suc i) rows)) (r ∷ without_places gone (suc i) (drop (suc i) rows))))
        ≡ substituted_one k p n r ++ substituted_from k p n gone (suc i) (drop (suc i) rows)
    by false e = one_more k p n r (without_places gone (suc i) (drop (suc i) rows))
    by true e = absurd (cc)

pub substituted_skip : (k : ℕ) (p n : Row) (gone : List ℕ) (rows : List Row) (i : ℕ) (r : Row) → i < length rows → not (is_place_of gone i) ≡ false →
    substituted_from k p n gone i (drop i rows) ≡ substituted_from k p n gone (i + 1) (drop (i + 1) rows)
substituted_skip k p n gone rows i r h other = rw (add-one, drop-cons rows i r h) (by (is_place_of gone i) other)
  where
    by : (b : Bool) → not b ≡ false
        → map (substituted_without k p n)
        (nonzeros_at k (cond b (without_places gone (suc i) (drop (suc i) rows)) (get_or rows i r ∷ without_places gone (suc i) (drop (suc i) rows))))
        ≡ substituted_from k p n gone (suc i) (drop (suc i) rows)
    by true e = refl
    by false e = absurd (cc)

-- ---- answers that hold a list
pub seen_handed_on : {T V : Type 0} (view : T → V) (fault : StepFault) (due : Result V StepFault) (r : Result T StepFault) → IsErrAnd r (λ e. e ≡ fault)
    → (fault ≡ Memory) ⊎ (due ≡ Err fault) → IsAnswer Memory due (seen_as view r)
seen_handed_on view fault due (Ok value) is p = absurd is
seen_handed_on view fault due (Err e) is p = subst (λ (e : StepFault). (e ≡ Memory) ⊎ (due ≡ Err e)) (sym is) p
