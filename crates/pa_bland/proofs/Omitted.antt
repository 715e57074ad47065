-- A list without the element at a place.
use Rattle.std.proofs.Common.{◌≡◌, ℕ, zero, suc, ◌<◌, ◌≤◌, ◌+◌, ◌⊎◌, inl, inr, ℤ, All, List, [], ◌∷◌, length, get_or, refl, ap, ◌∙◌, arith}
use Rattle.std.proofs.lemmas.List.Elements.{All-cons, All-head, All-tail}
use Rattle.pa_ring.specs.Sums.{without}
use Rattle.pa_frac.specs.Width.{Fits}
use Rattle.pa_meaning.specs.Rows.{Row}
use Rattle.pa_replay.specs.Problem.{IsPosed}

pub fewer_without : {A : Type 0} (k : ℕ) (xs : List A) → k < length xs → length (without k xs) + 1 ≡ length xs
fewer_without k [] h = absurd (omega (arith, h))
fewer_without zero (x ∷ xs) h = omega arith
fewer_without (suc k) (x ∷ xs) h = (let rest = fewer_without k xs (omega (arith, h)) in omega (arith, rest))

pub all_without : {A : Type 0} (k : ℕ) (xs : List A) → length xs ≤ k → without k xs ≡ xs
all_without k [] h = refl
all_without zero (x ∷ xs) h = absurd (omega (arith, h))
all_without (suc k) (x ∷ xs) h = ap (λ ys. x ∷ ys) (all_without k xs (omega (arith, h)))

pub row_before : {A : Type 0} (k i : ℕ) (xs : List A) (d : A) → i < k → get_or (without k xs) i d ≡ get_or xs i d
row_before k i [] d h = refl
row_before zero i (x ∷ xs) d h = absurd (omega (arith, h))
row_before (suc k) zero (x ∷ xs) d h = refl
row_before (suc k) (suc i) (x ∷ xs) d h = row_before k i xs d (omega (arith, h))

pub row_behind : {A : Type 0} (k i : ℕ) (xs : List A) (d : A) → k ≤ i → get_or (without k xs) i d ≡ get_or xs (i + 1) d
row_behind k i [] d h = refl
row_behind zero i (x ∷ xs) d h = (let next : suc i ≡ i + 1 = omega arith in ap (λ j. get_or (x ∷ xs) j d) next)
row_behind (suc k) zero (x ∷ xs) d h = absurd (omega (arith, h))
row_behind (suc k) (suc i) (x ∷ xs) d h =
    let next : suc (i + 1) ≡ suc i + 1 = omega arith in
    row_behind k i xs d (omega (arith, h)) ∙ ap (λ j. get_or (x ∷ xs) j d) next

pub place_before : {A : Type 0} (k i : ℕ) (xs : List A) → i < length (without k xs) → i < length xs
place_before k i xs h = by_end (end_or k (length xs))
  where
    end_or : (k n : ℕ) → (k < n) ⊎ (n ≤ k)
    end_or k n = search arith

    by_end : (k < length xs) ⊎ (length xs ≤ k) → i < length xs
    by_end (inl low) = (let fewer = fewer_without k xs low in omega (arith, fewer, h))
    by_end (inr past) = (let same : length (without k xs) ≡ length xs = ap length (all_without k xs past) in omega (arith, same, h))

pub place_behind : {A : Type 0} (k i : ℕ) (xs : List A) → k ≤ i → i < length (without k xs) → i + 1 < length xs
place_behind k i xs low h =
    let inside : i < length xs = place_before k i xs h in
    let fewer = fewer_without k xs (omega (arith, low, inside)) in
    omega (arith, fewer, h)

-- what is true of all elements is true of those that are left
pub all_but : {A : Type 0} (P : A → Type 0) (k : ℕ) (xs : List A) → All P xs → All P (without k xs)
all_but P k [] h = h
all_but P zero (x ∷ xs) h = All-tail P x xs h
all_but P (suc k) (x ∷ xs) h = All-cons P x (without k xs) (All-head P x xs h) (all_but P k xs (All-tail P x xs h))

pub no_more : {A : Type 0} (k : ℕ) (xs : List A) → length (without k xs) ≤ length xs
no_more k [] = omega arith
no_more zero (x ∷ xs) = omega arith
no_more (suc k) (x ∷ xs) = (let rest = no_more k xs in omega (arith, rest))

-- So a list of rows may be asked about each of them: it makes a problem without the row.
pub posed_without : (k : ℕ) (rows : List Row) (target : List ℤ) → length rows ≤ 4096 → length target ≤ 128 →
    All (λ (row : Row). length row.c ≡ length target) rows → All (Fits 126) target → IsPosed (record { rows = without k rows; target = target })
posed_without k rows target few short columns narrow = record {
  few = (let fewer = no_more k rows in omega (arith, few, fewer));
  short = short;
  columns = all_but (λ (row : Row). length row.c ≡ length target) k rows columns;
  narrow = narrow;
}
