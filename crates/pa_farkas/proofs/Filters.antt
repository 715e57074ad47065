-- A list without the rows at some places: how it goes on by one row, which place each of its rows has, and what weights over it say by these places.
use Rattle.std.proofs.Common.{◌≡◌, refl, ap, ap₂, ◌∙◌, ℕ, zero, suc, ◌+◌, ◌<◌, ◌≤◌, Bool, true, false, ◌||◌, cond, nat_eq}
use Rattle.std.proofs.Common.{List, [], ◌∷◌, ◌++◌, append-nil, length, length-append, get_or, All, arith}
use Rattle.std.proofs.lemmas.List.Elements.{All-nil, All-cons, All-head, All-tail}
use Rattle.std.proofs.lemmas.Bool.Decides.{Decides-eqb}
use Rattle.std.specs.List.{insert, remove}
use Rattle.pa_meaning.specs.Rows.{Row, row_at}
use Rattle.pa_witness.specs.Thinning.{is_place_of, without_places}
use Rattle.pa_row.proofs.Turns.{row_at_read}
use Rattle.pa_farkas.specs.Answered.{places_left}
use Rattle.pa_farkas.specs.Seen.{left, numbers_from}

-- ---- lists without the elements at some places, of any elements
pub rows_left : (gone : List ℕ) (i : ℕ) (rows : List Row) → without_places gone i rows ≡ left gone i rows
rows_left gone i [] = refl
rows_left gone i (r ∷ rows) = ap (λ (rest : List Row). cond (is_place_of gone i) rest (r ∷ rest)) (rows_left gone (suc i) rows)

pub length-numbers_from : (i n : ℕ) → length (numbers_from i n) ≡ n
length-numbers_from i zero = refl
length-numbers_from i (suc n) = ap suc (length-numbers_from (suc i) n)

pub get_or-numbers_from : (i n k d : ℕ) → k < n → get_or (numbers_from i n) k d ≡ i + k
get_or-numbers_from i zero k d h = absurd (omega (arith, h))
get_or-numbers_from i (suc n) zero d h = omega arith
get_or-numbers_from i (suc n) (suc k) d h = get_or-numbers_from (suc i) n k d (omega (arith, h)) ∙ omega arith

pub numbers_left : (gone : List ℕ) (i k : ℕ) → places_left gone i k ≡ left gone i (numbers_from i k)
numbers_left gone i zero = refl
numbers_left gone i (suc k) = ap (λ (rest : List ℕ). cond (is_place_of gone i) rest (i ∷ rest)) (numbers_left gone (suc i) k)

pub left_append : {A : Type 0} (gone : List ℕ) (i : ℕ) (xs ys : List A) → left gone i (xs ++ ys) ≡ left gone i xs ++ left gone (i + length xs) ys
left_append gone i [] ys = ap (λ k. left gone k ys) (omega arith)
left_append gone i (x ∷ xs) ys = by (is_place_of gone i) (left_append gone (suc i) xs ys ∙ ap (λ k. left gone (suc i) xs ++ left gone k ys) (omega arith))
  where
    by : (b : Bool) → left gone (suc i) (xs ++ ys) ≡ left gone (suc i) xs ++ left gone (i + suc (length xs)) ys
        → cond b (left gone (suc i) (xs ++ ys)) (x ∷ left gone (suc i) (xs ++ ys))
        ≡ cond b (left gone (suc i) xs) (x ∷ left gone (suc i) xs) ++ left gone (i + suc (length xs)) ys
    by true e = e
    by false e = ap (λ zs. x ∷ zs) e

-- places that are gone before
abbrev pub AreBelow : ℕ → List ℕ → Type 0
AreBelow i gone = All (λ g. g < i) gone

pub fresh : (gone : List ℕ) (i j : ℕ) → AreBelow i gone → i ≤ j → is_place_of gone j ≡ false
fresh [] i j h l = refl
fresh (g ∷ gone) i j h l =
    let low : g < i = All-head (λ g. g < i) g gone h in
    let rest : is_place_of gone j ≡ false = fresh gone i j (All-tail (λ g. g < i) g gone h) l in
    by (nat_eq j g) refl rest (omega (arith, low, l))
  where
    by : (b : Bool) → nat_eq j g ≡ b → is_place_of gone j ≡ false → g < j → (b || is_place_of gone j) ≡ false
    by true e rest low = absurd (let same : j ≡ g = (Decides-eqb j g).0 e in omega (arith, same, low))
    by false e rest low = rest

pub none_gone : {A : Type 0} (gone : List ℕ) (i : ℕ) (xs : List A) → AreBelow i gone → left gone i xs ≡ xs
none_gone gone i [] h = refl
none_gone gone i (x ∷ xs) h =
    rw (fresh gone i i h (omega arith)) (ap (λ zs. x ∷ zs) (none_gone gone (suc i) xs (below_next gone i h)))
  where
    below_next : (gone : List ℕ) (i : ℕ) → AreBelow i gone → AreBelow (suc i) gone
    below_next [] i h = All-nil (λ g. g < suc i)
    below_next (g ∷ gone) i h =
        let low : g < i = All-head (λ g. g < i) g gone h in
        All-cons (λ g. g < suc i) g gone (omega (arith, low)) (below_next gone i (All-tail (λ g. g < i) g gone h))

-- the same places below a number are gone
pub same_left : {A : Type 0} (g h : List ℕ) (i n : ℕ) (xs : List A) → ((j : ℕ) → j < n → is_place_of g j ≡ is_place_of h j) → i + length xs ≤ n →
    left g i xs ≡ left h i xs
same_left g h i n [] same l = refl
same_left {A} g h i n (x ∷ xs) same l =
    ap₂ (λ b (rest : List A). cond b rest (x ∷ rest)) (same i (omega (arith, l))) (same_left g h (suc i) n xs same (omega (arith, l)))

pub same_length_left : {A B : Type 0} (g : List ℕ) (i : ℕ) (xs : List A) (ys : List B) → length xs ≡ length ys → length (left g i xs) ≡ length (left g i ys)
same_length_left g i [] [] e = refl
same_length_left g i [] (y ∷ ys) e = absurd (omega (arith, e))
same_length_left g i (x ∷ xs) [] e = absurd (omega (arith, e))
same_length_left g i (x ∷ xs) (y ∷ ys) e = by (is_place_of g i) (same_length_left g (suc i) xs ys (omega (arith, e)))
  where
    by : (b : Bool) → length (left g (suc i) xs) ≡ length (left g (suc i) ys)
        → length (cond b (left g (suc i) xs) (x ∷ left g (suc i) xs)) ≡ length (cond b (left g (suc i) ys) (y ∷ left g (suc i) ys))
    by true e = e
    by false e = ap suc e

-- ---- one element more, in the middle of a list
-- the place is gone too
gone_here : (gone : List ℕ) (i : ℕ) → is_place_of (i ∷ gone) i ≡ true
gone_here gone i = ap (λ b. b || is_place_of gone i) ((Decides-eqb i i).1 refl)

not_here : (gone : List ℕ) (i j : ℕ) → j < i → is_place_of (i ∷ gone) j ≡ is_place_of gone j
not_here gone i j l = by (nat_eq j i) refl
  where
    by : (b : Bool) → nat_eq j i ≡ b → is_place_of (i ∷ gone) j ≡ is_place_of gone j
    by true e = absurd (let same : j ≡ i = (Decides-eqb j i).0 e in omega (arith, same, l))
    by false e = ap (λ b. b || is_place_of gone j) e

next_below : (gone : List ℕ) (i : ℕ) → AreBelow i gone → AreBelow (suc i) (i ∷ gone)
next_below gone i h = All-cons (λ g. g < suc i) i gone (omega arith) (weaker gone h)
  where
    weaker : (gone : List ℕ) → AreBelow i gone → AreBelow (suc i) gone
    weaker [] h = All-nil (λ g. g < suc i)
    weaker (g ∷ gone) h =
        let low : g < i = All-head (λ g. g < i) g gone h in
        All-cons (λ g. g < suc i) g gone (omega (arith, low)) (weaker gone (All-tail (λ g. g < i) g gone h))

-- the last place may as well stand first
place_last : (gone : List ℕ) (i j : ℕ) → is_place_of (gone ++ i ∷ []) j ≡ is_place_of (i ∷ gone) j
place_last [] i j = refl
place_last (g ∷ gone) i j = ap (λ b. nat_eq j g || b) (place_last gone i j) ∙ swapped (nat_eq j g) (nat_eq j i) (is_place_of gone j)
  where
    swapped : (a b c : Bool) → (a || (b || c)) ≡ (b || (a || c))
    swapped true true c = refl
    swapped true false c = refl
    swapped false true c = refl
    swapped false false c = refl

module _ {A : Type 0} (gone : List ℕ) (i : ℕ) (front : List A) (x : A) (rest : List A) (front_is : length front ≡ i) (below : AreBelow i gone) where
  zero_front : 0 + length front ≡ i
  zero_front = omega (arith, front_is)

  -- all that is behind stays
  behind : (k : ℕ) (ys : List A) → i ≤ k → left gone k ys ≡ ys
  behind k ys l = none_gone gone k ys (lower gone below)
    where
      lower : (gone : List ℕ) → AreBelow i gone → AreBelow k gone
      lower [] h = All-nil (λ g. g < k)
      lower (g ∷ gone) h =
          let low : g < i = All-head (λ g. g < i) g gone h in
          All-cons (λ g. g < k) g gone (omega (arith, low, l)) (lower gone (All-tail (λ g. g < i) g gone h))

  pub without_it : left (i ∷ gone) 0 (front ++ x ∷ rest) ≡ left gone 0 front ++ rest
  without_it =
      left_append (i ∷ gone) 0 front (x ∷ rest)
      ∙ ap₂ (λ (k : List A) (r : List A). k ++ r)
      (same_left (i ∷ gone) gone 0 i front (λ j l. not_here gone i j l) (omega (arith, front_is)))
      (ap (λ k. left (i ∷ gone) k (x ∷ rest)) zero_front ∙ ap (λ b. cond b (left (i ∷ gone) (suc i) rest) (x ∷ left (i ∷ gone) (suc i) rest)) (gone_here gone i)
      ∙ none_gone (i ∷ gone) (suc i) rest (next_below gone i below))

  pub with_it : left gone 0 (front ++ x ∷ []) ≡ left gone 0 front ++ x ∷ []
  with_it = left_append gone 0 front (x ∷ []) ∙ ap (λ (r : List A). left gone 0 front ++ r) (behind (0 + length front) (x ∷ []) (omega (arith, front_is)))

  pub dropped_it : left (gone ++ i ∷ []) 0 (front ++ x ∷ []) ≡ left gone 0 front
  dropped_it = same_left (gone ++ i ∷ []) (i ∷ gone) 0 (suc i) (front ++ x ∷ []) (λ j l. place_last gone i j)
      (omega (arith, front_is, length-append front (x ∷ [])))
      ∙ without_last
    where
      without_last : left (i ∷ gone) 0 (front ++ x ∷ []) ≡ left gone 0 front
      without_last =
          left_append (i ∷ gone) 0 front (x ∷ [])
          ∙ ap₂ (λ (k : List A) (r : List A). k ++ r)
          (same_left (i ∷ gone) gone 0 i front (λ j l. not_here gone i j l) (omega (arith, front_is)))
          (ap (λ k. left (i ∷ gone) k (x ∷ [])) zero_front ∙ ap (λ b. cond b [] (x ∷ [])) (gone_here gone i))
          ∙ append-nil (left gone 0 front)

-- ---- an element in the middle is taken out, and read
pub removed : {A : Type 0} (front : List A) (x : A) (rest : List A) (k : ℕ) → k ≡ length front → remove (front ++ x ∷ rest) k ≡ front ++ rest
removed [] x rest k e = rw e refl
removed (y ∷ front) x rest k e = rw e (ap (λ zs. y ∷ zs) (removed front x rest (length front) refl))

pub read_there : {A : Type 0} (front : List A) (x : A) (rest : List A) (k : ℕ) (d : A) → k ≡ length front → get_or (front ++ x ∷ rest) k d ≡ x
read_there [] x rest k d e = rw e refl
read_there (y ∷ front) x rest k d e = rw e (read_there front x rest (length front) d refl)

pub row_there : (front : List Row) (x : Row) (rest : List Row) (k : ℕ) → k ≡ length front → row_at (front ++ x ∷ rest) k ≡ x
row_there [] x rest k e = rw e refl
row_there (y ∷ front) x rest k e = rw e (row_there front x rest (length front) refl)

-- the row at a place, as it is read
pub row_read : (rows : List Row) (k : ℕ) (d : Row) → k < length rows → row_at rows k ≡ get_or rows k d
row_read rows k d h = row_at_read rows k d h

-- what was taken out is put in again
pub put_in_again : {A : Type 0} (front : List A) (x : A) (rest : List A) (k : ℕ) → k ≡ length front → insert (front ++ rest) k x ≡ front ++ x ∷ rest
put_in_again [] x rest k e = rw e refl
put_in_again (y ∷ front) x rest k e = rw e (ap (λ zs. y ∷ zs) (put_in_again front x rest (length front) refl))
