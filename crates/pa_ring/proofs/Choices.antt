-- The pigeonhole principle, and how long a sequence of choices can be in which none comes twice.
use Rattle.std.proofs.Common.{◌≡◌, ℕ, zero, suc, ◌+◌, ◌<◌, ◌≤◌, ◌⊎◌, inl, inr, ⊎_elim, Bool, true, false, cond, eqb}
use Rattle.std.proofs.Common.{List, [], ◌∷◌, ◌++◌, map, length, Contains, refl, sym, ap, ◌∙◌, subst, arith}
use mathlib.Core.Path.{ap₂}
use Rattle.std.proofs.lemmas.Bool.{cases_lt, eqb-true, eq-eqb, true≢false}
use Rattle.std.proofs.lemmas.List.{length-map}
use Rattle.std.proofs.lemmas.List.Elements.{All-contains}
use Rattle.std.proofs.Common.{length-append}
use Rattle.std.specs.List.{list_any}
use Rattle.std.specs.List.Sorted.{IsStrictlyIncreasing}
use Rattle.pa_ring.specs.Choices.{NoRepeats, SameElements, IsChoice, choices}

-- ---- elements, by recursion
-- x is an element
abbrev IsIn : {A : Type 0} → A → List A → Type 0
IsIn x [] = ⊥
IsIn x (y ∷ ys) = (x ≡ y) ⊎ IsIn x ys

IsIn-from_Contains : {A : Type 0} (xs : List A) (x : A) → Contains xs x → IsIn x xs
IsIn-from_Contains [] x (i, l, e) = absurd (omega arith)
IsIn-from_Contains (y ∷ ys) x (zero, l, e) = inl (sym e)
IsIn-from_Contains (y ∷ ys) x (suc i, l, e) = inr (IsIn-from_Contains ys x (i, omega arith, e))

Contains-from_IsIn : {A : Type 0} (xs : List A) (x : A) → IsIn x xs → Contains xs x
Contains-from_IsIn [] x h = absurd h
Contains-from_IsIn (y ∷ ys) x (inl e) = (0, omega arith, sym e)
Contains-from_IsIn (y ∷ ys) x (inr h) = let (i, l, e) = Contains-from_IsIn ys x h in (suc i, omega arith, e)

-- ---- the pigeonhole principle
-- the list with one place of x taken out
removed : {A : Type 0} (x : A) (ys : List A) → IsIn x ys → (zs : List A) × (length ys ≡ suc (length zs)) × ((y : A) → IsIn y ys → ¬ (y ≡ x) → IsIn y zs)
removed x [] h = absurd h
removed x (z ∷ ys) (inl e) = (ys, refl, λ y h n. ⊎_elim (λ same. absurd (n (same ∙ sym e))) (λ i. i) h)
removed x (z ∷ ys) (inr h) =
    let (zs, e, keep) = removed x ys h in
    (z ∷ zs, ap suc e, λ y i n. ⊎_elim (λ same. inl same) (λ j. inr (keep y j n)) i)

pigeonhole_in : {A : Type 0} (xs ys : List A) → NoRepeats xs → ((x : A) → IsIn x xs → IsIn x ys) → length xs ≤ length ys
pigeonhole_in [] ys once within = omega arith
pigeonhole_in (x ∷ xs) ys once within =
    let (zs, e, keep) = removed x ys (within x (inl refl)) in
    let rest = pigeonhole_in xs zs once.1 (λ y h. keep y (within y (inr h)) (λ same. once.0 (Contains-from_IsIn xs x (subst (λ t. IsIn t xs) same h)))) in
    omega arith

-- a list without repetition whose elements all stand in another list is no longer than that list
pub pigeonhole : {A : Type 0} (xs ys : List A) → NoRepeats xs → ((x : A) → Contains xs x → Contains ys x) → length xs ≤ length ys
pigeonhole xs ys once within = pigeonhole_in xs ys once (λ x h. IsIn-from_Contains ys x (within x (Contains-from_IsIn xs x h)))

-- ---- a choice in descending order
-- the places below n that are in the list
abbrev chosen : ℕ → List ℕ → List ℕ
chosen zero xs = []
chosen (suc n) xs = cond (list_any (eqb n) xs) (n ∷ chosen n xs) (chosen n xs)

by_test {ℓ} : {X : Type ℓ} (t : Bool) → (t ≡ true → X) → (t ≡ false → X) → X
by_test true f g = f refl
by_test false f g = g refl

any_from_IsIn : (n : ℕ) (xs : List ℕ) → IsIn n xs → list_any (eqb n) xs ≡ true
any_from_IsIn n [] h = absurd h
any_from_IsIn n (x ∷ xs) (inl e) = let t : eqb n x ≡ true = eq-eqb n x e in rw t
any_from_IsIn n (x ∷ xs) (inr h) = by_test (eqb n x) (λ t. rw t) (λ f. rw f (any_from_IsIn n xs h))

IsIn-from_any : (n : ℕ) (xs : List ℕ) → list_any (eqb n) xs ≡ true → IsIn n xs
IsIn-from_any n [] e = absurd (true≢false (sym e))
IsIn-from_any n (x ∷ xs) e = by_test (eqb n x) (λ t. inl (eqb-true n x t)) (λ f. inr (IsIn-from_any n xs (rw f at e)))

-- a place is in the ordered choice exactly where it is a place below n of the choice
IsIn-chosen : (n y : ℕ) (xs : List ℕ) → y < n → IsIn y xs → IsIn y (chosen n xs)
IsIn-chosen zero y xs l h = absurd (omega arith)
IsIn-chosen (suc n) y xs l h =
    by_order (λ less. let r = IsIn-chosen n y xs less h in by_test (list_any (eqb n) xs) (λ t. rw t (inr r)) (λ f. rw f r))
    (λ same. rw (any_from_IsIn n xs (subst (λ t. IsIn t xs) same h)) (inl same))
  where
    by_order : {X : Type 0} → (y < n → X) → (y ≡ n → X) → X
    by_order f g = ⊎_elim f (λ le. g (omega arith)) (cases_lt y n)

chosen_places : (n y : ℕ) (xs : List ℕ) → IsIn y (chosen n xs) → IsIn y xs × (y < n)
chosen_places zero y xs h = absurd h
chosen_places (suc n) y xs h =
    by_test (list_any (eqb n) xs)
    (λ t. ⊎_elim (λ same. (subst (λ z. IsIn z xs) (sym same) (IsIn-from_any n xs t), omega arith)) (λ i. above (chosen_places n y xs i)) (rw t at h))
    (λ f. above (chosen_places n y xs (rw f at h)))
  where
    above : IsIn y xs × (y < n) → IsIn y xs × (y < suc n)
    above (i, l) = (i, omega arith)

chosen_once : (n : ℕ) (xs : List ℕ) → NoRepeats (chosen n xs)
chosen_once zero xs = tt
chosen_once (suc n) xs =
    by_test (list_any (eqb n) xs)
    (λ t. rw t (λ i. absurd (omega (arith, (chosen_places n n xs (IsIn-from_Contains (chosen n xs) n i)).1)), chosen_once n xs))
    (λ f. rw f (chosen_once n xs))

-- the ordered choice is as long as the choice
length-chosen : (n k : ℕ) (xs : List ℕ) → IsChoice n k xs → length (chosen n xs) ≡ k
length-chosen n k xs c =
    let down : length (chosen n xs) ≤ length xs = pigeonhole_in (chosen n xs) xs (chosen_once n xs) (λ y h. (chosen_places n y xs h).0) in
    let up : length xs ≤ length (chosen n xs) =
    pigeonhole_in xs (chosen n xs) c.distinct (λ y h. IsIn-chosen n y xs (All-contains (λ x. x < n) xs y c.places (Contains-from_IsIn xs y h)) h) in
    let size = c.size in
    omega arith

-- choices with one ordered choice have the same elements
same_from_chosen : (n k l : ℕ) (xs ys : List ℕ) → IsChoice n k xs → IsChoice n l ys → chosen n xs ≡ chosen n ys → SameElements xs ys
same_from_chosen n k l xs ys c d e x = (over xs ys c e, over ys xs d (sym e))
  where
    over : {m : ℕ} (us vs : List ℕ) → IsChoice n m us → chosen n us ≡ chosen n vs → Contains us x → Contains vs x
    over us vs b same h =
        Contains-from_IsIn vs x
        (chosen_places n x vs (subst (λ t. IsIn x t) same (IsIn-chosen n x us (All-contains (λ y. y < n) us x b.places h) (IsIn-from_Contains us x h)))).0

-- ---- the list of all ordered choices
-- k of the places below n, in descending order
abbrev all_choices : ℕ → ℕ → List (List ℕ)
all_choices n zero = [] ∷ []
all_choices zero (suc k) = []
all_choices (suc n) (suc k) = map (λ xs. n ∷ xs) (all_choices n k) ++ all_choices n (suc k)

length-all_choices : (n k : ℕ) → length (all_choices n k) ≡ choices n k
length-all_choices n zero = refl
length-all_choices zero (suc k) = refl
length-all_choices (suc n) (suc k) =
    length-append (map (λ xs. n ∷ xs) (all_choices n k)) (all_choices n (suc k))
    ∙ ap₂ ◌+◌ (length-map (all_choices n k) (λ xs. n ∷ xs) ∙ length-all_choices n k) (length-all_choices n (suc k))

IsIn-append_left : {A : Type 0} (x : A) (xs ys : List A) → IsIn x xs → IsIn x (xs ++ ys)
IsIn-append_left x [] ys h = absurd h
IsIn-append_left x (y ∷ xs) ys (inl e) = inl e
IsIn-append_left x (y ∷ xs) ys (inr h) = inr (IsIn-append_left x xs ys h)

IsIn-append_right : {A : Type 0} (x : A) (xs ys : List A) → IsIn x ys → IsIn x (xs ++ ys)
IsIn-append_right x [] ys h = h
IsIn-append_right x (y ∷ xs) ys h = inr (IsIn-append_right x xs ys h)

IsIn-map : {A B : Type 0} (f : A → B) (x : A) (xs : List A) → IsIn x xs → IsIn (f x) (map f xs)
IsIn-map f x [] h = absurd h
IsIn-map f x (y ∷ xs) (inl e) = inl (ap f e)
IsIn-map f x (y ∷ xs) (inr h) = inr (IsIn-map f x xs h)

one_place_more : (n k : ℕ) (xs : List ℕ) → IsIn xs (all_choices n k) → IsIn xs (all_choices (suc n) k)
one_place_more n zero xs h = h
one_place_more n (suc k) xs h = IsIn-append_right xs (map (λ ys. n ∷ ys) (all_choices n k)) (all_choices n (suc k)) h

-- each ordered choice stands in the list
chosen_is_listed : (n : ℕ) (xs : List ℕ) → IsIn (chosen n xs) (all_choices n (length (chosen n xs)))
chosen_is_listed zero xs = inl refl
chosen_is_listed (suc n) xs =
    let r = chosen_is_listed n xs in
    by_test (list_any (eqb n) xs)
    (λ t. rw t (IsIn-append_left (n ∷ chosen n xs) (map (λ ys. n ∷ ys) (all_choices n (length (chosen n xs)))) (all_choices n (suc (length (chosen n xs))))
    (IsIn-map (λ ys. n ∷ ys) (chosen n xs) (all_choices n (length (chosen n xs))) r)))
    (λ f. rw f (one_place_more n (length (chosen n xs)) (chosen n xs) r))

-- ---- sequences
-- the values below m, the last one first
abbrev sequence : {A : Type 0} → ℕ → (ℕ → A) → List A
sequence zero f = []
sequence (suc m) f = f m ∷ sequence m f

length-sequence : {A : Type 0} (m : ℕ) (f : ℕ → A) → length (sequence m f) ≡ m
length-sequence zero f = refl
length-sequence (suc m) f = ap suc (length-sequence m f)

place_in_sequence : {A : Type 0} (m : ℕ) (f : ℕ → A) (x : A) → IsIn x (sequence m f) → (i : ℕ) × (i < m) × (x ≡ f i)
place_in_sequence zero f x h = absurd h
place_in_sequence (suc m) f x (inl e) = (m, omega arith, e)
place_in_sequence (suc m) f x (inr h) = let (i, l, e) = place_in_sequence m f x h in (i, omega arith, e)

sequence_once : {A : Type 0} (m : ℕ) (f : ℕ → A) → ((i j : ℕ) → i < j → j < m → ¬ (f i ≡ f j)) → NoRepeats (sequence m f)
sequence_once zero f apart = tt
sequence_once (suc m) f apart = (
  λ h. let (i, l, e) = place_in_sequence m f (f m) (IsIn-from_Contains (sequence m f) (f m) h) in apart i m l (omega arith) (sym e),
  sequence_once m f (λ i j l k. apart i j l (omega arith)),
)

-- A sequence of choices of k of n places, such as the bases of a simplex run, in which no choice comes twice is no longer than there are choices.
pub no_choice_twice : (n k m : ℕ) (basis : ℕ → List ℕ) → ((i : ℕ) → i < m → IsChoice n k (basis i)) →
    ((i j : ℕ) → i < j → j < m → ¬ SameElements (basis i) (basis j)) → m ≤ choices n k
no_choice_twice n k m basis each apart =
    let bound : length (sequence m (λ i. chosen n (basis i))) ≤ length (all_choices n k) =
    pigeonhole_in (sequence m (λ i. chosen n (basis i))) (all_choices n k)
    (sequence_once m (λ i. chosen n (basis i)) (λ i j l h e. apart i j l h (same_from_chosen n k k (basis i) (basis j) (each i (omega arith)) (each j h) e)))
    listed in
    omega (arith, length-sequence m (λ i. chosen n (basis i)), length-all_choices n k)
  where
    listed : (x : List ℕ) → IsIn x (sequence m (λ i. chosen n (basis i))) → IsIn x (all_choices n k)
    listed x h =
        let (i, l, e) = place_in_sequence m (λ i. chosen n (basis i)) x h in
        let r = chosen_is_listed n (basis i) in
        rw e (rw (length-chosen n k (basis i) (each i l)) at r)

-- ---- sorted choices
increasing_tail : (x : ℕ) (xs : List ℕ) → IsStrictlyIncreasing (x ∷ xs) → IsStrictlyIncreasing xs
increasing_tail x xs h k l = let e : suc k + 1 ≡ suc (k + 1) = omega arith in rw e at (h (suc k) (omega arith))

first_is_least : (x y : ℕ) (xs : List ℕ) → IsStrictlyIncreasing (x ∷ xs) → IsIn y xs → x < y
first_is_least x y [] h i = absurd i
first_is_least x y (z ∷ xs) h (inl e) = let l : x < z = h 0 (omega arith) in omega arith
first_is_least x y (z ∷ xs) h (inr i) =
    let l : x < z = h 0 (omega arith) in
    let r = first_is_least z y xs (increasing_tail x (z ∷ xs) h) i in
    omega arith

-- a strictly increasing list has no repetition
pub increasing_once : (xs : List ℕ) → IsStrictlyIncreasing xs → NoRepeats xs
increasing_once [] h = tt
increasing_once (x ∷ xs) h = (λ i. absurd (omega (arith, first_is_least x x xs h (IsIn-from_Contains xs x i))), increasing_once xs (increasing_tail x xs h))

same_increasing_in : (xs ys : List ℕ) → IsStrictlyIncreasing xs → IsStrictlyIncreasing ys → ((x : ℕ) → IsIn x xs → IsIn x ys)
    → ((x : ℕ) → IsIn x ys → IsIn x xs) → xs ≡ ys
same_increasing_in [] [] h k f g = refl
same_increasing_in [] (y ∷ ys) h k f g = absurd (g y (inl refl))
same_increasing_in (x ∷ xs) [] h k f g = absurd (f x (inl refl))
same_increasing_in (x ∷ xs) (y ∷ ys) h k f g =
    let e : x ≡ y = heads (f x (inl refl)) (g y (inl refl)) in
    ap₂ ◌∷◌ e
    (same_increasing_in xs ys (increasing_tail x xs h) (increasing_tail y ys k)
    (λ z i. ⊎_elim (λ same. absurd (omega (arith, first_is_least x z xs h i))) (λ j. j) (f z (inr i)))
    (λ z i. ⊎_elim (λ same. absurd (omega (arith, first_is_least y z ys k i))) (λ j. j) (g z (inr i))))
  where
    heads : IsIn x (y ∷ ys) → IsIn y (x ∷ xs) → x ≡ y
    heads (inl e) j = e
    heads (inr i) (inl e) = sym e
    heads (inr i) (inr j) = absurd (omega (arith, first_is_least y x ys k i, first_is_least x y xs h j))

-- strictly increasing lists with the same elements are equal
pub same_increasing : (xs ys : List ℕ) → IsStrictlyIncreasing xs → IsStrictlyIncreasing ys → SameElements xs ys → xs ≡ ys
same_increasing xs ys h k same =
    same_increasing_in xs ys h k
    (λ x i. IsIn-from_Contains ys x ((same x).0 (Contains-from_IsIn xs x i)))
    (λ x i. IsIn-from_Contains xs x ((same x).1 (Contains-from_IsIn ys x i)))

-- The same for sorted choices, of which no two are equal.
pub no_sorted_choice_twice : (n k m : ℕ) (basis : ℕ → List ℕ) → ((i : ℕ) → i < m → IsChoice n k (basis i)) → ((i : ℕ) → i < m → IsStrictlyIncreasing (basis i))
    → ((i j : ℕ) → i < j → j < m → ¬ (basis i ≡ basis j)) → m ≤ choices n k
no_sorted_choice_twice n k m basis each sorted apart =
    no_choice_twice n k m basis each (λ i j l h same. apart i j l h (same_increasing (basis i) (basis j) (sorted i (omega arith)) (sorted j h) same))
