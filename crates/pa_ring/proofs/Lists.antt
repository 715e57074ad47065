-- What holds of each element of a list that is appended, mapped, filtered or mapped to lists, both ways.
use Rattle.std.proofs.Common.{◌≡◌, Bool, true, false, List, [], ◌∷◌, ◌++◌, map, filter, flat_map, All, Contains, refl, ◌∙◌, sym, true≢false}
use Rattle.std.proofs.lemmas.List.Elements.{All-nil, All-cons, All-head, All-tail, All-append, All-weaker, All-contains_itself}

-- a test is true or false
by_test : {X : Type 0} (t : Bool) → (t ≡ true → X) → (t ≡ false → X) → X
by_test true f g = f refl
by_test false f g = g refl

-- ---- appended lists
-- the first list's elements
pub All-append_left : {A : Type 0} (P : A → Type 0) (xs ys : List A) → All P (xs ++ ys) → All P xs
All-append_left P [] ys h = All-nil P
All-append_left P (x ∷ xs) ys h = All-cons P x xs (All-head P x (xs ++ ys) h) (All-append_left P xs ys (All-tail P x (xs ++ ys) h))

-- the second list's elements
pub All-append_right : {A : Type 0} (P : A → Type 0) (xs ys : List A) → All P (xs ++ ys) → All P ys
All-append_right P [] ys h = h
All-append_right P (x ∷ xs) ys h = All-append_right P xs ys (All-tail P x (xs ++ ys) h)

-- ---- mapped lists
-- what holds of the images holds by the elements (`All-map` is the other way)
pub All-from_map : {A B : Type 0} (P : B → Type 0) (f : A → B) (xs : List A) → All P (map f xs) → All (λ x. P (f x)) xs
All-from_map P f [] h = All-nil (λ x. P (f x))
All-from_map P f (x ∷ xs) h = All-cons (λ y. P (f y)) x xs (All-head P (f x) (map f xs) h) (All-from_map P f xs (All-tail P (f x) (map f xs) h))

-- ---- filtered lists
-- what holds where the test does holds of the filtered list
pub All-filter_where : {A : Type 0} (P : A → Type 0) (test : A → Bool) (xs : List A) → All (λ x. test x ≡ true → P x) xs → All P (filter test xs)
All-filter_where P test [] h = All-nil P
All-filter_where P test (x ∷ xs) h =
    let rest = All-filter_where P test xs (All-tail (λ y. test y ≡ true → P y) x xs h) in
    by_test (test x) (λ t. rw t (All-cons P x (filter test xs) (All-head (λ y. test y ≡ true → P y) x xs h t) rest)) (λ f. rw f rest)

-- and back
pub All-from_filter : {A : Type 0} (P : A → Type 0) (test : A → Bool) (xs : List A) → All P (filter test xs) → All (λ x. test x ≡ true → P x) xs
All-from_filter P test [] h = All-nil (λ x. test x ≡ true → P x)
All-from_filter P test (x ∷ xs) h =
    by_test (test x)
    (λ t. let k = rw t at h in
    All-cons (λ y. test y ≡ true → P y) x xs (λ _. All-head P x (filter test xs) k) (All-from_filter P test xs (All-tail P x (filter test xs) k)))
    (λ f. All-cons (λ y. test y ≡ true → P y) x xs (λ t. absurd (true≢false (sym t ∙ f))) (All-from_filter P test xs (rw f at h)))

-- ---- lists of lists
-- what holds of each list holds of all together
pub All-flat_map : {A B : Type 0} (P : B → Type 0) (f : A → List B) (xs : List A) → All (λ x. All P (f x)) xs → All P (flat_map f xs)
All-flat_map P f [] h = All-nil P
All-flat_map P f (x ∷ xs) h = All-append P (f x) (flat_map f xs) (All-head (λ y. All P (f y)) x xs h) (All-flat_map P f xs (All-tail (λ y. All P (f y)) x xs h))

-- and back
pub All-from_flat_map : {A B : Type 0} (P : B → Type 0) (f : A → List B) (xs : List A) → All P (flat_map f xs) → All (λ x. All P (f x)) xs
All-from_flat_map P f [] h = All-nil (λ x. All P (f x))
All-from_flat_map P f (x ∷ xs) h =
    All-cons (λ y. All P (f y)) x xs (All-append_left P (f x) (flat_map f xs) h) (All-from_flat_map P f xs (All-append_right P (f x) (flat_map f xs) h))

-- what holds of each element, by the element
pub All-from_contains : {A : Type 0} (P : A → Type 0) (xs : List A) → ((x : A) → Contains xs x → P x) → All P xs
All-from_contains P xs h = All-weaker (Contains xs) P h xs (All-contains_itself xs)
