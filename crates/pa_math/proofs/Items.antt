-- Facts of each item of a list, read one after another.
use Rattle.std.proofs.Common.{◌≡◌, ℕ, zero, suc, ◌<◌, ◌≤◌, ◌+◌, List, [], ◌∷◌, ◌++◌, take, length, get_or, All, refl, sym, ap, ◌∙◌, subst, arith}
use Rattle.std.proofs.lemmas.List.Elements.{All-nil, All-cons, All-head, All-tail, All-append}
use Rattle.std.proofs.lemmas.List.{take_more}

take_all : {A : Type 0} (xs : List A) (n : ℕ) → length xs ≤ n → take n xs ≡ xs
take_all [] zero h = refl
take_all [] (suc n) h = refl
take_all (x ∷ xs) zero h = absurd (omega arith)
take_all (x ∷ xs) (suc n) h = ap (λ ys. x ∷ ys) (take_all xs n (omega arith))

-- one item more
pub all_more : {A : Type 0} (P : A → Type 0) (xs : List A) (i : ℕ) (x : A) → i < length xs → x ≡ get_or xs i x → P x → All P (take i xs)
    → All P (take (i + 1) xs)
all_more P xs i x h is p a =
    subst (All P) (ap (λ z. take i xs ++ z ∷ []) is ∙ sym (take_more xs i x h)) (All-append P (take i xs) (x ∷ []) a (All-cons P x [] p (All-nil P)))

-- the same, where the item is read with a default
pub all_more_at : {A : Type 0} (P : A → Type 0) (xs : List A) (i : ℕ) (d : A) → i < length xs → P (get_or xs i d) → All P (take i xs) → All P (take (i + 1) xs)
all_more_at P xs i d h p a =
    subst (All P) (sym (take_more xs i d h)) (All-append P (take i xs) (get_or xs i d ∷ []) a (All-cons P (get_or xs i d) [] p (All-nil P)))

-- all items
pub all_read : {A : Type 0} (P : A → Type 0) (xs : List A) (i : ℕ) → length xs ≤ i → All P (take i xs) → All P xs
all_read P xs i h a = subst (All P) (take_all xs i h) a
