-- Lists without repetition, and which elements two lists share.
use Rattle.std.specs.Prelude.{◌≡◌, Bool, true, false, List, [], ◌∷◌, ◌++◌, fold, if◌then◌else◌}
use Rattle.std.specs.List.{list_any, AllByRecursion}

-- the list with one more at its end, where it is not there yet
abbrev pub with_new : {A : Type 0} → (A → A → Bool) → List A → A → List A
with_new same xs x = if list_any (same x) xs then xs else xs ++ x ∷ []

-- the first list, then what is new in the second, in order
abbrev pub union : {A : Type 0} → (A → A → Bool) → List A → List A → List A
union same xs ys = fold (with_new same) xs ys

-- each element where it first stands
abbrev pub without_repeats : {A : Type 0} → (A → A → Bool) → List A → List A
without_repeats same xs = union same [] xs

-- no element of the first list is in the second
abbrev pub AreApart : {A : Type 0} → (A → A → Bool) → List A → List A → Type 0
AreApart same xs ys = AllByRecursion (λ x. list_any (same x) ys ≡ false) xs

-- each element of the first list is in the second
abbrev pub AreAmong : {A : Type 0} → (A → A → Bool) → List A → List A → Type 0
AreAmong same xs ys = AllByRecursion (λ x. list_any (same x) ys ≡ true) xs
