-- Unions of lists of names.
use Rattle.std.proofs.Common.{◌≡◌, ℕ, ◌+◌, ◌≤◌, ◌<◌, true, false, List, [], ◌∷◌, ◌++◌, drop, length, ap, sym, ◌∙◌, arith, append_assoc, subst, inl, inr, ⊎_elim}
use Rattle.std.specs.Prelude.{slice_get, Some, Ok, Err, nat_le, Contains, ◌⊎◌}
use Rattle.std.specs.List.{list_any, IsDistinct}
use Rattle.std.specs.Str.{bytes_eq}
use Rattle.std.proofs.lemmas.List.{append-nil, drop_more, drop_all, length_push}
use Rattle.std.proofs.lemmas.List.Elements.{All-contains, All-from_recursion, Contains-append_left, Contains-push}
use Rattle.std.proofs.lemmas.List.Elements.{Contains-push_cases, Contains-append_cases, Contains-append_right}
use Rattle.std.proofs.lemmas.Option.{slice_get_within, get_or_from_slice_get}
use Rattle.std.proofs.lemmas.Cmp.{nat_list_eq_equiv}
use Rattle.std.proofs.lemmas.Bool.{cond_both, cond-true, cond-false, lt-leb, le-leb, both_ways, false_from_ne_true}
use Rattle.std.proofs.lemmas.Slice.Eq.{bytes_eq-Decides}
use Rattle.std.proofs.lemmas.Map.Keys.{IsDistinct-push, IsDistinct-head, IsDistinct-tail}
use Rattle.std.proofs.lemmas.Map.Views.{Contains-from_any}
use Rattle.pa_math.specs.Lists.{with_new, union}
use Rattle.pa_names.specs.Names.{most_names, union_of}
use Rattle.pa_names.specs.declared.fault.NameFault.TheVariants.{Limit}

-- a list that is asked for one name more is no shorter
length-with_new : (xs : List (List ℕ)) (x : List ℕ) → length xs ≤ length (with_new bytes_eq xs x)
length-with_new xs x = cond_both (list_any (bytes_eq x) xs) xs (xs ++ x ∷ []) (λ zs. length xs ≤ length zs)
    (λ _. omega arith) (λ _. omega (arith, length_push xs x))

-- a union is no shorter than the first list
pub length_union : (xs ys : List (List ℕ)) → length xs ≤ length (union bytes_eq xs ys)
length_union xs [] = omega arith
length_union xs (y ∷ ys) = omega (arith, length-with_new xs y, length_union (with_new bytes_eq xs y) ys)

-- a union takes the second list's names one after another
pub union_more : (xs ys : List (List ℕ)) (i : ℕ) (y : List ℕ) → slice_get ys i ≡ Some y
    → union bytes_eq xs (drop i ys) ≡ union bytes_eq (with_new bytes_eq xs y) (drop (i + 1) ys)
union_more xs ys i y found =
    let head : drop i ys ≡ y ∷ drop (i + 1) ys =
    drop_more ys i y (slice_get_within ys i y found) ∙ ap (λ x. x ∷ drop (i + 1) ys) (get_or_from_slice_get ys i y y found) in
    ap (union bytes_eq xs) head

same_name : (x y : List ℕ) → bytes_eq x y ≡ true → x ≡ y
same_name x y = (bytes_eq-Decides x y).0

-- a union has no repeats where the first list has none
pub union_distinct : (xs ys : List (List ℕ)) → IsDistinct bytes_eq xs → IsDistinct bytes_eq (union bytes_eq xs ys)
union_distinct xs [] distinct = distinct
union_distinct xs (y ∷ ys) distinct = union_distinct (with_new bytes_eq xs y) ys
    (cond_both (list_any (bytes_eq y) xs) xs (xs ++ y ∷ []) (IsDistinct bytes_eq)
    (λ _. distinct) (λ absent. IsDistinct-push nat_list_eq_equiv xs y distinct absent))

-- each name of the first list is in the union
pub union_has_first : (xs ys : List (List ℕ)) (x : List ℕ) → Contains xs x → Contains (union bytes_eq xs ys) x
union_has_first xs [] x held = held
union_has_first xs (y ∷ ys) x held = union_has_first (with_new bytes_eq xs y) ys x
    (cond_both (list_any (bytes_eq y) xs) xs (xs ++ y ∷ []) (λ zs. Contains zs x)
    (λ _. held) (λ _. Contains-append_left xs (y ∷ []) x held))

holds_new : (xs : List (List ℕ)) (y : List ℕ) → Contains (with_new bytes_eq xs y) y
holds_new xs y = cond_both (list_any (bytes_eq y) xs) xs (xs ++ y ∷ []) (λ zs. Contains zs y)
    (λ found. Contains-from_any same_name y xs found) (λ _. Contains-push xs y)

holds_old_or_new : (xs : List (List ℕ)) (y x : List ℕ) → Contains (with_new bytes_eq xs y) x → Contains xs x ⊎ (y ≡ x)
holds_old_or_new xs y x = cond_both (list_any (bytes_eq y) xs) xs (xs ++ y ∷ []) (λ zs. Contains zs x → Contains xs x ⊎ (y ≡ x))
    (λ _ held. inl held) (λ _ held. Contains-push_cases xs y x held)

contains_head : (y : List ℕ) (ys : List (List ℕ)) → Contains (y ∷ ys) y
contains_head y ys = Contains-append_left (y ∷ []) ys y (Contains-push [] y)

contains_tail : (y x : List ℕ) (ys : List (List ℕ)) → Contains ys x → Contains (y ∷ ys) x
contains_tail y x ys held = Contains-append_right (y ∷ []) ys x held

head_or_tail : (y x : List ℕ) (ys : List (List ℕ)) → Contains (y ∷ ys) x → (y ≡ x) ⊎ Contains ys x
head_or_tail y x ys held = ⊎_elim
    (λ first. ⊎_elim (λ none. absurd (omega (arith, none.1))) inl (Contains-push_cases [] y x first))
    inr (Contains-append_cases (y ∷ []) ys x held)

-- each name of the second list is in the union
pub union_has_second : (xs ys : List (List ℕ)) (x : List ℕ) → Contains ys x → Contains (union bytes_eq xs ys) x
union_has_second xs [] x held = absurd (omega (arith, held.1))
union_has_second xs (y ∷ ys) x held = ⊎_elim
    (λ is. union_has_first (with_new bytes_eq xs y) ys x (subst (Contains (with_new bytes_eq xs y)) is (holds_new xs y)))
    (union_has_second (with_new bytes_eq xs y) ys x) (head_or_tail y x ys held)

-- a union has no name that neither list has
pub union_has_no_other : (xs ys : List (List ℕ)) (x : List ℕ) → Contains (union bytes_eq xs ys) x → Contains xs x ⊎ Contains ys x
union_has_no_other xs [] x held = inl held
union_has_no_other xs (y ∷ ys) x held = ⊎_elim
    (λ early. ⊎_elim inl (λ is. inr (subst (Contains (y ∷ ys)) is (contains_head y ys))) (holds_old_or_new xs y x early))
    (λ late. inr (contains_tail y x ys late)) (union_has_no_other (with_new bytes_eq xs y) ys x held)

-- the union with a list that repeats nothing and shares nothing is the two lists, one after the other
pub union_apart : (xs ys : List (List ℕ)) → IsDistinct bytes_eq ys → ((x : List ℕ) → Contains ys x → ¬ Contains xs x)
    → union bytes_eq xs ys ≡ xs ++ ys
union_apart xs [] distinct apart = sym (append-nil xs)
union_apart xs (y ∷ ys) distinct apart =
    let absent : list_any (bytes_eq y) xs ≡ false = false_from_ne_true (list_any (bytes_eq y) xs)
    (λ found. apart y (contains_head y ys) (Contains-from_any same_name y xs found)) in
    let differs : (x : List ℕ) → Contains ys x → bytes_eq y x ≡ false =
    λ x held. All-contains (λ z. bytes_eq y z ≡ false) ys x (All-from_recursion (λ z. bytes_eq y z ≡ false) ys (IsDistinct-head bytes_eq y ys distinct)) held in
    ap (λ zs. union bytes_eq zs ys) (cond-false (list_any (bytes_eq y) xs) xs (xs ++ y ∷ []) absent)
    ∙ union_apart (xs ++ y ∷ []) ys (IsDistinct-tail bytes_eq y ys distinct)
    (λ x held early. ⊎_elim (apart x (contains_tail y x ys held))
    (λ is. both_ways (bytes_eq y x) (differs x held) ((bytes_eq-Decides y x).1 is)) (Contains-push_cases xs y x early))
    ∙ append_assoc xs (y ∷ []) ys

-- a list without repeats is its own union with the empty list
pub union_of_none : (ys : List (List ℕ)) → IsDistinct bytes_eq ys → union bytes_eq [] ys ≡ ys
union_of_none ys distinct = union_apart [] ys distinct (λ x _ none. absurd (omega (arith, none.1)))

-- once a name does not fit, the whole union does not
pub union_too_long : (start others held : List (List ℕ)) (place : ℕ) (name : List ℕ) → slice_get others place ≡ Some name
    → union bytes_eq held (drop place others) ≡ union bytes_eq start others
    → most_names < length (with_new bytes_eq held name) → union_of start others ≡ Err Limit
union_too_long start others held place name found so_far long =
    let whole : union bytes_eq (with_new bytes_eq held name) (drop (place + 1) others) ≡ union bytes_eq start others =
    sym (union_more held others place name found) ∙ so_far in
    cond-false (nat_le (length (union bytes_eq start others)) most_names) (Ok (union bytes_eq start others)) (Err Limit)
    (lt-leb (length (union bytes_eq start others)) most_names
    (omega (arith, long, length_union (with_new bytes_eq held name) (drop (place + 1) others), ap length whole)))

-- once no name is left, what is held is the union
pub union_whole : (start others held : List (List ℕ)) (place : ℕ) → length others ≤ place
    → union bytes_eq held (drop place others) ≡ union bytes_eq start others
    → length held ≤ most_names → union_of start others ≡ Ok held
union_whole start others held place done so_far short =
    let whole : union bytes_eq start others ≡ held = sym so_far ∙ ap (union bytes_eq held) (drop_all place others done) in
    rw whole (cond-true (nat_le (length held) most_names) (Ok held) (Err Limit) (le-leb (length held) most_names short))

-- a list that may be held is its own union with a list of none
pub union_of_nothing : (names none : List (List ℕ)) → none ≡ [] → IsDistinct bytes_eq names → length names ≤ most_names → union_of none names ≡ Ok names
union_of_nothing names none empty distinct short = rw (empty, union_of_none names distinct)
    (cond-true (nat_le (length names) most_names) (Ok names) (Err Limit) (le-leb (length names) most_names short))
