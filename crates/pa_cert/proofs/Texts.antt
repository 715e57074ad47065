-- Texts of lists, one element after another, and the names of ports.
use Rattle.std.proofs.Common.{◌≡◌, ℕ, ℤ, ◌+◌, ◌≤◌, List, [], ◌∷◌, ◌++◌}
use Rattle.std.proofs.Common.{drop, length, refl, ap, sym, ◌∙◌, Some, Ok, Err, Bool, true, false, min, append_assoc, subst, arith, get_or}
use Rattle.std.specs.Prelude.{slice_get, nat_le, Contains}
use Rattle.std.specs.List.{list_any, IsDistinct}
use Rattle.std.specs.Str.{bytes_eq}
use Rattle.std.proofs.lemmas.List.{drop_more, drop_all, append-nil}
use Rattle.std.proofs.lemmas.Option.{slice_get_within, get_or_from_slice_get}
use Rattle.std.proofs.lemmas.List.Elements.{All-contains, All-from_recursion, Contains-append_left, Contains-append_right, Contains-push}
use Rattle.std.proofs.lemmas.Bool.{cond-true, cond-false, le-leb, leb-true, leb-false, both_ways, false_from_ne_true}
use Rattle.std.proofs.lemmas.Slice.Eq.{bytes_eq-Decides}
use Rattle.std.proofs.lemmas.Map.Keys.{IsDistinct-head, IsDistinct-tail}
use Rattle.pa_math.specs.Lists.{union}
use Rattle.pa_names.specs.Names.{most_names, most_ports, union_of}
use Rattle.pa_names.specs.declared.fault.NameFault.TheVariants.{Limit}
use Rattle.pa_meaning.specs.Contracts.{Name}
use Rattle.pa_cert.specs.AnswerText.{pair_text, pairs_text}

-- ---- one element after another

-- the list from a place on begins with the one that stands there
begins_at : {A : Type 0} (xs : List A) (i : ℕ) (x : A) → slice_get xs i ≡ Some x → drop i xs ≡ x ∷ drop (i + 1) xs
begins_at xs i x found =
    drop_more xs i x (slice_get_within xs i x found) ∙ ap (λ y. y ∷ drop (i + 1) xs) (get_or_from_slice_get xs i x x found)

-- what is written, one piece more, and the text of what is left make the whole
one_more : (before piece rest left after all : List ℕ) → after ≡ before ++ piece → left ≡ piece ++ rest → before ++ left ≡ all → after ++ rest ≡ all
one_more before piece rest left after all after_is left_is so_far =
    ap (λ xs. xs ++ rest) after_is ∙ append_assoc before piece rest ∙ ap (λ xs. before ++ xs) (sym left_is) ∙ so_far

-- two pieces one after another
pub two_pieces : (before a b first second : List ℕ) → first ≡ before ++ a → second ≡ first ++ b → second ≡ before ++ (a ++ b)
two_pieces before a b first second first_is second_is = second_is ∙ ap (λ t. t ++ b) first_is ∙ append_assoc before a b

-- one name more is written with its number
pub pair_more : (names : List Name) (numbers : List ℤ) (i : ℕ) (name : Name) (n : ℤ) (before after all : List ℕ) → slice_get names i ≡ Some name
    → slice_get numbers i ≡ Some n → after ≡ before ++ pair_text name n
    → before ++ pairs_text (drop i names) (drop i numbers) ≡ all → after ++ pairs_text (drop (i + 1) names) (drop (i + 1) numbers) ≡ all
pair_more names numbers i name n before after all has_name has_number after_is so_far =
    let left : pairs_text (drop i names) (drop i numbers) ≡ pair_text name n ++ pairs_text (drop (i + 1) names) (drop (i + 1) numbers) =
    ap (λ xs. pairs_text xs (drop i numbers)) (begins_at names i name has_name)
    ∙ ap (pairs_text (name ∷ drop (i + 1) names)) (begins_at numbers i n has_number) in
    one_more before (pair_text name n) (pairs_text (drop (i + 1) names) (drop (i + 1) numbers)) (pairs_text (drop i names) (drop i numbers)) after all after_is
    left so_far

no_numbers : (names : List Name) → pairs_text names [] ≡ []
no_numbers [] = refl
no_numbers (name ∷ names) = refl

-- behind the end of one list nothing is left
names_done : (names : List Name) (numbers : List ℤ) (i : ℕ) (text all : List ℕ) → length names ≤ i
    → text ++ pairs_text (drop i names) (drop i numbers) ≡ all → text ≡ all
names_done names numbers i text all past so_far =
    sym (append-nil text) ∙ ap (λ xs. text ++ pairs_text xs (drop i numbers)) (sym (drop_all i names past)) ∙ so_far

numbers_done : (names : List Name) (numbers : List ℤ) (i : ℕ) (text all : List ℕ) → length numbers ≤ i
    → text ++ pairs_text (drop i names) (drop i numbers) ≡ all → text ≡ all
numbers_done names numbers i text all past so_far =
    sym (append-nil text) ∙ ap (λ xs. text ++ xs) (sym (no_numbers (drop i names))) ∙ ap (λ xs. text ++ pairs_text (drop i names) xs) (sym (drop_all i numbers
    past)) ∙ so_far

pub pairs_done : (names : List Name) (numbers : List ℤ) (i : ℕ) (text all : List ℕ) → min (length names) (length numbers) ≤ i
    → text ++ pairs_text (drop i names) (drop i numbers) ≡ all → text ≡ all
pairs_done names numbers i text all past so_far = by (nat_le (length names) i) refl
  where
    by : (b : Bool) → nat_le (length names) i ≡ b → text ≡ all
    by true is = names_done names numbers i text all (leb-true (length names) i is) so_far
    by false is = let behind = leb-false (length names) i is in numbers_done names numbers i text all (omega arith) so_far

-- ---- names of ports
contains_first : (y : List ℕ) (ys : List (List ℕ)) → Contains (y ∷ ys) y
contains_first y ys = Contains-append_left (y ∷ []) ys y (Contains-push [] y)

-- a name of a list without repeats does not stand before itself
not_before : (xs : List (List ℕ)) (y : List ℕ) (ys : List (List ℕ)) → IsDistinct bytes_eq (xs ++ y ∷ ys) → list_any (bytes_eq y) xs ≡ false
not_before [] y ys distinct = refl
not_before (x ∷ xs) y ys distinct =
    let all = All-from_recursion (λ z. bytes_eq x z ≡ false) (xs ++ y ∷ ys) (IsDistinct-head bytes_eq x (xs ++ y ∷ ys) distinct) in
    let differs : bytes_eq x y ≡ false =
    All-contains (λ z. bytes_eq x z ≡ false) (xs ++ y ∷ ys) y all (Contains-append_right xs (y ∷ ys) y (contains_first y ys)) in
    let back : bytes_eq y x ≡ false = false_from_ne_true (bytes_eq y x)
    (λ same. both_ways (bytes_eq x y) differs ((bytes_eq-Decides x y).1 (sym ((bytes_eq-Decides y x).0 same)))) in
    rw (back, not_before xs y ys (IsDistinct-tail bytes_eq x (xs ++ y ∷ ys) distinct)) refl

-- the union of two parts of a list without repeats is the list
union-parts : (xs ys : List (List ℕ)) → IsDistinct bytes_eq (xs ++ ys) → union bytes_eq xs ys ≡ xs ++ ys
union-parts xs [] distinct = sym (append-nil xs)
union-parts xs (y ∷ ys) distinct =
    ap (λ zs. union bytes_eq zs ys) (cond-false (list_any (bytes_eq y) xs) xs (xs ++ y ∷ []) (not_before xs y ys distinct))
    ∙ union-parts (xs ++ y ∷ []) ys (subst (IsDistinct bytes_eq) (sym (append_assoc xs (y ∷ []) ys)) distinct)
    ∙ append_assoc xs (y ∷ []) ys

-- so it may be held where the list may
pub union_of-parts : (xs ys : List (List ℕ)) → IsDistinct bytes_eq (xs ++ ys) → length (xs ++ ys) ≤ most_ports → union_of xs ys ≡ Ok (xs ++ ys)
union_of-parts xs ys distinct few = rw (union-parts xs ys distinct)
    (cond-true (nat_le (length (xs ++ ys)) most_names) (Ok (xs ++ ys)) (Err Limit) (le-leb (length (xs ++ ys)) most_names (omega arith)))
