-- The names of a list that another one has not.
use Rattle.std.proofs.Common.{◌≡◌, ℕ, ◌+◌, ◌≤◌, ◌<◌, Bool, true, false, not, cond, if◌then◌else◌}
use Rattle.std.proofs.Common.{List, [], ◌∷◌, drop, length, filter, refl, ap, sym, ◌∙◌, arith}
use Rattle.std.specs.Prelude.{slice_get, Some, Ok, Err, nat_le}
use Rattle.std.specs.List.{list_any, IsDistinct, AllByRecursion}
use Rattle.std.specs.Str.{bytes_eq}
use Rattle.std.proofs.lemmas.List.{drop_more, drop_all}
use Rattle.std.proofs.lemmas.Option.{slice_get_within, get_or_from_slice_get}
use Rattle.std.proofs.lemmas.Bool.{cond_both, cond-true, cond-false, lt-leb, le-leb}
use Rattle.std.proofs.lemmas.Map.Keys.{IsDistinct-cons, IsDistinct-head, IsDistinct-tail}
use Rattle.pa_math.specs.Lists.{with_new, union}
use Rattle.pa_names.specs.Names.{most_names, union_of, names_without}
use Rattle.pa_names.specs.declared.fault.NameFault.TheVariants.{Limit}
use Rattle.pa_names.proofs.Unions.{length_union, union_of_nothing}

-- ---- filters
all_filter : {A : Type 0} (P : A → Type 0) (p : A → Bool) (xs : List A) → AllByRecursion P xs → AllByRecursion P (filter p xs)
all_filter P p [] h = h
all_filter P p (x ∷ xs) h = cond_both (p x) (x ∷ filter p xs) (filter p xs) (AllByRecursion P)
    (λ _. (h.0, all_filter P p xs h.1)) (λ _. all_filter P p xs h.1)

distinct_filter : (p : List ℕ → Bool) (xs : List (List ℕ)) → IsDistinct bytes_eq xs → IsDistinct bytes_eq (filter p xs)
distinct_filter p [] h = h
distinct_filter p (x ∷ xs) h = cond_both (p x) (x ∷ filter p xs) (filter p xs) (IsDistinct bytes_eq)
    (λ _. IsDistinct-cons bytes_eq x (filter p xs) (all_filter (λ y. bytes_eq x y ≡ false) p xs (IsDistinct-head bytes_eq x xs h))
    (distinct_filter p xs (IsDistinct-tail bytes_eq x xs h)))
    (λ _. distinct_filter p xs (IsDistinct-tail bytes_eq x xs h))

length_filter : (p : List ℕ → Bool) (xs : List (List ℕ)) → length (filter p xs) ≤ length xs
length_filter p [] = omega arith
length_filter p (x ∷ xs) = cond_both (p x) (x ∷ filter p xs) (filter p xs) (λ ys. length ys ≤ length (x ∷ xs))
    (λ _. omega (arith, length_filter p xs)) (λ _. omega (arith, length_filter p xs))

-- ---- one name after another
one_more : (b : Bool) (xs rest : List (List ℕ)) (y : List ℕ) →
    union bytes_eq xs (cond (not b) (y ∷ rest) rest) ≡ union bytes_eq (if b then xs else with_new bytes_eq xs y) rest
one_more true xs rest y = refl
one_more false xs rest y = refl

-- the union with what is kept of a list takes or leaves its first name
pub kept_more : (xs names others : List (List ℕ)) (i : ℕ) (y : List ℕ) → slice_get names i ≡ Some y →
    union bytes_eq xs (names_without (drop i names) others)
    ≡ union bytes_eq (if list_any (bytes_eq y) others then xs else with_new bytes_eq xs y) (names_without (drop (i + 1) names) others)
kept_more xs names others i y found =
    let head : drop i names ≡ y ∷ drop (i + 1) names =
    drop_more names i y (slice_get_within names i y found) ∙ ap (λ x. x ∷ drop (i + 1) names) (get_or_from_slice_get names i y y found) in
    ap (λ t. union bytes_eq xs (names_without t others)) head ∙ one_more (list_any (bytes_eq y) others) xs (names_without (drop (i + 1) names) others) y

-- once what is held is too long, the whole union is
pub kept_too_long : (start kept next rest : List (List ℕ)) → union bytes_eq next rest ≡ union bytes_eq start kept → most_names < length next
    → union_of start kept ≡ Err Limit
kept_too_long start kept next rest whole long =
    cond-false (nat_le (length (union bytes_eq start kept)) most_names) (Ok (union bytes_eq start kept)) (Err Limit)
    (lt-leb (length (union bytes_eq start kept)) most_names (omega (arith, long, length_union next rest, ap length whole)))

-- once no name is left, what is held is the union
pub kept_whole : (start kept held names others : List (List ℕ)) (place : ℕ) → length names ≤ place
    → union bytes_eq held (names_without (drop place names) others) ≡ union bytes_eq start kept
    → length held ≤ most_names → union_of start kept ≡ Ok held
kept_whole start kept held names others place done so_far short =
    let whole : union bytes_eq start kept ≡ held = sym so_far ∙ ap (λ t. union bytes_eq held (names_without t others)) (drop_all place names done) in
    rw whole (cond-true (nat_le (length held) most_names) (Ok held) (Err Limit) (le-leb (length held) most_names short))

-- what is kept of a list is its own union with a list of none
pub kept_alone : (names others none : List (List ℕ)) → none ≡ [] → IsDistinct bytes_eq names → length names ≤ most_names →
    union_of none (names_without names others) ≡ Ok (names_without names others)
kept_alone names others none empty distinct short =
    let kept : List ℕ → Bool = λ name. not (list_any (bytes_eq name) others) in
    union_of_nothing (filter kept names) none empty (distinct_filter kept names distinct) (omega (arith, short, length_filter kept names))
