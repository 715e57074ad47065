-- Names in place of others.
use Rattle.std.proofs.Common.{◌≡◌, ℕ, zero, suc, ◌+◌, ◌≤◌, ◌<◌, Bool, true, false, List, [], ◌∷◌, ◌++◌, drop, length, get_or}
use Rattle.std.proofs.Common.{refl, ap, sym, ◌∙◌, arith, add-one, position, append_assoc, subst, inl, inr, ⊎_elim}
use Rattle.std.specs.Prelude.{slice_get, Some, ◌||◌, ◌⊎◌}
use Rattle.std.specs.List.{list_any, IsDistinct}
use Rattle.std.specs.Str.{bytes_eq}
use Rattle.std.proofs.lemmas.List.{drop_more, drop_all}
use Rattle.std.proofs.lemmas.List.Elements.{All-contains, All-from_recursion, Contains-append_left, Contains-append_right, Contains-push}
use Rattle.std.proofs.lemmas.List.Quantifiers.{position-Some}
use Rattle.std.proofs.lemmas.Cmp.{nat_list_eq_equiv}
use Rattle.std.proofs.lemmas.Bool.{cond-true, cond-false, both_ways}
use Rattle.std.proofs.lemmas.Map.Keys.{IsDistinct-head, IsDistinct-push, IsDistinct-tail}
use Rattle.std.proofs.lemmas.Option.{slice_get_within, get_or_from_slice_get}
use Rattle.pa_math.specs.Lists.{with_new, union}
use Rattle.pa_names.specs.Names.{renamed, all_renamed, first_names}
use Rattle.pa_names.proofs.Unions.{union_of_none}

-- ---- the first names
pub firsts_start : (pairs : List (List ℕ × List ℕ)) (none : List (List ℕ)) → none ≡ [] → IsDistinct bytes_eq (first_names pairs) →
    union bytes_eq none (first_names pairs) ≡ first_names pairs
firsts_start pairs none e h = rw e (union_of_none (first_names pairs) h)

firsts_suc : (held : List (List ℕ)) (pairs : List (List ℕ × List ℕ)) (i : ℕ) (d : List ℕ × List ℕ) → i < length pairs →
    union bytes_eq held (first_names (drop i pairs)) ≡ union bytes_eq (with_new bytes_eq held (get_or pairs i d).0) (first_names (drop (suc i) pairs))
firsts_suc held [] i d h = absurd (omega arith)
firsts_suc held (p ∷ ps) zero d h = refl
firsts_suc held (p ∷ ps) (suc i) d h = firsts_suc held ps i d (omega arith)

pub firsts_more : (held : List (List ℕ)) (pairs : List (List ℕ × List ℕ)) (i : ℕ) (d : List ℕ × List ℕ) → i < length pairs →
    union bytes_eq held (first_names (drop i pairs)) ≡ union bytes_eq (with_new bytes_eq held (get_or pairs i d).0) (first_names (drop (i + 1) pairs))
firsts_more held pairs i d h = rw add-one (firsts_suc held pairs i d h)

pub firsts_end : (held : List (List ℕ)) (pairs : List (List ℕ × List ℕ)) (i : ℕ) → length pairs ≤ i →
    union bytes_eq held (first_names (drop i pairs)) ≡ held
firsts_end held pairs i h = ap (λ t. union bytes_eq held (first_names t)) (drop_all i pairs h)

none_distinct : IsDistinct bytes_eq []
unfolding IsDistinct
none_distinct = tt

-- one pair repeats no name
pub one_pair : (pairs : List (List ℕ × List ℕ)) (pair : List ℕ × List ℕ) → pairs ≡ pair ∷ [] → IsDistinct bytes_eq (first_names pairs)
one_pair pairs pair e = rw e (IsDistinct-push nat_list_eq_equiv [] pair.0 none_distinct refl)

-- ---- the new name
first_at : (pairs : List (List ℕ × List ℕ)) (i : ℕ) (d : List ℕ × List ℕ) → get_or (first_names pairs) i d.0 ≡ (get_or pairs i d).0
first_at [] i d = refl
first_at (p ∷ ps) zero d = refl
first_at (p ∷ ps) (suc i) d = first_at ps i d

firsts_length : (pairs : List (List ℕ × List ℕ)) → length (first_names pairs) ≡ length pairs
firsts_length [] = refl
firsts_length (p ∷ ps) = ap suc (firsts_length ps)

renamed_here : (pairs : List (List ℕ × List ℕ)) (name : List ℕ) (i : ℕ) (d : List ℕ × List ℕ) → i < length pairs →
    bytes_eq name (get_or pairs i d).0 ≡ true → ((k : ℕ) → k < i → bytes_eq name (get_or pairs k d).0 ≡ false) → (get_or pairs i d).1 ≡ renamed pairs name
renamed_here [] name i d h at before = absurd (omega arith)
renamed_here (p ∷ ps) name zero d h at before = sym (cond-true (bytes_eq name p.0) p.1 (renamed ps name) at)
renamed_here (p ∷ ps) name (suc i) d h at before =
    renamed_here ps name i d (omega arith) at (λ k b. before (suc k) (omega arith))
    ∙ sym (cond-false (bytes_eq name p.0) p.1 (renamed ps name) (before 0 (omega arith)))

-- the pair at the place where the old name stands first
pub renamed_at : (pairs : List (List ℕ × List ℕ)) (name : List ℕ) (i : ℕ) (d : List ℕ × List ℕ) →
    position (bytes_eq name) (first_names pairs) ≡ Some i → (get_or pairs i d).1 ≡ renamed pairs name
renamed_at pairs name i d found =
    let first = position-Some (bytes_eq name) (first_names pairs) i d.0 found in
    renamed_here pairs name i d (omega (arith, first.0, firsts_length pairs)) (ap (bytes_eq name) (sym (first_at pairs i d)) ∙ first.1)
    (λ k b. ap (bytes_eq name) (sym (first_at pairs k d)) ∙ first.2 k b)

neither : (a b : Bool) → a || b ≡ false → (a ≡ false) × (b ≡ false)
neither true b h = cc
neither false b h = (refl, h)

one_of : (a b : Bool) → a || b ≡ true → (a ≡ true) ⊎ (b ≡ true)
one_of true b h = inl refl
one_of false b h = inr h

-- a name that no pair has first stays
pub renamed_nowhere : (pairs : List (List ℕ × List ℕ)) (name : List ℕ) → list_any (bytes_eq name) (first_names pairs) ≡ false → name ≡ renamed pairs name
renamed_nowhere [] name h = refl
renamed_nowhere (p ∷ ps) name h =
    let t = neither (bytes_eq name p.0) (list_any (bytes_eq name) (first_names ps)) h in
    renamed_nowhere ps name t.1 ∙ sym (cond-false (bytes_eq name p.0) p.1 (renamed ps name) t.0)

-- ---- one name after another
rest_at : (pairs : List (List ℕ × List ℕ)) (names : List (List ℕ)) (i : ℕ) (y : List ℕ) → slice_get names i ≡ Some y →
    all_renamed pairs (drop i names) ≡ renamed pairs y ∷ all_renamed pairs (drop (i + 1) names)
rest_at pairs names i y found = ap (all_renamed pairs)
    (drop_more names i y (slice_get_within names i y found) ∙ ap (λ x. x ∷ drop (i + 1) names) (get_or_from_slice_get names i y y found))

-- what is held with the new name, and the renamed names that are left, still make all of them
pub renamed_more : (pairs : List (List ℕ × List ℕ)) (names done more all : List (List ℕ)) (i : ℕ) (y new : List ℕ) → slice_get names i ≡ Some y →
    new ≡ renamed pairs y → more ≡ done ++ new ∷ [] → done ++ all_renamed pairs (drop i names) ≡ all → more ++ all_renamed pairs (drop (i + 1) names) ≡ all
renamed_more pairs names done more all i y new found e f whole =
    rw (f, e)
    (append_assoc done (renamed pairs y ∷ []) (all_renamed pairs (drop (i + 1) names)) ∙ ap (λ t. done ++ t) (sym (rest_at pairs names i y found)) ∙ whole)

-- ---- a name that is there already
twice : (done rest : List (List ℕ)) (new : List ℕ) → list_any (bytes_eq new) done ≡ true → IsDistinct bytes_eq (done ++ new ∷ rest) → ⊥
twice [] rest new h d = cc
twice (x ∷ xs) rest new h d = ⊎_elim
    (λ same. both_ways (bytes_eq x new)
    (All-contains (λ z. bytes_eq x z ≡ false) (xs ++ new ∷ rest) new
    (All-from_recursion (λ z. bytes_eq x z ≡ false) (xs ++ new ∷ rest) (IsDistinct-head bytes_eq x (xs ++ new ∷ rest) d))
    (Contains-append_right xs (new ∷ rest) new (Contains-append_left (new ∷ []) rest new (Contains-push [] new))))
    (sym (nat_list_eq_equiv.symm new x) ∙ same))
    (λ later. twice xs rest new later (IsDistinct-tail bytes_eq x (xs ++ new ∷ rest) d))
    (one_of (bytes_eq new x) (list_any (bytes_eq new) xs) h)

-- a new name that is held already stands twice among all
pub renamed_twice : (pairs : List (List ℕ × List ℕ)) (names done all : List (List ℕ)) (i : ℕ) (y new : List ℕ) → slice_get names i ≡ Some y →
    new ≡ renamed pairs y → done ++ all_renamed pairs (drop i names) ≡ all → list_any (bytes_eq new) done ≡ true → ¬ IsDistinct bytes_eq all
renamed_twice pairs names done all i y new found e whole held d =
    twice done (all_renamed pairs (drop (i + 1) names)) new held
    (subst (IsDistinct bytes_eq)
    (sym whole ∙ ap (λ t. done ++ t) (rest_at pairs names i y found ∙ ap (λ t. t ∷ all_renamed pairs (drop (i + 1) names)) (sym e))) d)
