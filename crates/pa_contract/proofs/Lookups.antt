-- A contract is found at the place of its name, and lists of contracts with different names go together.
use Rattle.std.proofs.Common.{◌≡◌, ℕ, ◌+◌, ◌≤◌, ◌<◌, List, [], ◌∷◌, ◌++◌}
use Rattle.std.proofs.Common.{map, length, refl, ap, sym, ◌∙◌, Some, None, Bool, true, false, cond, not, suc, get_or, append_assoc, arith}
use Rattle.std.specs.Prelude.{option_map, position, slice_get, nat_lt}
use Rattle.std.specs.List.{list_any, position_or_len, IsDistinct}
use Rattle.std.specs.Str.{bytes_eq}
use Rattle.std.proofs.lemmas.List.{append-nil}
use Rattle.std.proofs.lemmas.List.Folds.{find_at, list_any-append}
use Rattle.std.proofs.lemmas.Option.{slice_get_past, slice_get_read}
use Rattle.std.proofs.lemmas.Bool.{cond-false, ltb-false}
use Rattle.std.proofs.lemmas.Cmp.{nat_list_eq_equiv}
use Rattle.std.proofs.lemmas.Map.Keys.{IsDistinct-head, IsDistinct-tail}
use Rattle.indexmap.specs.IndexSet.{insert_key, insert_all}
use Rattle.pa_math.specs.Lists.{AreApart}
use Rattle.pa_math.proofs.Unions.{All-implied2}
use Rattle.pa_meaning.specs.Contracts.{Name, Named}
use Rattle.pa_contract.specs.Named.{contract_named, AreNew}

none_at : (name : Name) (n : Named) (named : List Named) (same : Bool) → bytes_eq name n.name ≡ same
    → (contract_named named name ≡ None → list_any (bytes_eq name) (map (λ m. m.name) named) ≡ false)
    → contract_named (n ∷ named) name ≡ None → list_any (bytes_eq name) (map (λ m. m.name) (n ∷ named)) ≡ false
none_at name n named true is more h = absurd (let some : contract_named (n ∷ named) name ≡ Some n.contract = rw is refl in cc)
none_at name n named false is more h =
    let here : contract_named (n ∷ named) name ≡ contract_named named name = rw is refl in
    let rest = more (sym here ∙ h) in
    rw (is, rest) refl

-- a name that no contract has is none of their names
pub free_name : (name : Name) (named : List Named) → contract_named named name ≡ None → list_any (bytes_eq name) (map (λ m. m.name) named) ≡ false
free_name name [] h = refl
free_name name (n ∷ named) h = none_at name n named (bytes_eq name n.name) refl (free_name name named) h

-- ---- places

-- the first name that passes stands where its contract does
name_place : (p : Name → Bool) (named : List Named) → position_or_len p (map (λ n. n.name) named) ≡ position_or_len (λ n. p n.name) named
name_place p [] = refl
name_place p (n ∷ named) = ap (λ k. cond (not (p n.name)) (1 + k) 0) (name_place p named)

pub name_count : (named : List Named) → length (map (λ n. n.name) named) ≡ length named
name_count [] = refl
name_count (n ∷ named) = ap suc (name_count named)

place_is : (place count i : ℕ) (below : Bool) → cond below (Some place) None ≡ Some i → place ≡ i
place_is place count i true h = cc
place_is place count i false h = absurd (cc)

past : (place count : ℕ) (below : Bool) → nat_lt place count ≡ below → cond below (Some place) None ≡ None → count ≤ place
past place count true is h = absurd (cc)
past place count false is h = ltb-false place count is

found_at : (name : Name) (named : List Named) → contract_named named name
    ≡ option_map (λ n. n.contract) (slice_get named (position_or_len (bytes_eq name) (map (λ n. n.name) named)))
found_at name named =
    ap (option_map (λ n. n.contract)) (find_at (λ n. bytes_eq name n.name) named ∙ ap (slice_get named) (sym (name_place (bytes_eq name) named)))

-- the contract of a name stands where the name does
contract_at : (name : Name) (named : List Named) (i : ℕ) → position (bytes_eq name) (map (λ n. n.name) named) ≡ Some i
    → contract_named named name ≡ option_map (λ n. n.contract) (slice_get named i)
contract_at name named i h =
    let names = map (λ n. n.name) named in
    found_at name named ∙ ap (λ k. option_map (λ n. n.contract) (slice_get named k)) (place_is (position_or_len (bytes_eq name) names) (length names) i (nat_lt
    (position_or_len (bytes_eq name) names) (length names)) h)

pub found_contract : (name : Name) (named : List Named) (names : List Name) (i : ℕ) (n : Named) → names ≡ map (λ n. n.name) named
    → Some i ≡ position (bytes_eq name) names → i < length named → n ≡ get_or named i n → Some n.contract ≡ contract_named named name
found_contract name named names i n names_are at within is =
    let here : slice_get named i ≡ Some n = slice_get_read named (length named) i n refl within is in
    sym (contract_at name named i (sym (at ∙ ap (position (bytes_eq name)) names_are)) ∙ ap (option_map (λ n. n.contract)) here)

-- a name without a place has no contract
pub missing_contract : (name : Name) (named : List Named) (names : List Name) → names ≡ map (λ n. n.name) named
    → None ≡ position (bytes_eq name) names → None ≡ contract_named named name
missing_contract name named names names_are at =
    let own = map (λ n. n.name) named in
    let place = position_or_len (bytes_eq name) own in
    let none : position (bytes_eq name) own ≡ None = sym (at ∙ ap (position (bytes_eq name)) names_are) in
    let behind : length own ≤ place = past place (length own) (nat_lt place (length own)) refl none in
    let no_contract : slice_get named place ≡ None = slice_get_past named place (omega (arith, name_count named)) in
    sym (found_at name named ∙ ap (option_map (λ n. n.contract)) no_contract)

-- ---- names that are new

-- a name that is neither in a list nor another one is not in both
not_with : (names : List Name) (x y : Name) → list_any (bytes_eq y) names ≡ false → bytes_eq x y ≡ false → list_any (bytes_eq y) (names ++ x ∷ []) ≡ false
not_with names x y new differs =
    let back : bytes_eq y x ≡ false = nat_list_eq_equiv.symm y x ∙ differs in
    list_any-append (bytes_eq y) names (x ∷ []) ∙ rw (new, back) refl

all_names : (named others : List Named) → map (λ n. n.name) (named ++ others) ≡ map (λ n. n.name) named ++ map (λ n. n.name) others
all_names [] others = refl
all_names (n ∷ named) others = ap (λ ns. n.name ∷ ns) (all_names named others)

-- different names that a list has not go behind it
all_new : (names others : List Name) → AreApart bytes_eq others names → IsDistinct bytes_eq others → insert_all bytes_eq names others ≡ names ++ others
all_new names [] apart distinct = sym (append-nil names)
all_new names (x ∷ others) apart distinct =
    let one : insert_key bytes_eq names x ≡ names ++ x ∷ [] = cond-false (list_any (bytes_eq x) names) names (names ++ x ∷ []) apart.0 in
    let rest = All-implied2 (λ y. list_any (bytes_eq y) names ≡ false) (λ y. bytes_eq x y ≡ false) (λ y. list_any (bytes_eq y) (names ++ x ∷ []) ≡ false)
    (not_with names x) others apart.1 (IsDistinct-head bytes_eq x others distinct) in
    ap (λ ns. insert_all bytes_eq ns others) one ∙ all_new (names ++ x ∷ []) others rest (IsDistinct-tail bytes_eq x others distinct)
    ∙ append_assoc names (x ∷ []) others

-- so the names of two lists of contracts stay the names of both lists together
pub both_named : (named others all : List Named) (names more both : List Name) → names ≡ map (λ n. n.name) named → more ≡ map (λ n. n.name) others
    → AreNew named others → IsDistinct bytes_eq more → both ≡ insert_all bytes_eq names more → all ≡ named ++ others → both ≡ map (λ n. n.name) all
both_named named others all names more both names_are more_are new distinct both_is all_is =
    let apart : AreApart bytes_eq more names = rw (names_are, more_are) new in
    both_is ∙ all_new names more apart distinct ∙ rw (names_are, more_are, all_is) (sym (all_names named others))

-- where nothing is left, what is there is the whole list
pub all_taken : (items left all : List Named) → length left ≡ 0 → items ++ left ≡ all → items ≡ all
all_taken items [] all none is = sym (append-nil items) ∙ is
all_taken items (n ∷ left) all none is = absurd (omega arith)
