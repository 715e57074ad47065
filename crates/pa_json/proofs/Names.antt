-- The names of contracts and parts stay distinct, an item at a time.
use Rattle.std.proofs.Common.{◌≡◌, Bool, true, false, ◌||◌, cond, ℕ, List, [], ◌∷◌, ◌++◌, length, codes, refl, sym, ap, ◌∙◌, subst, Result, Ok}
use Rattle.std.proofs.Common.{Err, IfOk}
use Rattle.std.specs.List.{list_any, IsDistinct}
use Rattle.std.specs.Str.{bytes_eq}
use Rattle.std.proofs.lemmas.Cmp.{nat_list_eq_equiv}
use Rattle.std.proofs.lemmas.List.{append_assoc, append-nil, map-append}
use Rattle.std.proofs.lemmas.Map.Keys.{IsDistinct-push}
use Rattle.serde_json.specs.Data.{Data, Items, no_items, item}
use Rattle.serde_json.specs.Find.{get, as_object}
use Rattle.pa_math.specs.Answers.{needed, IsAnswer}
use Rattle.pa_math.proofs.Unions.{distinct-nil}
use Rattle.pa_meaning.specs.Contracts.{Name, Named}
use Rattle.pa_json.specs.Diagram.{name_text, new_name, named_of, with_contracts, contract_of, part_of, with_parts, origin_of, wired_in}
use Rattle.pa_json.specs.Diagrams.{names_of}
use Rattle.pa_json.specs.Layouts.{Layout}
use Rattle.pa_json.specs.Paths.{member_path, item_path}
use Rattle.pa_json.specs.declared.fault.DiagramFault.{DiagramFault}
use Rattle.pa_json.specs.declared.fault.DiagramFault.TheVariants.{Shape}
use Rattle.pa_json.proofs.Steps.{both_taken}

-- a name that was read is new
pub new_name-new : (path : List ℕ) (earlier : List Name) (d : Data) (name : Name) → new_name path earlier d ≡ Ok name
    → list_any (bytes_eq name) earlier ≡ false
new_name-new path earlier d name is =
    let found = both_taken (name_text (member_path path (codes "name")) (get (codes "name") d)) _ name is in
    by found.0 (list_any (bytes_eq found.0) earlier) refl found.2
  where
    by : (found : Name) (taken : Bool) → list_any (bytes_eq found) earlier ≡ taken
        → cond taken (Err (Shape (member_path path (codes "name")))) (Ok found) ≡ Ok name → list_any (bytes_eq name) earlier ≡ false
    by found true is e = cc
    by found false is e =
        let same : found ≡ name = cc in
        let P : Name → Type 0 = λ name. list_any (bytes_eq name) earlier ≡ false in
        subst P same is

name_of : Result Named DiagramFault → Name → Name
name_of (Ok n) other = n.name
name_of (Err e) other = other

-- and so is that of a contract
pub named_of-new : (layout : Layout) (earlier : List Named) (path : List ℕ) (d : Data) (named : Named) → named_of layout earlier path d ≡ Ok named
    → list_any (bytes_eq named.name) (names_of earlier) ≡ false
unfolding name_of
named_of-new layout earlier path d named is =
    let seen = both_taken (needed (Shape path) (as_object d)) _ named is in
    let name = both_taken (new_name path (names_of earlier) d) _ named seen.2 in
    let made = both_taken (contract_of path layout d) _ named name.2 in
    let same : name.0 ≡ named.name = ap (λ r. name_of r name.0) made.2 in
    let P : Name → Type 0 = λ name. list_any (bytes_eq name) (names_of earlier) ≡ false in
    subst P same (new_name-new path (names_of earlier) d name.0 name.1)

-- and that of a part
pub part_of-new : (contracts earlier : List Named) (path : List ℕ) (d : Data) (named : Named) → part_of contracts earlier path d ≡ Ok named
    → list_any (bytes_eq named.name) (names_of (contracts ++ earlier)) ≡ false
unfolding name_of
part_of-new contracts earlier path d named is =
    let seen = both_taken (needed (Shape path) (as_object d)) _ named is in
    let name = both_taken (new_name path (names_of (contracts ++ earlier)) d) _ named seen.2 in
    let origin = both_taken (origin_of contracts path d) _ named name.2 in
    let made = both_taken (wired_in (member_path path (codes "wires")) origin.0 (get (codes "wires") d)) _ named origin.2 in
    let same : name.0 ≡ named.name = ap (λ r. name_of r name.0) made.2 in
    let P : Name → Type 0 = λ name. list_any (bytes_eq name) (names_of (contracts ++ earlier)) ≡ false in
    subst P same (new_name-new path (names_of (contracts ++ earlier)) d name.0 name.1)

names_push : (contracts : List Named) (named : Named) → names_of (contracts ++ named ∷ []) ≡ names_of contracts ++ named.name ∷ []
names_push contracts named = map-append (λ (n : Named). n.name) contracts (named ∷ [])

distinct_push : (contracts : List Named) (named : Named) → IsDistinct bytes_eq (names_of contracts)
    → list_any (bytes_eq named.name) (names_of contracts) ≡ false → IsDistinct bytes_eq (names_of (contracts ++ named ∷ []))
distinct_push contracts named distinct new =
    subst (IsDistinct bytes_eq) (sym (names_push contracts named)) (IsDistinct-push nat_list_eq_equiv (names_of contracts) named.name distinct new)

-- the names of the contracts of a list are distinct
pub with_contracts-distinct : (layout : Layout) (path : List ℕ) (contracts : List Named) (items : Items) (all : List Named)
    → IsDistinct bytes_eq (names_of contracts) → with_contracts layout path contracts items ≡ Ok all → IsDistinct bytes_eq (names_of all)
with_contracts-distinct layout path contracts no_items all distinct is =
    let same : contracts ≡ all = cc in subst (λ cs. IsDistinct bytes_eq (names_of cs)) same distinct
with_contracts-distinct layout path contracts (item d ds) all distinct is =
    let one = both_taken (named_of layout contracts (item_path path (length contracts)) d)
    (λ named. with_contracts layout path (contracts ++ named ∷ []) ds) all is in
    with_contracts-distinct layout path (contracts ++ one.0 ∷ []) ds all
    (distinct_push contracts one.0 distinct (named_of-new layout contracts (item_path path (length contracts)) d one.0 one.1)) one.2

-- and so are those of the contracts and the parts
pub with_parts-distinct : (contracts : List Named) (path : List ℕ) (parts : List Named) (items : Items) (all : List Named)
    → IsDistinct bytes_eq (names_of (contracts ++ parts)) → with_parts contracts path parts items ≡ Ok all → IsDistinct bytes_eq (names_of (contracts ++ all))
with_parts-distinct contracts path parts no_items all distinct is =
    let same : parts ≡ all = cc in subst (λ ps. IsDistinct bytes_eq (names_of (contracts ++ ps))) same distinct
with_parts-distinct contracts path parts (item d ds) all distinct is =
    let one = both_taken (part_of contracts parts (item_path path (length parts)) d) (λ named. with_parts contracts path (parts ++ named ∷ []) ds) all is in
    with_parts-distinct contracts path (parts ++ one.0 ∷ []) ds all
    (subst (λ ns. IsDistinct bytes_eq (names_of ns)) (append_assoc contracts parts (one.0 ∷ []))
    (distinct_push (contracts ++ parts) one.0 distinct (part_of-new contracts parts (item_path path (length parts)) d one.0 one.1))) one.2

-- a name is among the contracts and parts where it is among the ones or the others
pub has_either : (name : Name) (contracts parts : List Named)
    → list_any (bytes_eq name) (names_of (contracts ++ parts)) ≡ (list_any (bytes_eq name) (names_of contracts) || list_any (bytes_eq name) (names_of parts))
has_either name [] parts = refl
has_either name (c ∷ cs) parts = ap (λ b. bytes_eq name c.name || b) (has_either name cs parts) ∙ sym (or_assoc (bytes_eq name c.name) _ _)
  where
    or_assoc : (a b c : Bool) → ((a || b) || c) ≡ (a || (b || c))
    or_assoc true b c = refl
    or_assoc false b c = refl

-- a name that none of both has is none of the second's
pub not_second : (name : Name) (contracts parts : List Named) → list_any (bytes_eq name) (names_of (contracts ++ parts)) ≡ false
    → list_any (bytes_eq name) (names_of parts) ≡ false
not_second name contracts parts none = by (list_any (bytes_eq name) (names_of contracts)) _ (sym (has_either name contracts parts) ∙ none)
  where
    by : (a b : Bool) → (a || b) ≡ false → b ≡ false
    by true b e = cc
    by false b e = e

-- the names of what was read are distinct
pub contracts_distinct : (layout : Layout) (path : List ℕ) (items : Items) (free : DiagramFault) (result : Result (List Named) DiagramFault)
    → IsAnswer free (with_contracts layout path [] items) result → IfOk result (λ all. IsDistinct bytes_eq (names_of all))
contracts_distinct layout path items free (Ok all) is = with_contracts-distinct layout path [] items all (distinct-nil bytes_eq) is
contracts_distinct layout path items free (Err e) is = tt

pub parts_distinct : (contracts : List Named) (path : List ℕ) (items : Items) (free : DiagramFault) (result : Result (List Named) DiagramFault)
    → IsAnswer free (with_parts contracts path [] items) result
    → IfOk result (λ all. IsDistinct bytes_eq (names_of contracts) → IsDistinct bytes_eq (names_of (contracts ++ all)))
parts_distinct contracts path items free (Ok all) is = λ distinct.
    with_parts-distinct contracts path [] items all (subst (λ cs. IsDistinct bytes_eq (names_of cs)) (sym (append-nil contracts)) distinct) is
parts_distinct contracts path items free (Err e) is = tt
