-- Contracts with their ports renamed.
use Rattle.std.proofs.Common.{◌≡◌, ℕ, Bool, true, false, ◌||◌, cond, List, [], ◌∷◌, ◌++◌, map, take, drop, length, refl, ap, ◌∙◌, Ok, Err}
use Rattle.std.specs.List.{list_any, IsDistinct}
use Rattle.std.specs.Str.{bytes_eq}
use Rattle.std.proofs.lemmas.Map.Keys.{IsDistinct-head, IsDistinct-tail}
use Rattle.pa_math.proofs.Unions.{list_any-none, none-list_any}
use Rattle.pa_meaning.specs.Contracts.{Name, Contract, ports}
use Rattle.pa_names.specs.Names.{renamed, all_renamed}
use Rattle.pa_json.specs.Diagram.{has_repeat, wired, wired_of}
use Rattle.pa_json.specs.declared.fault.DiagramFault.TheVariants.{Wire}
use Rattle.pa_json.specs.declared.fault.WireKind.TheVariants.{Twice}

distinct_once : (names : List Name) → IsDistinct bytes_eq names → has_repeat names ≡ false
distinct_once [] distinct = refl
distinct_once (name ∷ names) distinct =
    ap (λ b. b || has_repeat names) (list_any-none (bytes_eq name) names (IsDistinct-head bytes_eq name names distinct))
    ∙ distinct_once names (IsDistinct-tail bytes_eq name names distinct)

neither : (a b : Bool) → (a || b) ≡ false → (a ≡ false) × (b ≡ false)
neither true b e = cc
neither false b e = (refl, e)

pub once_distinct : (names : List Name) → has_repeat names ≡ false → IsDistinct bytes_eq names
unfolding IsDistinct
once_distinct [] once = tt
once_distinct (name ∷ names) once =
    let both = neither (list_any (bytes_eq name) names) (has_repeat names) once in
    (none-list_any (bytes_eq name) names both.0, once_distinct names both.1)

pub wired_once : (path : List ℕ) (c : Contract) (wires : List (Name × Name)) → IsDistinct bytes_eq (all_renamed wires (ports c))
    → wired_of path c wires ≡ Ok (wired wires c)
wired_once path c wires distinct = ap (λ b. cond b (Err (Wire path Twice)) (Ok (wired wires c))) (distinct_once (all_renamed wires (ports c)) distinct)

pub wired_twice : (path : List ℕ) (c : Contract) (wires : List (Name × Name)) → ¬ IsDistinct bytes_eq (all_renamed wires (ports c))
    → wired_of path c wires ≡ Err (Wire path Twice)
wired_twice path c wires repeats = ap (λ b. cond b (Err (Wire path Twice)) (Ok (wired wires c))) (by (has_repeat (all_renamed wires (ports c))) refl)
  where
    by : (b : Bool) → has_repeat (all_renamed wires (ports c)) ≡ b → has_repeat (all_renamed wires (ports c)) ≡ true
    by true e = e
    by false e = absurd (repeats (once_distinct (all_renamed wires (ports c)) e))

front_mapped : {A B : Type 0} (f : A → B) (xs ys : List A) → take (length xs) (map f (xs ++ ys)) ≡ map f xs
front_mapped f [] ys = refl
front_mapped f (x ∷ xs) ys = ap (λ l. f x ∷ l) (front_mapped f xs ys)

rest_mapped : {A B : Type 0} (f : A → B) (xs ys : List A) → drop (length xs) (map f (xs ++ ys)) ≡ map f ys
rest_mapped f [] ys = refl
rest_mapped f (x ∷ xs) ys = rest_mapped f xs ys

-- the contract over the renamed ports
pub wired_is : (c made : Contract) (wires : List (Name × Name)) (names others : List Name) → names ≡ ports c → others ≡ all_renamed wires names
    → made ≡ (record {
      inputs = take (length c.inputs) others;
      outputs = drop (length c.inputs) others;
      assumptions = c.assumptions;
      guarantees = c.guarantees;
    }) → made ≡ wired wires c
wired_is c made wires names others are new is =
    let all : others ≡ all_renamed wires (ports c) = new ∙ ap (all_renamed wires) are in
    is
    ∙ ap (λ ns. let k : Contract = record {
      inputs = take (length c.inputs) ns;
      outputs = drop (length c.inputs) ns;
      assumptions = c.assumptions;
      guarantees = c.guarantees;
    } in k) all
    ∙ (λ i. record {
      inputs = front_mapped (renamed wires) c.inputs c.outputs i;
      outputs = rest_mapped (renamed wires) c.inputs c.outputs i;
      assumptions = c.assumptions;
      guarantees = c.guarantees;
    })
