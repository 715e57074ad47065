-- An upgraded tree has no floats and nests a few levels, so that its text is known and reads back.
use Rattle.std.proofs.Common.{◌≡◌, ℕ, ℤ, pos, suc, ◌≤◌, Bool, true, false, ◌||◌, cond, List, [], ◌∷◌, codes, arith, refl, sym, ap}
use Rattle.std.proofs.Common.{◌∙◌, subst}
use Rattle.std.proofs.Common.{Option, Some, None, option_and_then, option_map, Ordering, Less, Equal, Greater}
use Rattle.std.specs.Cmp.Lexicographic.{slice_cmp}
use Rattle.std.specs.Ordering.{nat_cmp, match_ordering}
use Rattle.serde_json.specs.Data.{Num, unsigned, negative, float, Data, null, boolean, number, string, array, object, Items, no_items, item, Members}
use Rattle.serde_json.specs.Data.{no_members, member, put, depth, items_depth, members_depth}
use Rattle.serde_json.specs.Find.{get, as_str, as_array, as_object, as_i64}
use Rattle.serde_json.specs.Written.{has_float, items_have_float, members_have_float}
use Rattle.pa_meaning.specs.Contracts.{Name, Contract, Named, ports}
use Rattle.pa_contract.specs.Nominal.{Nominal}
use Rattle.pa_names.specs.Names.{is_name}
use Rattle.pa_json.specs.Diagram.{port_in, name_in, wire_of}
use Rattle.pa_json.specs.Diagrams.{Diagram}
use Rattle.pa_json.specs.Described.{IsNamed, IsWired, IsPart, AreParts, Describes}
use Rattle.pa_json.specs.Found.{Are, IsList, IsText, IsName, AreValues}
use Rattle.pa_json.specs.Layouts.{Layout}
use Rattle.pa_json.specs.Members.{collected}
use Rattle.pa_json.specs.Upgrades.{with_member, picked, keys_of, plain, each_plain, plain_list, second_members, upgraded_members, upgraded}
use Rattle.pa_json.specs.Values.{fraction_of, named_fraction}
use Rattle.pa_json.specs.declared.upgrading.Item.{Item}
use Rattle.pa_json.specs.declared.upgrading.Item.TheVariants as of
use Rattle.pa_json.proofs.Fractions.{pairs_are}

-- ---- the word

-- no floats, and at most so many levels
abbrev pub IsFlat : ℕ → Data → Type 0
IsFlat n d = (has_float d ≡ false) × (depth d ≤ n)

abbrev AreFlat : ℕ → Items → Type 0
AreFlat n ds = (items_have_float ds ≡ false) × (items_depth ds ≤ n)

abbrev HasFlat : ℕ → Members → Type 0
HasFlat n ms = (members_have_float ms ≡ false) × (members_depth ms ≤ n)

-- what is found is flat
abbrev FoundFlat : ℕ → Option Data → Type 0
FoundFlat n found = (d : Data) → found ≡ Some d → IsFlat n d

or_false : (a b : Bool) → a ≡ false → b ≡ false → (a || b) ≡ false
or_false a b first second = ap (λ a. a || b) first ∙ second

more_flat : (m n : ℕ) (found : Option Data) → m ≤ n → FoundFlat m found → FoundFlat n found
more_flat m n found fits flat = λ d is. let one = flat d is in (one.0, omega (arith, one.1))

item_flat : (n : ℕ) (d : Data) (ds : Items) → IsFlat n d → AreFlat n ds → AreFlat n (item d ds)
item_flat n d ds first rest = (or_false (has_float d) (items_have_float ds) first.0 rest.0, omega (arith, first.1, rest.1))

member_flat : (n : ℕ) (k : List ℕ) (d : Data) (ms : Members) → IsFlat n d → HasFlat n ms → HasFlat n (member k d ms)
member_flat n k d ms first rest = (or_false (has_float d) (members_have_float ms) first.0 rest.0, omega (arith, first.1, rest.1))

array_flat : (n : ℕ) (ds : Items) → AreFlat n ds → IsFlat (suc n) (array ds)
array_flat n ds flat = (flat.0, omega (arith, flat.1))

object_flat : (n : ℕ) (ms : Members) → HasFlat n ms → IsFlat (suc n) (object ms)
object_flat n ms flat = (flat.0, omega (arith, flat.1))

parts_flat : (n : ℕ) (k : List ℕ) (d : Data) (ms : Members) → HasFlat n (member k d ms) → IsFlat n d × HasFlat n ms
parts_flat n k d ms flat = by (has_float d) refl flat.0
  where
    by : (b : Bool) → has_float d ≡ b → (b || members_have_float ms) ≡ false → IsFlat n d × HasFlat n ms
    by true is e = absurd (cc)
    by false is e = ((is, omega (arith, flat.1)), (e, omega (arith, flat.1)))

choice_flat : (n : ℕ) (o : Ordering) (a b c : Members) → HasFlat n a → HasFlat n b → HasFlat n c → HasFlat n (match_ordering o a b c)
choice_flat n Less a b c first second third = first
choice_flat n Equal a b c first second third = second
choice_flat n Greater a b c first second third = third

put_flat : (n : ℕ) (k : List ℕ) (d : Data) (ms : Members) → IsFlat n d → HasFlat n ms → HasFlat n (put k d ms)
put_flat n k d no_members flat rest = member_flat n k d no_members flat (refl, omega arith)
put_flat n k d (member l e ms) flat rest =
    let both = parts_flat n l e ms rest in
    choice_flat n (slice_cmp nat_cmp k l) (member k d (member l e ms)) (member l d ms) (member l e (put k d ms)) (member_flat n k d (member l e ms) flat rest)
    (member_flat n l d ms flat both.1) (member_flat n l e (put k d ms) both.0 (put_flat n k d ms flat both.1))

with_flat : (n : ℕ) (k : List ℕ) (found : Option Data) (ms : Members) → FoundFlat n found → HasFlat n ms → HasFlat n (with_member k found ms)
with_flat n k None ms flat rest = rest
with_flat n k (Some d) ms flat rest = put_flat n k d ms (flat d refl) rest

-- ---- what is described is flat

text_flat : (d : Data) (text : List ℕ) → as_str d ≡ Some text → IsFlat 0 d
text_flat null text is = absurd (cc)
text_flat (boolean b) text is = absurd (cc)
text_flat (number n) text is = absurd (cc)
text_flat (string s) text is = (refl, omega arith)
text_flat (array ds) text is = absurd (cc)
text_flat (object ms) text is = absurd (cc)

found_text_flat : (found : Option Data) (text : List ℕ) → IsText found text → FoundFlat 0 found
found_text_flat found text is = λ d there. text_flat d text (sym (ap (option_and_then as_str) there) ∙ is)

are_flat : {X : Type 0} (Is : Data → X → Type 0) (n : ℕ) → ((d : Data) (x : X) → Is d x → IsFlat n d) → (items : Items) (xs : List X) → Are Is items xs
    → AreFlat n items
are_flat Is n each no_items [] are = (refl, omega arith)
are_flat Is n each no_items (x ∷ xs) are = absurd are
are_flat Is n each (item d ds) [] are = absurd are
are_flat Is n each (item d ds) (x ∷ xs) are = item_flat n d ds (each d x are.0) (are_flat Is n each ds xs are.1)

list_flat : {X : Type 0} (Is : Data → X → Type 0) (n : ℕ) → ((d : Data) (x : X) → Is d x → IsFlat n d) → (found : Option Data) (xs : List X)
    → IsList Is found xs
    → FoundFlat (suc n) found
list_flat Is n each found xs (items, is, are) = λ d there. by d (sym (ap (option_and_then as_array) there) ∙ is)
  where
    by : (d : Data) → as_array d ≡ Some items → IsFlat (suc n) d
    by null e = absurd (cc)
    by (boolean b) e = absurd (cc)
    by (number m) e = absurd (cc)
    by (string s) e = absurd (cc)
    by (object ms) e = absurd (cc)
    by (array ds) e =
        let same : items ≡ ds = cc in
        array_flat n ds (subst (AreFlat n) same (are_flat Is n each items xs are))

collected_flat : {X : Type 0} (f : List ℕ → Data → Option X) → ((key : List ℕ) (d : Data) (x : X) → f key d ≡ Some x → IsFlat 0 d)
    → (ms : Members) (xs : List X)
    → collected f ms ≡ Some xs → HasFlat 0 ms
collected_flat {X} f each no_members xs is = (refl, omega arith)
collected_flat {X} f each (member key d ms) xs is = by (f key d) (collected f ms) refl refl is (collected_flat f each ms)
  where
    by : (one : Option X) (rest : Option (List X)) → f key d ≡ one → collected f ms ≡ rest
        → option_and_then (λ x. option_map (λ xs. x ∷ xs) rest) one ≡ Some xs → ((xs : List X) → collected f ms ≡ Some xs → HasFlat 0 ms)
        → HasFlat 0 (member key d ms)
    by None rest first others e known = absurd (cc)
    by (Some x) None first others e known = absurd (cc)
    by (Some x) (Some xs) first others e known = member_flat 0 key d ms (each key d x first) (known xs others)

-- an object whose members are collected
object_found_flat : {X : Type 0} (f : List ℕ → Data → Option X) → ((key : List ℕ) (d : Data) (x : X) → f key d ≡ Some x → IsFlat 0 d) → (d : Data) (xs : List X)
    → option_and_then (collected f) (as_object d) ≡ Some xs → IsFlat 1 d
object_found_flat f each null xs is = absurd (cc)
object_found_flat f each (boolean b) xs is = absurd (cc)
object_found_flat f each (number n) xs is = absurd (cc)
object_found_flat f each (string s) xs is = absurd (cc)
object_found_flat f each (array ds) xs is = absurd (cc)
object_found_flat f each (object ms) xs is = object_flat 0 ms (collected_flat f each ms xs is)

whole_flat : (n : Num) (z : ℤ) → as_i64 n ≡ Some z → IsFlat 0 (number n)
whole_flat (unsigned n) z is = (refl, omega arith)
whole_flat (negative m) z is = (refl, omega arith)
whole_flat (float x) z is = absurd (cc)

fraction_flat : (d : Data) (value : ℤ × ℤ) → fraction_of d ≡ Some value → IsFlat 0 d
fraction_flat null value is = absurd (cc)
fraction_flat (boolean b) value is = absurd (cc)
fraction_flat (number n) value is = by (as_i64 n) refl is
  where
    by : (z : Option ℤ) → as_i64 n ≡ z → option_map (λ z. (z, pos 1)) z ≡ Some value → IsFlat 0 (number n)
    by None first e = absurd (cc)
    by (Some z) first e = whole_flat n z first
fraction_flat (string text) value is = (refl, omega arith)
fraction_flat (array ds) value is = absurd (cc)
fraction_flat (object ms) value is = absurd (cc)

named_flat : (key : List ℕ) (d : Data) (pair : Name × (ℤ × ℤ)) → named_fraction key d ≡ Some pair → IsFlat 0 d
named_flat key d pair is = by (is_name key) (fraction_of d) refl is
  where
    by : (b : Bool) (value : Option (ℤ × ℤ)) → fraction_of d ≡ value → cond b (option_map (λ value. (key, value)) value) None ≡ Some pair → IsFlat 0 d
    by false value first e = absurd (cc)
    by true None first e = absurd (cc)
    by true (Some value) first e = fraction_flat d value first

values_flat : (found : Option Data) (values : Nominal) → AreValues found values → FoundFlat 1 found
values_flat None values are = λ d there. absurd (cc)
values_flat (Some e) values (ms, held, pairs, is, few, same) = λ d there.
    let here : e ≡ d = cc in
    subst (IsFlat 1) here (object_found_flat named_fraction named_flat e pairs (ap (option_and_then (collected named_fraction)) held ∙ pairs_are ms pairs is))

wire_flat : (names : List Name) (key : List ℕ) (d : Data) (wire : Name × Name) → wire_of names key d ≡ Some wire → IsFlat 0 d
wire_flat names key d wire is = by (port_in names key) (name_in d) refl is
  where
    text : (text : Option (List ℕ)) → as_str d ≡ text → (name : Name) → option_and_then (λ text. cond (is_name text) (Some text) None) text ≡ Some name
        → IsFlat 0 d
    text None first name e = absurd (cc)
    text (Some s) first name e = text_flat d s first

    by : (port name : Option Name) → name_in d ≡ name → option_and_then (λ port. option_map (λ name. (port, name)) name) port ≡ Some wire → IsFlat 0 d
    by None name first e = absurd (cc)
    by (Some port) None first e = absurd (cc)
    by (Some port) (Some name) first e = text (as_str d) refl name first

wires_flat : (origin : Contract) (found : Option Data) (c : Contract) → IsWired origin found c → FoundFlat 1 found
wires_flat origin None c is = λ d there. absurd (cc)
wires_flat origin (Some e) c (wires, there, distinct, is) = λ d here.
    let same : e ≡ d = cc in
    subst (IsFlat 1) same (object_found_flat (wire_of (ports origin)) (wire_flat (ports origin)) e wires there)

-- ---- what is written is flat

names_flat : (found : Option Data) (names : List Name) → IsList (λ d name. IsName (Some d) name) found names → FoundFlat 1 found
names_flat found names are = list_flat (λ d name. IsName (Some d) name) 0 (λ d name is. text_flat d name is.0) found names are

texts_flat : (found : Option Data) (texts : List (List ℕ)) → IsList (λ d text. IsText (Some d) text) found texts → FoundFlat 1 found
texts_flat found texts are = list_flat (λ d text. IsText (Some d) text) 0 text_flat found texts are

contract_flat : (layout : Layout) (d : Data) (named : Named) → IsNamed layout d named → IsFlat 2 (plain of.Contract d)
contract_flat layout d named k =
    let c = k.contract in
    object_flat 1 (picked d (keys_of of.Contract))
    (with_flat 1 (codes "outputs") (get (codes "outputs") d) _ (names_flat (get (codes "outputs") d) named.contract.outputs c.outputs)
    (with_flat 1 (codes "name") (get (codes "name") d) _ (more_flat 0 1 (get (codes "name") d) (omega arith)
    (found_text_flat (get (codes "name") d) named.name k.name.0))
    (with_flat 1 (codes "inputs") (get (codes "inputs") d) _ (names_flat (get (codes "inputs") d) named.contract.inputs c.inputs)
    (with_flat 1 (codes "guarantees") (get (codes "guarantees") d) _ (texts_flat (get (codes "guarantees") d) c.guarantees.0 c.guarantees.1)
    (with_flat 1 (codes "assumptions") (get (codes "assumptions") d) no_members (texts_flat (get (codes "assumptions") d) c.assumptions.0 c.assumptions.1)
    (refl, omega arith))))))

part_flat : (contracts : List Named) (d : Data) (named : Named) → IsPart contracts d named → IsFlat 2 (plain of.Part d)
part_flat contracts d named k =
    object_flat 1 (picked d (keys_of of.Part))
    (with_flat 1 (codes "wires") (get (codes "wires") d) _ (wires_flat k.origin (get (codes "wires") d) named.contract k.is_wired)
    (with_flat 1 (codes "name") (get (codes "name") d) _ (more_flat 0 1 (get (codes "name") d) (omega arith)
    (found_text_flat (get (codes "name") d) named.name k.name.0))
    (with_flat 1 (codes "contract") (get (codes "contract") d) no_members
    (more_flat 0 1 (get (codes "contract") d) (omega arith) (found_text_flat (get (codes "contract") d) k.of k.is_of.0)) (refl, omega arith))))

each_flat : (o : Item) {X : Type 0} (Is : Data → X → Type 0) → ((d : Data) (x : X) → Is d x → IsFlat 2 (plain o d)) → (items : Items) (xs : List X)
    → Are Is items xs
    → AreFlat 2 (each_plain o items)
each_flat o Is each no_items [] are = (refl, omega arith)
each_flat o Is each no_items (x ∷ xs) are = absurd are
each_flat o Is each (item d ds) [] are = absurd are
each_flat o Is each (item d ds) (x ∷ xs) are = item_flat 2 (plain o d) (each_plain o ds) (each d x are.0) (each_flat o Is each ds xs are.1)

plain_list_flat : (o : Item) {X : Type 0} (Is : Data → X → Type 0) → ((d : Data) (x : X) → Is d x → IsFlat 2 (plain o d)) → (found : Option Data) (xs : List X)
    → IsList Is found xs → FoundFlat 3 (plain_list o found)
plain_list_flat o Is each found xs (items, is, are) = λ d there.
    let known : plain_list o found ≡ Some (array (each_plain o items)) = ap (option_map (λ items. array (each_plain o items))) is in
    let same : array (each_plain o items) ≡ d = cc in
    subst (IsFlat 3) same (array_flat 2 (each_plain o items) (each_flat o Is each items xs are))

parts_list_flat : (contracts : List Named) (found : Option Data) (parts : List Named) → AreParts contracts found parts → FoundFlat 3 (plain_list of.Part found)
parts_list_flat contracts None parts are = λ d there. absurd (cc)
parts_list_flat contracts (Some d) parts are = plain_list_flat of.Part (IsPart contracts) (part_flat contracts) (Some d) parts are

-- the tree that is written for a tree that describes a diagram
pub upgraded_flat : (d : Data) (g : Diagram) → Describes d g → IsFlat 4 (upgraded d)
upgraded_flat d g k =
    object_flat 3 (upgraded_members d)
    (with_flat 3 (codes "nominal") (get (codes "nominal") d) _
    (more_flat 1 3 (get (codes "nominal") d) (omega arith) (values_flat (get (codes "nominal") d) g.nominal k.nominal))
    (with_flat 3 (codes "parts") (plain_list of.Part (get (codes "parts") d)) _ (parts_list_flat g.contracts (get (codes "parts") d) g.parts k.parts)
    (with_flat 3 (codes "contracts") (plain_list of.Contract (get (codes "contracts") d)) second_members
    (plain_list_flat of.Contract (IsNamed k.layout) (contract_flat k.layout) (get (codes "contracts") d) g.contracts k.contracts)
    (refl, omega arith))))
