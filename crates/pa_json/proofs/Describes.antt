-- A tree is read as a diagram exactly where it describes it: contracts, parts and the rest, in both directions.
use Rattle.std.proofs.Common.{◌≡◌, inl, inr, ℕ, suc, ◌+◌, ◌≤◌, ◌==◌, Bool, true, false, ◌&&◌, cond, List, [], ◌∷◌, ◌++◌, map, take, drop, length, codes}
use Rattle.std.proofs.Common.{arith, refl, sym, ap, ◌∙◌, subst}
use Rattle.std.proofs.Common.{Option, Some, None, option_and_then, option_map, is_some, Result, Ok, Err, IfOk}
use Rattle.std.specs.Prelude.{nat_lt}
use Rattle.std.specs.List.{list_any, IsDistinct, AllByRecursion}
use Rattle.std.specs.Str.{bytes_eq}
use Rattle.std.proofs.lemmas.Bool.{ltb-false, le-ltb, eqb-true}
use Rattle.std.proofs.lemmas.List.{append_assoc, append-nil, map-append}
use Rattle.std.proofs.Math.Seq.{take-append_seam, drop-append_seam}
use Rattle.serde_json.specs.Data.{Data, null, boolean, number, string, array, object, Items, no_items, item, Members, no_members, member}
use Rattle.serde_json.specs.Events.{items_len}
use Rattle.serde_json.specs.Find.{get, as_str, as_array, as_object, as_u64, as_number}
use Rattle.pa_math.specs.Answers.{and_then, needed, given, IsAnswer}
use Rattle.pa_math.specs.Lists.{AreApart, without_repeats}
use Rattle.pa_math.proofs.Unions.{distinct-nil}
use Rattle.pa_meaning.specs.Rows.{Row}
use Rattle.pa_meaning.specs.Contracts.{Name, Contract, Named, ports}
use Rattle.pa_names.specs.Names.{is_name, all_renamed, most_names}
use Rattle.pa_row.specs.Same.{same_row}
use Rattle.pa_contract.specs.Make.{first_columns}
use Rattle.pa_contract.specs.Merge.{row_count}
use Rattle.pa_contract.specs.Named.{contract_named}
use Rattle.pa_contract.specs.Nominal.{Nominal}
use Rattle.pa_json.specs.Diagram.{layout_in, layout_of, scope_of, list_of, with_ports, ports_of, all_ports, rows_of, limited, contract_over, contract_of}
use Rattle.pa_json.specs.Diagram.{new_name}
use Rattle.pa_json.specs.Diagram.{named_of, with_contracts, few_items, contracts_of, name_in, all_named, wire_of, wired, wired_of, wired_by, wired_in}
use Rattle.pa_json.specs.Diagram.{contract_at, origin_of, part_of, with_parts, parts_of, with_nominal, with_layout, diagram_in, diagram_of, name_text}
use Rattle.pa_json.specs.Diagram.{has_repeat}
use Rattle.pa_json.specs.Diagrams.{Diagram, names_of}
use Rattle.pa_json.specs.Described.{IsLayout, IsContract, IsNamed, IsWired, IsPart, AreParts, Describes, IsDescribed}
use Rattle.pa_json.specs.Found.{Are, IsList, IsText, IsName, AreValues, version_of}
use Rattle.pa_json.specs.Layouts.{Layout}
use Rattle.pa_json.specs.Members.{collected}
use Rattle.pa_json.specs.Paths.{member_path, item_path}
use Rattle.pa_json.specs.Tree.{tree_of}
use Rattle.pa_json.specs.Values.{no_values, named_fraction, values_from, pairs_of, values_of}
use Rattle.pa_json.specs.declared.limits.TheConstants.{MOST_DIAGRAM_BYTES, MOST_ITEMS, MOST_PORTS_FIRST, MOST_PORTS_SECOND, MOST_CONTRACT_ROWS}
use Rattle.pa_json.specs.declared.fault.DiagramFault.{DiagramFault}
use Rattle.pa_json.specs.declared.fault.DiagramFault.TheVariants.{TooLong, Json, Version, Shape, Wire, Limit}
use Rattle.pa_json.specs.declared.fault.WireKind.TheVariants.{NoContract, NoPort, Twice}
use Rattle.pa_json.proofs.Fractions.{pairs_found, pairs_are}
use Rattle.pa_json.proofs.Names.{with_contracts-distinct, with_parts-distinct}
use Rattle.pa_json.proofs.Steps.{both_taken}
use Rattle.pa_json.proofs.Wires.{wired_once, once_distinct}
use Rattle.pa_json.proofs.KeptRows.{kept_is, kept_was}
use Rattle.pa_json.proofs.Says.{joined, was_there, not_refused, passed, name_found, name_is, not_before, ports_found, ports_are, said_found, said_is}

-- ---- what is there

-- what has a member is an object
object_there : (key : List ℕ) (d found : Data) → get key d ≡ Some found → (ms : Members) × (as_object d ≡ Some ms)
object_there key null found is = absurd (cc)
object_there key (boolean b) found is = absurd (cc)
object_there key (number n) found is = absurd (cc)
object_there key (string text) found is = absurd (cc)
object_there key (array ds) found is = absurd (cc)
object_there key (object ms) found is = (ms, refl)

some_found : {X Y : Type 0} (f : Y → Option X) (found : Option Y) (x : X) → option_and_then f found ≡ Some x
    → (y : Y) × (found ≡ Some y) × (f y ≡ Some x)
some_found f None x is = absurd (cc)
some_found f (Some d) x is = (d, refl, is)

-- what has a text at a key is an object
object_of : (key : List ℕ) (d : Data) (name : List ℕ) → IsText (get key d) name → (ms : Members) × (as_object d ≡ Some ms)
object_of key d name is = let found = some_found as_str (get key d) name is in object_there key d found.0 found.1

as_many : {X : Type 0} (Is : Data → X → Type 0) (items : Items) (xs : List X) → Are Is items xs → items_len items ≡ length xs
as_many Is no_items [] are = refl
as_many Is no_items (x ∷ xs) are = absurd are
as_many Is (item d ds) [] are = absurd are
as_many Is (item d ds) (x ∷ xs) are = ap suc (as_many Is ds xs are.1)

-- the items of a list that is not too long
few_found : (path : List ℕ) (d : Data) (items : Items) → few_items path d ≡ Ok items → (as_array d ≡ Some items) × (items_len items ≤ MOST_ITEMS)
few_found path d items is =
    let list = both_taken (needed (Shape path) (as_array d)) _ items is in
    let few = not_refused (nat_lt MOST_ITEMS (items_len list.0)) (Limit path) list.0 items list.2 in (
      was_there (Shape path) (as_array d) list.0 list.1 ∙ ap Some few.1,
      subst (λ ds. items_len ds ≤ MOST_ITEMS) few.1
          (ltb-false MOST_ITEMS (items_len list.0) few.0),
    )

few_is : (path : List ℕ) (d : Data) (items : Items) → as_array d ≡ Some items → items_len items ≤ MOST_ITEMS → few_items path d ≡ Ok items
few_is path d items is few =
    ap (λ found. and_then (needed (Shape path) found) (λ items. cond (nat_lt MOST_ITEMS (items_len items)) (Err (Limit path)) (Ok items))) is
    ∙ passed (nat_lt MOST_ITEMS (items_len items)) (Limit path) items (le-ltb MOST_ITEMS (items_len items) few)

-- ---- values

values_found : (path : List ℕ) (found : Option Data) (values : Nominal) → values_of path found ≡ Ok values → AreValues found values
values_found path None values is = cc
values_found path (Some d) values is =
    let pairs = both_taken (pairs_of path d) (λ pairs. cond (nat_lt most_names (length pairs)) (Err (Limit path)) (Ok (values_from pairs))) values is in
    let few = not_refused (nat_lt most_names (length pairs.0)) (Limit path) (values_from pairs.0) values pairs.2 in
    let held = some_found (collected named_fraction) (as_object d) pairs.0
    (was_there (Shape path) (option_and_then (collected named_fraction) (as_object d)) pairs.0 pairs.1) in (
      held.0,
      held.1,
      pairs.0,
      pairs_found held.0 pairs.0 held.2,
      ltb-false most_names (length pairs.0) few.0,
      sym few.1,
    )

values_are : (path : List ℕ) (found : Option Data) (values : Nominal) → AreValues found values → values_of path found ≡ Ok values
values_are path None values are = ap Ok (sym are)
values_are path (Some d) values (ms, held, pairs, there, few, is) =
    joined (pairs_of path d) (λ pairs. cond (nat_lt most_names (length pairs)) (Err (Limit path)) (Ok (values_from pairs))) pairs values
    (ap (λ found. needed (Shape path) (option_and_then (collected named_fraction) found)) held ∙ ap (needed (Shape path)) (pairs_are ms pairs there))
    (passed (nat_lt most_names (length pairs)) (Limit path) (values_from pairs) (le-ltb most_names (length pairs) few) ∙ ap Ok (sym is))

-- ---- versions

layout_found : (d : Data) (layout : Layout) → layout_of d ≡ Ok layout → IsLayout d layout
layout_found d layout is =
    let version = both_taken (needed Version (version_of d)) (layout_in d) layout is in
    by version.0 (version.0 == 1) (version.0 == 2) refl refl (was_there Version (version_of d) version.0 version.1) version.2
  where
    by : (v : ℕ) (one two : Bool) → (v == 1) ≡ one → (v == 2) ≡ two → version_of d ≡ Some v
        → cond one (Ok (record { constants = no_values; most_ports = MOST_PORTS_FIRST }))
        (cond two (and_then (values_of (codes "/constants") (get (codes "constants") d))
        (λ constants. Ok (record { constants = constants; most_ports = MOST_PORTS_SECOND })))
        (Err Version)) ≡ Ok layout → IsLayout d layout
    by v true two first second there e = inl (there ∙ ap Some (eqb-true v 1 first), cc)
    by v false true first second there e =
        let values = both_taken (values_of (codes "/constants") (get (codes "constants") d))
        (λ constants. Ok (record { constants = constants; most_ports = MOST_PORTS_SECOND })) layout e in
        let same : (record { constants = values.0; most_ports = MOST_PORTS_SECOND }) ≡ layout = cc in
        inr (
          there ∙ ap Some (eqb-true v 2 second),
          subst (AreValues (get (codes "constants") d)) (ap (λ (l : Layout). l.constants) same)
              (values_found (codes "/constants") (get (codes "constants") d) values.0 values.1),
          sym (ap (λ (l : Layout). l.most_ports) same),
        )
    by v false false first second there e = absurd (cc)

layout_is : (d : Data) (layout : Layout) → IsLayout d layout → layout_of d ≡ Ok layout
layout_is d layout (inl (first, is)) = ap (λ v. and_then (needed Version v) (layout_in d)) first ∙ ap Ok (sym is)
layout_is d layout (inr (second, values, most)) =
    ap (λ v. and_then (needed Version v) (layout_in d)) second
    ∙ joined (values_of (codes "/constants") (get (codes "constants") d)) (λ constants. Ok (record { constants = constants; most_ports = MOST_PORTS_SECOND }))
    layout.constants layout (values_are (codes "/constants") (get (codes "constants") d) layout.constants values)
    (λ i. Ok (record { constants = layout.constants; most_ports = sym most i }))

-- ---- contracts

-- the ports of an object
record HasPorts (layout : Layout) (d : Data) (inputs outputs : List Name) : Type 0 where
  first : IsList (λ d name. IsName (Some d) name) (get (codes "inputs") d) inputs
  second : IsList (λ d name. IsName (Some d) name) (get (codes "outputs") d) outputs
  distinct : IsDistinct bytes_eq (inputs ++ outputs)
  apart : AreApart bytes_eq (inputs ++ outputs) layout.constants.names
  few : length (inputs ++ outputs) ≤ layout.most_ports

all-append : {A : Type 0} (P : A → Type 0) (xs ys : List A) → AllByRecursion P xs → AllByRecursion P ys → AllByRecursion P (xs ++ ys)
all-append P [] ys first second = second
all-append P (x ∷ xs) ys first second = (first.0, all-append P xs ys first.1 second)

all-split : {A : Type 0} (P : A → Type 0) (xs ys : List A) → AllByRecursion P (xs ++ ys) → AllByRecursion P xs × AllByRecursion P ys
all-split P [] ys all = (tt, all)
all-split P (x ∷ xs) ys all = let rest = all-split P xs ys all.1 in ((all.0, rest.0), rest.1)

distinct-front : (xs ys : List Name) → IsDistinct bytes_eq (xs ++ ys) → IsDistinct bytes_eq xs
unfolding IsDistinct
distinct-front [] ys distinct = tt
distinct-front (x ∷ xs) ys distinct = ((all-split (λ y. bytes_eq x y ≡ false) xs ys distinct.0).0, distinct-front xs ys distinct.1)

-- the test of how many ports there are
abbrev counted : List ℕ → Layout → List Name → List Name → Result (ℕ × List Name) DiagramFault
counted path layout inputs names = cond (nat_lt layout.most_ports (length names)) (Err (Limit path)) (Ok (length inputs, names))

member_ports_found : (path key : List ℕ) (constants names more : List Name) (d : Data) → ports_of path key constants names d ≡ Ok more
    → IsDistinct bytes_eq names
    → (new : List Name) × IsList (λ d name. IsName (Some d) name) (get key d) new × AreApart bytes_eq new constants × IsDistinct bytes_eq (names ++ new)
    × (names ++ new ≡ more)
member_ports_found path key constants names more d is distinct =
    let at = member_path path key in
    let list = both_taken (list_of path key d) (with_ports at constants names) more is in
    let found = ports_found at constants list.0 names more list.2 distinct in
    (found.0, (list.0, was_there (Shape at) (option_and_then as_array (get key d)) list.0 list.1, found.1), found.2, found.3, found.4)

member_ports_are : (path key : List ℕ) (constants names new : List Name) (d : Data) → IsList (λ d name. IsName (Some d) name) (get key d) new
    → AreApart bytes_eq new constants → IsDistinct bytes_eq (names ++ new) → ports_of path key constants names d ≡ Ok (names ++ new)
member_ports_are path key constants names new d (items, there, are) apart distinct =
    let at = member_path path key in
    joined (list_of path key d) (with_ports at constants names) items (names ++ new) (ap (needed (Shape at)) there)
    (ports_are at constants items names new are apart distinct)

all_ports_found : (path : List ℕ) (layout : Layout) (d : Data) (found : ℕ × List Name) → all_ports path layout d ≡ Ok found
    → (inputs outputs : List Name) × HasPorts layout d inputs outputs × ((length inputs, inputs ++ outputs) ≡ found)
all_ports_found path layout d found is =
    let constants = layout.constants.names in
    let one = both_taken (ports_of path (codes "inputs") constants [] d) _ found is in
    let first = member_ports_found path (codes "inputs") constants [] one.0 d one.1 (distinct-nil bytes_eq) in
    let two = both_taken (ports_of path (codes "outputs") constants one.0 d) (counted path layout one.0) found one.2 in
    let second = member_ports_found path (codes "outputs") constants one.0 two.0 d two.1 (subst (IsDistinct bytes_eq) first.4 first.3) in
    let few = not_refused (nat_lt layout.most_ports (length two.0)) (Limit path) (length one.0, two.0) found two.2 in
    let all : first.0 ++ second.0 ≡ two.0 = ap (λ xs. xs ++ second.0) first.4 ∙ second.4 in (
      first.0,
      second.0,
      record {
        first = first.1;
        second = second.1;
        distinct = subst (λ xs. IsDistinct bytes_eq (xs ++ second.0)) (sym first.4) second.3;
        apart = all-append (λ x. list_any (bytes_eq x) constants ≡ false) first.0 second.0 first.2 second.2;
        few = subst (λ ns. length ns ≤ layout.most_ports) (sym all) (ltb-false layout.most_ports (length two.0) few.0);
      },
      (λ i. (length (first.4 i), all i)) ∙ few.1,
    )

all_ports_are : (path : List ℕ) (layout : Layout) (d : Data) (inputs outputs : List Name) → HasPorts layout d inputs outputs
    → all_ports path layout d ≡ Ok (length inputs, inputs ++ outputs)
all_ports_are path layout d inputs outputs has =
    let constants = layout.constants.names in
    let apart = all-split (λ x. list_any (bytes_eq x) constants ≡ false) inputs outputs has.apart in
    joined (ports_of path (codes "inputs") constants [] d) (λ inputs. and_then (ports_of path (codes "outputs") constants inputs d)
    (counted path layout inputs))
    inputs (length inputs, inputs ++ outputs)
    (member_ports_are path (codes "inputs") constants [] inputs d has.first apart.0 (distinct-front inputs outputs has.distinct))
    (joined (ports_of path (codes "outputs") constants inputs d) (counted path layout inputs) (inputs ++ outputs) (length inputs, inputs ++ outputs)
    (member_ports_are path (codes "outputs") constants inputs outputs d has.second apart.1 has.distinct)
    (passed (nat_lt layout.most_ports (length (inputs ++ outputs))) (Limit path) (length inputs, inputs ++ outputs)
    (le-ltb layout.most_ports (length (inputs ++ outputs)) has.few)))

-- the contract of ports, as the reader divides them, and of rows
abbrev divided : List Name → List Name → List Row → List Row → Contract
divided inputs outputs assumptions guarantees = record {
  inputs = take (length inputs) (inputs ++ outputs);
  outputs = drop (length inputs) (inputs ++ outputs);
  assumptions = assumptions;
  guarantees = guarantees;
}

divided_is : (inputs outputs : List Name) (assumptions guarantees : List Row)
    → divided inputs outputs assumptions guarantees ≡ (record { inputs = inputs; outputs = outputs; assumptions = assumptions; guarantees = guarantees })
divided_is inputs outputs assumptions guarantees = λ i. record {
  inputs = take-append_seam inputs outputs i;
  outputs = drop-append_seam inputs outputs i;
  assumptions = assumptions;
  guarantees = guarantees;
}

-- the contract of an object whose ports are known
contract_with : (path : List ℕ) (layout : Layout) (d : Data) (inputs outputs : List Name) (c : Contract) → HasPorts layout d inputs outputs
    → contract_over path layout d (length inputs, inputs ++ outputs) ≡ Ok c → IsContract layout d c
contract_with path layout d inputs outputs c has is =
    let s = scope_of layout (inputs ++ outputs) in
    let one = both_taken (rows_of path (codes "assumptions") s (Some (length inputs)) d) _ c is in
    let two = both_taken (rows_of path (codes "guarantees") s None d) (λ guarantees. limited path (divided inputs outputs one.0 guarantees)) c one.2 in
    let assumed = said_found path (codes "assumptions") s (Some (length inputs)) d one.0 one.1 in
    let promised = said_found path (codes "guarantees") s None d two.0 two.1 in
    let few = not_refused (nat_lt MOST_CONTRACT_ROWS (length one.0 + length two.0)) (Limit path) (divided inputs outputs one.0 two.0) c two.2 in
    let within : length one.0 + length two.0 ≤ MOST_CONTRACT_ROWS = ltb-false MOST_CONTRACT_ROWS (length one.0 + length two.0) few.0 in
    let own : Contract = record { inputs = inputs; outputs = outputs; assumptions = one.0; guarantees = two.0 } in
    let same : own ≡ c = sym (divided_is inputs outputs one.0 two.0) ∙ few.1 in
    let first : one.0 ≡ without_repeats same_row (map (first_columns (length inputs)) assumed.0) =
    sym assumed.3 ∙ kept_was (map (first_columns (length inputs)) assumed.0) (subst (λ xs. length xs ≤ MOST_CONTRACT_ROWS) (sym assumed.3) (omega arith)) in
    let second : two.0 ≡ without_repeats same_row promised.0 =
    sym promised.3 ∙ kept_was promised.0 (subst (λ xs. length xs ≤ MOST_CONTRACT_ROWS) (sym promised.3) (omega arith)) in
    subst (IsContract layout d) same
    (record {
      inputs = has.first;
      outputs = has.second;
      distinct = has.distinct;
      apart = has.apart;
      few_ports = has.few;
      assumed = assumed.0;
      assumptions = assumed.1;
      over_inputs = assumed.2;
      promised = promised.0;
      guarantees = promised.1;
      is = λ i. record { inputs = inputs; outputs = outputs; assumptions = first i; guarantees = second i };
      few_rows = within;
    })

contract_found : (path : List ℕ) (layout : Layout) (d : Data) (c : Contract) → contract_of path layout d ≡ Ok c → IsContract layout d c
contract_found path layout d c is =
    let names = both_taken (all_ports path layout d) (contract_over path layout d) c is in
    let found = all_ports_found path layout d names.0 names.1 in
    contract_with path layout d found.0 found.1 c found.2 (ap (contract_over path layout d) found.3 ∙ names.2)

contract_is : (path : List ℕ) (layout : Layout) (d : Data) (c : Contract) → IsContract layout d c → contract_of path layout d ≡ Ok c
contract_is path layout d c k =
    let s = scope_of layout (ports c) in
    let n = length c.inputs in
    let has : HasPorts layout d c.inputs c.outputs =
    record { first = k.inputs; second = k.outputs; distinct = k.distinct; apart = k.apart; few = k.few_ports } in
    let first : c.assumptions ≡ without_repeats same_row (map (first_columns n) k.assumed) = ap (λ (c : Contract). c.assumptions) k.is in
    let second : c.guarantees ≡ without_repeats same_row k.promised = ap (λ (c : Contract). c.guarantees) k.is in
    let one : rows_of path (codes "assumptions") s (Some n) d ≡ Ok c.assumptions =
    said_is path (codes "assumptions") s (Some n) d k.assumed k.assumptions k.over_inputs
    ∙ ap Ok (kept_is (map (first_columns n) k.assumed) (subst (λ xs. length xs ≤ MOST_CONTRACT_ROWS) first (omega (arith, k.few_rows))) ∙ sym first) in
    let two : rows_of path (codes "guarantees") s None d ≡ Ok c.guarantees =
    said_is path (codes "guarantees") s None d k.promised k.guarantees tt
    ∙ ap Ok (kept_is k.promised (subst (λ xs. length xs ≤ MOST_CONTRACT_ROWS) second (omega (arith, k.few_rows))) ∙ sym second) in
    joined (all_ports path layout d) (contract_over path layout d) (n, ports c) c (all_ports_are path layout d c.inputs c.outputs has)
    (joined (rows_of path (codes "assumptions") s (Some n) d)
    (λ assumptions. and_then (rows_of path (codes "guarantees") s None d) (λ guarantees. limited path (divided c.inputs c.outputs assumptions guarantees)))
    c.assumptions c one
    (joined (rows_of path (codes "guarantees") s None d) (λ guarantees. limited path (divided c.inputs c.outputs c.assumptions guarantees)) c.guarantees c two
    (passed (nat_lt MOST_CONTRACT_ROWS (row_count c)) (Limit path) (divided c.inputs c.outputs c.assumptions c.guarantees)
    (le-ltb MOST_CONTRACT_ROWS (row_count c) k.few_rows)
    ∙ ap Ok (divided_is c.inputs c.outputs c.assumptions c.guarantees))))

-- ---- names of contracts and parts

new_found : (path : List ℕ) (earlier : List Name) (d : Data) (name : Name) → new_name path earlier d ≡ Ok name → IsName (get (codes "name") d) name
new_found path earlier d name is =
    let at = member_path path (codes "name") in
    let found = both_taken (name_text at (get (codes "name") d)) _ name is in
    let same = not_refused (list_any (bytes_eq found.0) earlier) (Shape at) found.0 name found.2 in
    subst (IsName (get (codes "name") d)) same.1 (name_found at (get (codes "name") d) found.0 found.1)

new_is : (path : List ℕ) (earlier : List Name) (d : Data) (name : Name) → IsName (get (codes "name") d) name → list_any (bytes_eq name) earlier ≡ false
    → new_name path earlier d ≡ Ok name
new_is path earlier d name is new =
    let at = member_path path (codes "name") in
    joined (name_text at (get (codes "name") d)) (λ name. cond (list_any (bytes_eq name) earlier) (Err (Shape at)) (Ok name)) name name
    (name_is at (get (codes "name") d) name is) (passed (list_any (bytes_eq name) earlier) (Shape at) name new)

-- an item's name is none of those before
new_among : (contracts : List Named) (named : Named) (new : List Named) → IsDistinct bytes_eq (names_of (contracts ++ named ∷ new))
    → list_any (bytes_eq named.name) (names_of contracts) ≡ false
new_among contracts named new distinct =
    not_before (names_of contracts) named.name (names_of new)
    (subst (IsDistinct bytes_eq) (map-append (λ (n : Named). n.name) contracts (named ∷ new)) distinct)

module _ (layout : Layout) (path : List ℕ) where
  named_found : (earlier : List Named) (at : List ℕ) (d : Data) (named : Named) → named_of layout earlier at d ≡ Ok named → IsNamed layout d named
  named_found earlier at d named is =
      let seen = both_taken (needed (Shape at) (as_object d)) _ named is in
      let name = both_taken (new_name at (names_of earlier) d) _ named seen.2 in
      let made = both_taken (contract_of at layout d) (λ contract. Ok (record { name = name.0; contract = contract })) named name.2 in
      let same : (record { name = name.0; contract = made.0 }) ≡ named = cc in
      subst (IsNamed layout d) same
      (record { name = new_found at (names_of earlier) d name.0 name.1; contract = contract_found at layout d made.0 made.1 })

  named_is : (earlier : List Named) (at : List ℕ) (d : Data) (named : Named) → IsNamed layout d named
      → list_any (bytes_eq named.name) (names_of earlier) ≡ false → named_of layout earlier at d ≡ Ok named
  named_is earlier at d named k new =
      let there = object_of (codes "name") d named.name k.name.0 in
      joined (needed (Shape at) (as_object d))
      (λ _. and_then (new_name at (names_of earlier) d) (λ name. and_then (contract_of at layout d)
      (λ contract. Ok (record { name = name; contract = contract }))))
      there.0 named (ap (needed (Shape at)) there.1)
      (joined (new_name at (names_of earlier) d) (λ name. and_then (contract_of at layout d)
      (λ contract. Ok (record { name = name; contract = contract }))) named.name named
      (new_is at (names_of earlier) d named.name k.name new)
      (joined (contract_of at layout d) (λ contract. Ok (record { name = named.name; contract = contract })) named.contract named
      (contract_is at layout d named.contract k.contract) refl))

  contracts_found : (items : Items) (earlier all : List Named) → with_contracts layout path earlier items ≡ Ok all
      → (new : List Named) × Are (IsNamed layout) items new × (earlier ++ new ≡ all)
  contracts_found no_items earlier all is = ([], tt, append-nil earlier ∙ (cc))
  contracts_found (item d ds) earlier all is =
      let at = item_path path (length earlier) in
      let one = both_taken (named_of layout earlier at d) (λ named. with_contracts layout path (earlier ++ named ∷ []) ds) all is in
      let rest = contracts_found ds (earlier ++ one.0 ∷ []) all one.2 in
      (one.0 ∷ rest.0, (named_found earlier at d one.0 one.1, rest.1), sym (append_assoc earlier (one.0 ∷ []) rest.0) ∙ rest.2)

  contracts_are : (items : Items) (earlier new : List Named) → Are (IsNamed layout) items new → IsDistinct bytes_eq (names_of (earlier ++ new))
      → with_contracts layout path earlier items ≡ Ok (earlier ++ new)
  contracts_are no_items earlier [] are distinct = ap Ok (sym (append-nil earlier))
  contracts_are no_items earlier (named ∷ new) are distinct = absurd are
  contracts_are (item d ds) earlier [] are distinct = absurd are
  contracts_are (item d ds) earlier (named ∷ new) are distinct =
      let at = item_path path (length earlier) in
      let all : (earlier ++ named ∷ []) ++ new ≡ earlier ++ named ∷ new = append_assoc earlier (named ∷ []) new in
      joined (named_of layout earlier at d) (λ named. with_contracts layout path (earlier ++ named ∷ []) ds) named (earlier ++ named ∷ new)
      (named_is earlier at d named are.0 (new_among earlier named new distinct))
      (contracts_are ds (earlier ++ named ∷ []) new are.1 (subst (λ ns. IsDistinct bytes_eq (names_of ns)) (sym all) distinct) ∙ ap Ok all)

-- ---- wires

named_wires : (names : List Name) (ms : Members) (wires : List (Name × Name)) → collected (wire_of names) ms ≡ Some wires → all_named ms ≡ true
named_wires names no_members wires is = refl
named_wires names (member key d ms) wires is = by (wire_of names key d) (collected (wire_of names) ms) refl refl is (named_wires names ms)
  where
    one : (port : Option Name) (name : Option Name) (wire : Name × Name) → option_and_then (λ port. option_map (λ name. (port, name)) name) port ≡ Some wire
        → is_some name ≡ true
    one None name wire e = absurd (cc)
    one (Some port) None wire e = absurd (cc)
    one (Some port) (Some name) wire e = refl

    by : (wire : Option (Name × Name)) (rest : Option (List (Name × Name))) → wire_of names key d ≡ wire → collected (wire_of names) ms ≡ rest
        → option_and_then (λ x. option_map (λ xs. x ∷ xs) rest) wire ≡ Some wires
        → ((rest : List (Name × Name)) → collected (wire_of names) ms ≡ Some rest → all_named ms ≡ true) → (is_some (name_in d) && all_named ms) ≡ true
    by None rest first others e known = absurd (cc)
    by (Some wire) None first others e known = absurd (cc)
    by (Some wire) (Some rest) first others e known = rw (one _ (name_in d) wire first) (known rest others)

wired_found : (path : List ℕ) (origin : Contract) (found : Option Data) (c : Contract) → wired_in path origin found ≡ Ok c → IsWired origin found c
wired_found path origin None c is = cc
wired_found path origin (Some d) c is =
    let ms = both_taken (needed (Shape path) (as_object d)) (wired_by path origin) c is in
    let named = by (all_named ms.0) ms.0 ms.2 in
    let wires = both_taken (needed (Wire path NoPort) (collected (wire_of (ports origin)) ms.0)) (wired_of path origin) c named in
    let once = not_refused (has_repeat (all_renamed wires.0 (ports origin))) (Wire path Twice) (wired wires.0 origin) c wires.2 in
    let there : as_object d ≡ Some ms.0 = was_there (Shape path) (as_object d) ms.0 ms.1 in (
      wires.0,
      ap (option_and_then (collected (wire_of (ports origin)))) there ∙ was_there (Wire path NoPort) (collected (wire_of (ports origin)) ms.0) wires.0 wires.1,
      once_distinct (all_renamed wires.0 (ports origin)) once.0,
      sym once.1,
    )
  where
    by : (b : Bool) (ms : Members) → cond b (and_then (needed (Wire path NoPort) (collected (wire_of (ports origin)) ms)) (wired_of path origin))
        (Err (Shape path)) ≡ Ok c
        → and_then (needed (Wire path NoPort) (collected (wire_of (ports origin)) ms)) (wired_of path origin) ≡ Ok c
    by true ms e = e
    by false ms e = absurd (cc)

wired_are : (path : List ℕ) (origin : Contract) (found : Option Data) (c : Contract) → IsWired origin found c → wired_in path origin found ≡ Ok c
wired_are path origin None c is = ap Ok (sym is)
wired_are path origin (Some d) c (wires, there, distinct, is) =
    let ms = some_members (as_object d) refl there in
    joined (needed (Shape path) (as_object d)) (wired_by path origin) ms.0 c (ap (needed (Shape path)) ms.1)
    (ap (λ b. cond b (and_then (needed (Wire path NoPort) (collected (wire_of (ports origin)) ms.0)) (wired_of path origin)) (Err (Shape path)))
    (named_wires (ports origin) ms.0 wires ms.2)
    ∙ joined (needed (Wire path NoPort) (collected (wire_of (ports origin)) ms.0)) (wired_of path origin) wires c (ap (needed (Wire path NoPort)) ms.2)
    (wired_once path origin wires distinct ∙ ap Ok (sym is)))
  where
    some_members : (o : Option Members) → as_object d ≡ o → option_and_then (collected (wire_of (ports origin))) o ≡ Some wires
        → (ms : Members) × (as_object d ≡ Some ms) × (collected (wire_of (ports origin)) ms ≡ Some wires)
    some_members None is e = absurd (cc)
    some_members (Some ms) is e = (ms, is, e)

-- ---- parts

-- the contract that a part is of
origin_found : (contracts : List Named) (path : List ℕ) (d : Data) (origin : Contract) → origin_of contracts path d ≡ Ok origin
    → (of : Name) × IsName (get (codes "contract") d) of × (contract_named contracts of ≡ Some origin)
origin_found contracts path d origin is =
    let at = member_path path (codes "contract") in
    let text = both_taken (needed (Shape at) (option_and_then as_str (get (codes "contract") d))) _ origin is in
    let there = was_there (Wire at NoContract) (contract_at contracts text.0) origin text.2 in
    by (is_name text.0) text.0 refl (was_there (Shape at) (option_and_then as_str (get (codes "contract") d)) text.0 text.1) there
  where
    by : (b : Bool) (text : List ℕ) → is_name text ≡ b → option_and_then as_str (get (codes "contract") d) ≡ Some text
        → cond b (contract_named contracts text) None ≡ Some origin
        → (of : Name) × IsName (get (codes "contract") d) of × (contract_named contracts of ≡ Some origin)
    by true text good there e = (text, (there, good), e)
    by false text good there e = absurd (cc)

origin_is : (contracts : List Named) (path : List ℕ) (d : Data) (of : Name) (origin : Contract) → IsName (get (codes "contract") d) of
    → contract_named contracts of ≡ Some origin → origin_of contracts path d ≡ Ok origin
origin_is contracts path d of origin is there =
    let at = member_path path (codes "contract") in
    joined (needed (Shape at) (option_and_then as_str (get (codes "contract") d))) (λ text. needed (Wire at NoContract) (contract_at contracts text)) of origin
    (ap (needed (Shape at)) is.0)
    (ap (λ b. needed (Wire at NoContract) (cond b (contract_named contracts of) None)) is.1 ∙ ap (needed (Wire at NoContract)) there)

module _ (contracts : List Named) (path : List ℕ) where
  part_found : (earlier : List Named) (at : List ℕ) (d : Data) (named : Named) → part_of contracts earlier at d ≡ Ok named → IsPart contracts d named
  part_found earlier at d named is =
      let wires = member_path at (codes "wires") in
      let names = names_of (contracts ++ earlier) in
      let seen = both_taken (needed (Shape at) (as_object d)) _ named is in
      let name = both_taken (new_name at names d) _ named seen.2 in
      let origin = both_taken (origin_of contracts at d) _ named name.2 in
      let made = both_taken (wired_in wires origin.0 (get (codes "wires") d)) (λ contract. Ok (record { name = name.0; contract = contract })) named origin.2 in
      let same : (record { name = name.0; contract = made.0 }) ≡ named = cc in
      let of = origin_found contracts at d origin.0 origin.1 in
      subst (IsPart contracts d) same
      (record {
        name = new_found at names d name.0 name.1;
        of = of.0;
        origin = origin.0;
        is_of = of.1;
        is_there = of.2;
        is_wired = wired_found wires origin.0 (get (codes "wires") d) made.0 made.1;
      })

  part_is : (earlier : List Named) (at : List ℕ) (d : Data) (named : Named) → IsPart contracts d named
      → list_any (bytes_eq named.name) (names_of (contracts ++ earlier)) ≡ false → part_of contracts earlier at d ≡ Ok named
  part_is earlier at d named k new =
      let wires = member_path at (codes "wires") in
      let names = names_of (contracts ++ earlier) in
      let there = object_of (codes "name") d named.name k.name.0 in
      joined (needed (Shape at) (as_object d))
      (λ _. and_then (new_name at names d) (λ name. and_then (origin_of contracts at d) (λ origin.
      and_then (wired_in wires origin (get (codes "wires") d)) (λ contract. Ok (record { name = name; contract = contract })))))
      there.0 named (ap (needed (Shape at)) there.1)
      (joined (new_name at names d)
      (λ name. and_then (origin_of contracts at d) (λ origin. and_then (wired_in wires origin (get (codes "wires") d))
      (λ contract. Ok (record { name = name; contract = contract }))))
      named.name named (new_is at names d named.name k.name new)
      (joined (origin_of contracts at d) (λ origin. and_then (wired_in wires origin (get (codes "wires") d))
      (λ contract. Ok (record { name = named.name; contract = contract })))
      k.origin named (origin_is contracts at d k.of k.origin k.is_of k.is_there)
      (joined (wired_in wires k.origin (get (codes "wires") d)) (λ contract. Ok (record { name = named.name; contract = contract })) named.contract named
      (wired_are wires k.origin (get (codes "wires") d) named.contract k.is_wired) refl)))

  parts_found : (items : Items) (earlier all : List Named) → with_parts contracts path earlier items ≡ Ok all
      → (new : List Named) × Are (IsPart contracts) items new × (earlier ++ new ≡ all)
  parts_found no_items earlier all is = ([], tt, append-nil earlier ∙ (cc))
  parts_found (item d ds) earlier all is =
      let at = item_path path (length earlier) in
      let one = both_taken (part_of contracts earlier at d) (λ named. with_parts contracts path (earlier ++ named ∷ []) ds) all is in
      let rest = parts_found ds (earlier ++ one.0 ∷ []) all one.2 in
      (one.0 ∷ rest.0, (part_found earlier at d one.0 one.1, rest.1), sym (append_assoc earlier (one.0 ∷ []) rest.0) ∙ rest.2)

  parts_are : (items : Items) (earlier new : List Named) → Are (IsPart contracts) items new → IsDistinct bytes_eq (names_of (contracts ++ (earlier ++ new)))
      → with_parts contracts path earlier items ≡ Ok (earlier ++ new)
  parts_are no_items earlier [] are distinct = ap Ok (sym (append-nil earlier))
  parts_are no_items earlier (named ∷ new) are distinct = absurd are
  parts_are (item d ds) earlier [] are distinct = absurd are
  parts_are (item d ds) earlier (named ∷ new) are distinct =
      let at = item_path path (length earlier) in
      let all : (earlier ++ named ∷ []) ++ new ≡ earlier ++ named ∷ new = append_assoc earlier (named ∷ []) new in
      let whole : (contracts ++ earlier) ++ named ∷ new ≡ contracts ++ (earlier ++ named ∷ new) = append_assoc contracts earlier (named ∷ new) in
      joined (part_of contracts earlier at d) (λ named. with_parts contracts path (earlier ++ named ∷ []) ds) named (earlier ++ named ∷ new)
      (part_is earlier at d named are.0 (new_among (contracts ++ earlier) named new (subst (λ ns. IsDistinct bytes_eq (names_of ns)) (sym whole) distinct)))
      (parts_are ds (earlier ++ named ∷ []) new are.1 (subst (λ ns. IsDistinct bytes_eq (names_of (contracts ++ ns))) (sym all) distinct) ∙ ap Ok all)

-- ---- diagrams

-- the contracts of a tree
list_found : (layout : Layout) (d : Data) (all : List Named) → contracts_of layout d ≡ Ok all
    → IsList (IsNamed layout) (get (codes "contracts") d) all × (length all ≤ MOST_ITEMS) × IsDistinct bytes_eq (names_of all)
list_found layout d all is =
    let path = codes "/contracts" in
    let found = both_taken (needed (Shape path) (get (codes "contracts") d)) _ all is in
    let items = both_taken (few_items path found.0) (with_contracts layout path []) all found.2 in
    let few = few_found path found.0 items.0 items.1 in
    let new = contracts_found layout path items.0 [] all items.2 in
    let are : Are (IsNamed layout) items.0 all = subst (Are (IsNamed layout) items.0) new.2 new.1 in (
      (items.0, ap (option_and_then as_array) (was_there (Shape path) (get (codes "contracts") d) found.0 found.1) ∙ few.0, are),
      subst (λ n. n ≤ MOST_ITEMS) (as_many (IsNamed layout) items.0 all are) few.1,
      with_contracts-distinct layout path [] items.0 all (distinct-nil bytes_eq) items.2,
    )

list_is : (layout : Layout) (d : Data) (all : List Named) → IsList (IsNamed layout) (get (codes "contracts") d) all → length all ≤ MOST_ITEMS
    → IsDistinct bytes_eq (names_of all) → contracts_of layout d ≡ Ok all
list_is layout d all (items, there, are) few distinct =
    let path = codes "/contracts" in
    let found = some_found as_array (get (codes "contracts") d) items there in
    joined (needed (Shape path) (get (codes "contracts") d)) (λ found. and_then (few_items path found) (with_contracts layout path [])) found.0 all
    (ap (needed (Shape path)) found.1)
    (joined (few_items path found.0) (with_contracts layout path []) items all
    (few_is path found.0 items found.2 (subst (λ n. n ≤ MOST_ITEMS) (sym (as_many (IsNamed layout) items all are)) few))
    (contracts_are layout path items [] all are distinct))

-- the parts of a tree
list_of_parts_found : (contracts : List Named) (found : Option Data) (all : List Named)
    → given (Ok []) found (λ found. and_then (few_items (codes "/parts") found) (with_parts contracts (codes "/parts") [])) ≡ Ok all
    → IsDistinct bytes_eq (names_of contracts)
    → AreParts contracts found all × (length all ≤ MOST_ITEMS) × IsDistinct bytes_eq (names_of (contracts ++ all))
list_of_parts_found contracts None all is distinct =
    let none : all ≡ [] = cc in (
      none,
      subst (λ ns. length ns ≤ MOST_ITEMS) (sym none) (omega arith),
      subst (λ ns. IsDistinct bytes_eq (names_of ns)) (sym (ap (λ ns. contracts ++ ns) none ∙ append-nil contracts)) distinct,
    )
list_of_parts_found contracts (Some d) all is distinct =
    let path = codes "/parts" in
    let items = both_taken (few_items path d) (with_parts contracts path []) all is in
    let few = few_found path d items.0 items.1 in
    let new = parts_found contracts path items.0 [] all items.2 in
    let are : Are (IsPart contracts) items.0 all = subst (Are (IsPart contracts) items.0) new.2 new.1 in (
      (items.0, few.0, are),
      subst (λ n. n ≤ MOST_ITEMS) (as_many (IsPart contracts) items.0 all are) few.1,
      with_parts-distinct contracts path [] items.0 all (subst (λ ns. IsDistinct bytes_eq (names_of ns)) (sym (append-nil contracts)) distinct) items.2,
    )

list_of_parts_is : (contracts : List Named) (found : Option Data) (all : List Named) → AreParts contracts found all → length all ≤ MOST_ITEMS
    → IsDistinct bytes_eq (names_of (contracts ++ all))
    → given (Ok []) found (λ found. and_then (few_items (codes "/parts") found) (with_parts contracts (codes "/parts") [])) ≡ Ok all
list_of_parts_is contracts None all are few distinct = ap Ok (sym are)
list_of_parts_is contracts (Some d) all (items, there, are) few distinct =
    let path = codes "/parts" in
    joined (few_items path d) (with_parts contracts path []) items all
    (few_is path d items there (subst (λ n. n ≤ MOST_ITEMS) (sym (as_many (IsPart contracts) items all are)) few))
    (parts_are contracts path items [] all are distinct)

-- where a tree is read, it describes what was read
pub describes : (d : Data) (g : Diagram) → diagram_in d ≡ Ok g → Describes d g
describes d g is =
    let seen = both_taken (needed (Shape (codes "/")) (as_object d)) _ g is in
    let layout = both_taken (layout_of d) (with_layout d) g seen.2 in
    let contracts = both_taken (contracts_of layout.0 d) _ g layout.2 in
    let parts = both_taken (parts_of contracts.0 d) (with_nominal d contracts.0) g contracts.2 in
    let nominal = both_taken (values_of (codes "/nominal") (get (codes "nominal") d))
    (λ nominal. Ok (record { contracts = contracts.0; parts = parts.0; nominal = nominal })) g parts.2 in
    let same : (record { contracts = contracts.0; parts = parts.0; nominal = nominal.0 }) ≡ g = cc in
    let first = list_found layout.0 d contracts.0 contracts.1 in
    let second = list_of_parts_found contracts.0 (get (codes "parts") d) parts.0 parts.1 first.2 in
    subst (Describes d) same
    (record {
      layout = layout.0;
      is_layout = layout_found d layout.0 layout.1;
      contracts = first.0;
      few_contracts = first.1;
      parts = second.0;
      few_parts = second.1;
      nominal = values_found (codes "/nominal") (get (codes "nominal") d) nominal.0 nominal.1;
      distinct = second.2;
    })

-- what has a version is an object
versioned : (d : Data) (layout : Layout) → IsLayout d layout → (ms : Members) × (as_object d ≡ Some ms)
versioned d layout is = object_there (codes "version") d (version is).0 (version is).1
  where
    found : (v : ℕ) → version_of d ≡ Some v → (found : Data) × (get (codes "version") d ≡ Some found)
    found v is =
        by (get (codes "version") d) refl is
      where
        by : (o : Option Data) → get (codes "version") d ≡ o → option_and_then as_u64 (option_and_then as_number o) ≡ Some v
            → (found : Data) × (get (codes "version") d ≡ Some found)
        by None is e = absurd (cc)
        by (Some d) is e = (d, is)

    version : IsLayout d layout → (found : Data) × (get (codes "version") d ≡ Some found)
    version (inl is) = found 1 is.0
    version (inr is) = found 2 is.0

distinct_contracts : (contracts parts : List Named) → IsDistinct bytes_eq (names_of (contracts ++ parts)) → IsDistinct bytes_eq (names_of contracts)
distinct_contracts contracts parts distinct =
    distinct-front (names_of contracts) (names_of parts) (subst (IsDistinct bytes_eq) (map-append (λ (n : Named). n.name) contracts parts) distinct)

-- and where it describes a diagram, that is read
pub described_is : (d : Data) (g : Diagram) → Describes d g → diagram_in d ≡ Ok g
described_is d g k =
    let there = versioned d k.layout k.is_layout in
    joined (needed (Shape (codes "/")) (as_object d)) (λ _. and_then (layout_of d) (with_layout d)) there.0 g (ap (needed (Shape (codes "/"))) there.1)
    (joined (layout_of d) (with_layout d) k.layout g (layout_is d k.layout k.is_layout)
    (joined (contracts_of k.layout d) (λ contracts. and_then (parts_of contracts d) (with_nominal d contracts)) g.contracts g
    (list_is k.layout d g.contracts k.contracts k.few_contracts (distinct_contracts g.contracts g.parts k.distinct))
    (joined (parts_of g.contracts d) (with_nominal d g.contracts) g.parts g
    (list_of_parts_is g.contracts (get (codes "parts") d) g.parts k.parts k.few_parts k.distinct)
    (joined (values_of (codes "/nominal") (get (codes "nominal") d))
    (λ nominal. Ok (record { contracts = g.contracts; parts = g.parts; nominal = nominal })) g.nominal g
    (values_are (codes "/nominal") (get (codes "nominal") d) g.nominal k.nominal) refl))))

-- ---- texts

described_bytes : (bytes : List ℕ) (g : Diagram) → diagram_of bytes ≡ Ok g → IsDescribed bytes g
described_bytes bytes g is = by (nat_lt MOST_DIAGRAM_BYTES (length bytes)) refl is
  where
    by : (b : Bool) → nat_lt MOST_DIAGRAM_BYTES (length bytes) ≡ b → cond b (Err TooLong) (and_then (needed Json (tree_of bytes)) diagram_in) ≡ Ok g
        → IsDescribed bytes g
    by true long e = absurd (cc)
    by false long e =
        let tree = both_taken (needed Json (tree_of bytes)) diagram_in g e in
        record {
          few = ltb-false MOST_DIAGRAM_BYTES (length bytes) long;
          tree = tree.0;
          is_tree = was_there Json (tree_of bytes) tree.0 tree.1;
          describes = describes tree.0 g tree.2;
        }

pub bytes_described : (bytes : List ℕ) (g : Diagram) → IsDescribed bytes g → diagram_of bytes ≡ Ok g
bytes_described bytes g k =
    ap (λ b. cond b (Err TooLong) (and_then (needed Json (tree_of bytes)) diagram_in)) (le-ltb MOST_DIAGRAM_BYTES (length bytes) k.few)
    ∙ joined (needed Json (tree_of bytes)) diagram_in k.tree g (ap (needed Json) k.is_tree) (described_is k.tree g k.describes)

-- what was read is described
pub described_clause : (bytes : List ℕ) (memory : DiagramFault) (result : Result Diagram DiagramFault) → IsAnswer memory (diagram_of bytes) result
    → IfOk result (IsDescribed bytes)
described_clause bytes memory (Ok g) answer = described_bytes bytes g answer
described_clause bytes memory (Err e) answer = tt

-- and what is described is read
pub only_clause : (bytes : List ℕ) (memory : DiagramFault) (result : Result Diagram DiagramFault) (g : Diagram) → IsAnswer memory (diagram_of bytes) result
    → IsDescribed bytes g → IsAnswer memory (Ok g) result
only_clause bytes memory result g answer is = subst (λ due. IsAnswer memory due result) (bytes_described bytes g is) answer
