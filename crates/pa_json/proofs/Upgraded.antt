-- An upgraded tree describes what the tree of version 1 describes: the layout looks at the members that were kept alone, and version 2 allows what
-- version 1 allows.
use Rattle.std.proofs.Common.{◌≡◌, inl, inr, ℕ, Bool, true, false, ◌||◌, cond, List, [], ◌∷◌, codes, arith, refl, sym, ap, ◌∙◌, subst}
use Rattle.std.proofs.Common.{Option, Some, None, option_and_then, option_map}
use Rattle.std.specs.List.{list_any}
use Rattle.std.specs.Str.{bytes_eq}
use Rattle.std.proofs.lemmas.Slice.Eq.{bytes_eq-Decides}
use Rattle.serde_json.specs.Data.{Data, array, Items, no_items, item, Members, no_members}
use Rattle.serde_json.specs.Find.{get, get_member, as_array, as_number, as_u64}
use Rattle.serde_json.proofs.Views.{get_member-put, get_member-put_other}
use Rattle.pa_meaning.specs.Contracts.{Contract, Named, ports}
use Rattle.pa_json.specs.Diagram.{scope_of}
use Rattle.pa_json.specs.Diagrams.{Diagram}
use Rattle.pa_json.specs.Described.{IsLayout, IsContract, IsNamed, IsWired, IsPart, AreParts, Describes}
use Rattle.pa_json.specs.Found.{Are, IsList, IsName, AreValues, version_of, Says}
use Rattle.pa_json.specs.Layouts.{Layout}
use Rattle.pa_json.specs.Upgrades.{with_member, picked, keys_of, plain, each_plain, plain_list, second_members, upgraded}
use Rattle.pa_json.specs.Values.{no_values}
use Rattle.pa_json.specs.declared.limits.TheConstants.{MOST_PORTS_FIRST, MOST_PORTS_SECOND}
use Rattle.pa_json.specs.declared.upgrading.Item.{Item}
use Rattle.pa_json.specs.declared.upgrading.Item.TheVariants as of

-- ---- members by their keys

differ : (q k : List ℕ) → bytes_eq q k ≡ false → q ≡ k → ⊥
differ q k apart same = let also : bytes_eq q k ≡ true = (bytes_eq-Decides q k).1 same in cc

-- another member does not change what is found
past : (q k : List ℕ) (found : Option Data) (ms : Members) → bytes_eq q k ≡ false → get_member q (with_member k found ms) ≡ get_member q ms
past q k None ms apart = refl
past q k (Some d) ms apart = get_member-put_other q k d ms (differ q k apart)

-- a member that was not there is the one that was added
here : (k : List ℕ) (found : Option Data) (ms : Members) → get_member k ms ≡ None → get_member k (with_member k found ms) ≡ found
here k None ms none = none
here k (Some d) ms none = get_member-put k d ms

-- a picked object has the members of these keys
picked_get : (d : Data) (q : List ℕ) (keys : List (List ℕ)) → get_member q (picked d keys) ≡ cond (list_any (bytes_eq q) keys) (get q d) None
picked_get d q [] = refl
picked_get d q (k ∷ keys) = by (bytes_eq q k) refl (picked_get d q keys)
  where
    either : (b : Bool) → get k d ≡ None → cond b (get k d) None ≡ None
    either true none = none
    either false none = refl

    found : (o : Option Data) → get k d ≡ o → get_member k (picked d keys) ≡ cond (list_any (bytes_eq k) keys) (get k d) None
        → get_member k (with_member k o (picked d keys)) ≡ o
    found None is rest = rest ∙ either (list_any (bytes_eq k) keys) is
    found (Some x) is rest = get_member-put k x (picked d keys)

    by : (b : Bool) → bytes_eq q k ≡ b → get_member q (picked d keys) ≡ cond (list_any (bytes_eq q) keys) (get q d) None
        → get_member q (with_member k (get k d) (picked d keys)) ≡ cond (b || list_any (bytes_eq q) keys) (get q d) None
    by true is rest =
        let same : k ≡ q = sym ((bytes_eq-Decides q k).0 is) in
        let P : List ℕ → Type 0 = λ q. get_member q (picked d keys) ≡ cond (list_any (bytes_eq q) keys) (get q d) None in
        let Q : List ℕ → Type 0 = λ q. get_member q (with_member k (get k d) (picked d keys)) ≡ get q d in
        subst Q same (found (get k d) refl (subst P (sym same) rest))
    by false is rest = past q k (get k d) (picked d keys) is ∙ rest

-- a kept member is found
kept : (o : Item) (d : Data) (q : List ℕ) → list_any (bytes_eq q) (keys_of o) ≡ true → get q (plain o d) ≡ get q d
kept o d q among = picked_get d q (keys_of o) ∙ ap (λ b. cond b (get q d) None) among

-- ---- the root

contracts_get : (d : Data) → get (codes "contracts") (upgraded d) ≡ plain_list of.Contract (get (codes "contracts") d)
contracts_get d =
    past (codes "contracts") (codes "nominal") (get (codes "nominal") d) _ refl
    ∙ past (codes "contracts") (codes "parts") (plain_list of.Part (get (codes "parts") d)) _ refl
    ∙ here (codes "contracts") (plain_list of.Contract (get (codes "contracts") d)) second_members refl

parts_get : (d : Data) → get (codes "parts") (upgraded d) ≡ plain_list of.Part (get (codes "parts") d)
parts_get d =
    past (codes "parts") (codes "nominal") (get (codes "nominal") d) _ refl
    ∙ here (codes "parts") (plain_list of.Part (get (codes "parts") d)) _
    (past (codes "parts") (codes "contracts") (plain_list of.Contract (get (codes "contracts") d)) second_members refl)

nominal_get : (d : Data) → get (codes "nominal") (upgraded d) ≡ get (codes "nominal") d
nominal_get d =
    here (codes "nominal") (get (codes "nominal") d) _
    (past (codes "nominal") (codes "parts") (plain_list of.Part (get (codes "parts") d)) _ refl
    ∙ past (codes "nominal") (codes "contracts") (plain_list of.Contract (get (codes "contracts") d)) second_members refl)

-- a member that is the same for each diagram of version 2
second_get : (d : Data) (q : List ℕ) → bytes_eq q (codes "nominal") ≡ false → bytes_eq q (codes "parts") ≡ false → bytes_eq q (codes "contracts") ≡ false
    → get q (upgraded d) ≡ get_member q second_members
second_get d q first second third =
    past q (codes "nominal") (get (codes "nominal") d) _ first ∙ past q (codes "parts") (plain_list of.Part (get (codes "parts") d)) _ second
    ∙ past q (codes "contracts") (plain_list of.Contract (get (codes "contracts") d)) second_members third

pub second_version : (d : Data) → version_of (upgraded d) ≡ Some 2
second_version d =
    ap (λ found. option_and_then as_u64 (option_and_then as_number found))
    (second_get d (codes "version") refl refl refl)

-- ---- contracts and parts

abbrev first_layout : Layout
first_layout = record { constants = no_values; most_ports = MOST_PORTS_FIRST }

abbrev second_layout : Layout
second_layout = record { constants = no_values; most_ports = MOST_PORTS_SECOND }

contract_kept : (d : Data) (c : Contract) → IsContract first_layout d c → IsContract second_layout (plain of.Contract d) c
contract_kept d c k = record {
  inputs = subst (λ found. IsList (λ d name. IsName (Some d) name) found c.inputs) (sym (kept of.Contract d (codes "inputs") refl)) k.inputs;
  outputs = subst (λ found. IsList (λ d name. IsName (Some d) name) found c.outputs) (sym (kept of.Contract d (codes "outputs") refl)) k.outputs;
  distinct = k.distinct;
  apart = k.apart;
  few_ports = omega (arith, k.few_ports);
  assumed = k.assumed;
  assumptions = subst (λ found. Says (scope_of second_layout (ports c)) found k.assumed) (sym (kept of.Contract d (codes "assumptions") refl)) k.assumptions;
  over_inputs = k.over_inputs;
  promised = k.promised;
  guarantees = subst (λ found. Says (scope_of second_layout (ports c)) found k.promised) (sym (kept of.Contract d (codes "guarantees") refl)) k.guarantees;
  is = k.is;
  few_rows = k.few_rows;
}

named_kept : (d : Data) (named : Named) → IsNamed first_layout d named → IsNamed second_layout (plain of.Contract d) named
named_kept d named k = record {
  name = subst (λ found. IsName found named.name) (sym (kept of.Contract d (codes "name") refl)) k.name;
  contract = contract_kept d named.contract k.contract;
}

part_kept : (contracts : List Named) (d : Data) (named : Named) → IsPart contracts d named → IsPart contracts (plain of.Part d) named
part_kept contracts d named k = record {
  name = subst (λ found. IsName found named.name) (sym (kept of.Part d (codes "name") refl)) k.name;
  of = k.of;
  origin = k.origin;
  is_of = subst (λ found. IsName found k.of) (sym (kept of.Part d (codes "contract") refl)) k.is_of;
  is_there = k.is_there;
  is_wired = subst (λ found. IsWired k.origin found named.contract) (sym (kept of.Part d (codes "wires") refl)) k.is_wired;
}

each_kept : (o : Item) (Is Still : Data → Named → Type 0) → ((d : Data) (named : Named) → Is d named → Still (plain o d) named)
    → (items : Items) (all : List Named)
    → Are Is items all → Are Still (each_plain o items) all
each_kept o Is Still each no_items [] are = tt
each_kept o Is Still each no_items (x ∷ xs) are = absurd are
each_kept o Is Still each (item d ds) [] are = absurd are
each_kept o Is Still each (item d ds) (x ∷ xs) are = (each d x are.0, each_kept o Is Still each ds xs are.1)

list_kept : (o : Item) (Is Still : Data → Named → Type 0) → ((d : Data) (named : Named) → Is d named → Still (plain o d) named)
    → (found : Option Data) (all : List Named)
    → IsList Is found all → IsList Still (plain_list o found) all
list_kept o Is Still each found all (items, there, are) = (
  each_plain o items,
  ap (λ items. option_and_then as_array
      (option_map (λ items. array (each_plain o items)) items)) there,
  each_kept o Is Still each items all are,
)

parts_kept : (contracts : List Named) (found : Option Data) (all : List Named) → AreParts contracts found all
    → AreParts contracts (plain_list of.Part found) all
parts_kept contracts None all are = are
parts_kept contracts (Some d) all are =
    by (plain_list of.Part (Some d)) (list_kept of.Part (IsPart contracts) (IsPart contracts) (part_kept contracts) (Some d) all are)
  where
    by : (found : Option Data) → IsList (IsPart contracts) found all → AreParts contracts found all
    by None (items, there, are) = absurd (cc)
    by (Some d) are = are

-- the tree of version 2 describes the same diagram
pub upgraded_describes : (d : Data) (g : Diagram) → version_of d ≡ Some 1 → Describes d g → Describes (upgraded d) g
upgraded_describes d g first k = by k.is_layout
  where
    by : IsLayout d k.layout → Describes (upgraded d) g
    by (inr (second, values, most)) = absurd (let never : Some 1 ≡ Some 2 = sym first ∙ second in cc)
    by (inl (one, is)) = record {
      layout = second_layout;
      is_layout =
          inr (
            second_version d,
            subst (λ found. AreValues found no_values) (sym (second_get d (codes "constants") refl refl refl)) (no_members, refl, [], tt, omega arith, refl),
            refl,
          );
      contracts =
          subst (λ found. IsList (IsNamed second_layout) found g.contracts) (sym (contracts_get d))
          (list_kept of.Contract (IsNamed first_layout) (IsNamed second_layout) named_kept (get (codes "contracts") d) g.contracts
          (subst (λ layout. IsList (IsNamed layout) (get (codes "contracts") d) g.contracts) is k.contracts));
      few_contracts = k.few_contracts;
      parts = subst (λ found. AreParts g.contracts found g.parts) (sym (parts_get d)) (parts_kept g.contracts (get (codes "parts") d) g.parts k.parts);
      few_parts = k.few_parts;
      nominal = subst (λ found. AreValues found g.nominal) (sym (nominal_get d)) k.nominal;
      distinct = k.distinct;
    }
