-- A diagram of version 1 written as one of version 2: with the members that the layout names alone, and no constants.
use Rattle.std.specs.Prelude.{◌≡◌, ℕ, ◌==◌, List, [], ◌∷◌, ◌++◌, codes, length, nat_lt, Bool, false, Option, Some, None, option_map, option_and_then}
use Rattle.std.specs.Prelude.{Result, Ok, Err, if◌then◌else◌}
use Rattle.serde_json.specs.Data.{Data, number, array, object, unsigned, Items, no_items, item, Members, no_members, put}
use Rattle.serde_json.specs.Find.{get, as_array, as_object}
use Rattle.serde_json.specs.Written.{compact_text}
use Rattle.pa_math.specs.Answers.{and_then, needed, given}
use Rattle.pa_json.specs.Diagram.{diagram_in}
use Rattle.pa_json.specs.Diagrams.{Diagram}
use Rattle.pa_json.specs.Described.{IsDescribed}
use Rattle.pa_json.specs.Found.{version_of}
use Rattle.pa_json.specs.Tree.{tree_of}
use Rattle.pa_json.specs.declared.limits.TheConstants.{MOST_DIAGRAM_BYTES, MOST_UPGRADE_BYTES}
use Rattle.pa_json.specs.declared.upgrading.Item.{Item}
use Rattle.pa_json.specs.declared.upgrading.Item.TheVariants.{Contract, Part}
use Rattle.pa_json.specs.declared.fault.DiagramFault.{DiagramFault}
use Rattle.pa_json.specs.declared.fault.DiagramFault.TheVariants.{TooLong, Json, Version, Shape}

-- the members, with this one where it is there
abbrev pub with_member : List ℕ → Option Data → Members → Members
with_member key None ms = ms
with_member key (Some d) ms = put key d ms

-- those members of an object that have these keys
abbrev pub picked : Data → List (List ℕ) → Members
picked d [] = no_members
picked d (key ∷ keys) = with_member key (get key d) (picked d keys)

-- what the layout names in a contract and in a part
abbrev pub keys_of : Item → List (List ℕ)
keys_of Contract = codes "outputs" ∷ codes "name" ∷ codes "inputs" ∷ codes "guarantees" ∷ codes "assumptions" ∷ []
keys_of Part = codes "wires" ∷ codes "name" ∷ codes "contract" ∷ []

-- a contract, or a part, with what the layout names alone
abbrev pub plain : Item → Data → Data
plain of d = object (picked d (keys_of of))

-- each item of a list so
abbrev pub each_plain : Item → Items → Items
each_plain of no_items = no_items
each_plain of (item d ds) = item (plain of d) (each_plain of ds)

-- a list of contracts, or of parts
abbrev pub plain_list : Item → Option Data → Option Data
plain_list of found = option_map (λ items. array (each_plain of items)) (option_and_then as_array found)

-- the members that are the same for each diagram of version 2
abbrev pub second_members : Members
second_members = put (codes "constants") (object no_members) (put (codes "version") (number (unsigned 2)) no_members)

-- the members of a diagram of version 2 with the contracts, parts and nominal values of this tree
abbrev pub upgraded_members : Data → Members
upgraded_members d =
    with_member (codes "nominal") (get (codes "nominal") d)
    (with_member (codes "parts") (plain_list Part (get (codes "parts") d))
    (with_member (codes "contracts") (plain_list Contract (get (codes "contracts") d)) second_members))

abbrev pub upgraded : Data → Data
upgraded d = object (upgraded_members d)

-- its text, and a line feed
abbrev pub upgraded_text : Data → List ℕ
upgraded_text d = compact_text (upgraded d) ++ 10 ∷ []

-- whether the version is 1
abbrev pub is_first : Data → Bool
is_first d = given false (version_of d) (λ version. version == 1)

-- a text, where it is no longer than a diagram may be
abbrev pub within_diagrams : List ℕ → Result (List ℕ) DiagramFault
within_diagrams text = if nat_lt MOST_DIAGRAM_BYTES (length text) then Err TooLong else Ok text

-- the text that a tree of version 1 is upgraded to, or its first fault
abbrev pub upgrade_first : Data → Result (List ℕ) DiagramFault
upgrade_first d = and_then (diagram_in d) (λ _. within_diagrams (upgraded_text d))

-- the text that a tree is upgraded to, or its first fault
abbrev pub upgrade_in : Data → Result (List ℕ) DiagramFault
upgrade_in d = and_then (needed (Shape (codes "/")) (as_object d)) (λ _.
    if is_first d then upgrade_first d else Err Version)

-- the text that a text is upgraded to, or its first fault
abbrev pub upgrade_of : List ℕ → Result (List ℕ) DiagramFault
upgrade_of bytes = if nat_lt MOST_UPGRADE_BYTES (length bytes) then Err TooLong else and_then (needed Json (tree_of bytes)) upgrade_in

-- both texts describe one diagram, the second in version 2
pub record IsUpgrade (old new : List ℕ) : Type 0 where
  pub diagram : Diagram
  pub before : IsDescribed old diagram
  pub after : IsDescribed new diagram
  pub second : version_of after.tree ≡ Some 2
