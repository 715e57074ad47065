-- The diagram that a text describes: what stands where, and what is true of it, with no order of tests.
use Rattle.std.specs.Prelude.{◌≡◌, ◌≤◌, ◌⊎◌, ℕ, List, [], ◌++◌, codes, length, false, Option, Some, None, option_and_then}
use Rattle.std.specs.List.{list_any, IsDistinct}
use Rattle.std.specs.Str.{bytes_eq}
use Rattle.serde_json.specs.Data.{Data}
use Rattle.serde_json.specs.Find.{get, as_object}
use Rattle.pa_math.specs.Lists.{AreApart}
use Rattle.pa_meaning.specs.Rows.{Row}
use Rattle.pa_meaning.specs.Contracts.{Name, Contract, Named, ports}
use Rattle.pa_names.specs.Names.{all_renamed}
use Rattle.pa_contract.specs.Make.{mentions_from, assembled}
use Rattle.pa_contract.specs.Merge.{row_count}
use Rattle.pa_contract.specs.Named.{contract_named}
use Rattle.pa_json.specs.Diagrams.{Diagram, names_of}
use Rattle.pa_json.specs.Found.{IsList, IsName, AreValues, Says, version_of}
use Rattle.pa_json.specs.Layouts.{Layout, scope_of}
use Rattle.pa_json.specs.Members.{collected}
use Rattle.pa_json.specs.Tree.{tree_of}
use Rattle.pa_json.specs.Values.{no_values}
use Rattle.pa_json.specs.Wires.{wire_of, wired}
use Rattle.pa_json.specs.declared.limits.TheConstants.{MOST_DIAGRAM_BYTES, MOST_ITEMS, MOST_PORTS_FIRST, MOST_PORTS_SECOND, MOST_CONTRACT_ROWS}

-- what the version allows: version 1 has no constants
abbrev pub IsLayout : Data → Layout → Type 0
IsLayout d layout = ((version_of d ≡ Some 1) × (layout ≡ (record { constants = no_values; most_ports = MOST_PORTS_FIRST })))
    ⊎ ((version_of d ≡ Some 2) × AreValues (get (codes "constants") d) layout.constants × (layout.most_ports ≡ MOST_PORTS_SECOND))

-- The contract of an object: different ports, none of which is a constant, and the different rows that the texts say, where no assumption
-- mentions an output.
pub record IsContract (layout : Layout) (d : Data) (c : Contract) : Type 0 where
  pub inputs : IsList (λ d name. IsName (Some d) name) (get (codes "inputs") d) c.inputs
  pub outputs : IsList (λ d name. IsName (Some d) name) (get (codes "outputs") d) c.outputs
  pub distinct : IsDistinct bytes_eq (ports c)
  pub apart : AreApart bytes_eq (ports c) layout.constants.names
  pub few_ports : length (ports c) ≤ layout.most_ports
  pub assumed : List Row
  pub assumptions : Says (scope_of layout (ports c)) (get (codes "assumptions") d) assumed
  pub over_inputs : list_any (mentions_from (length c.inputs)) assumed ≡ false
  pub promised : List Row
  pub guarantees : Says (scope_of layout (ports c)) (get (codes "guarantees") d) promised
  pub is : c ≡ assembled c.inputs c.outputs assumed promised
  pub few_rows : row_count c ≤ MOST_CONTRACT_ROWS

-- a contract by its name
pub record IsNamed (layout : Layout) (d : Data) (named : Named) : Type 0 where
  pub name : IsName (get (codes "name") d) named.name
  pub contract : IsContract layout d named.contract

-- the contract with its ports renamed by wires, as it is where there are none; no two ports get one name
abbrev pub IsWired : Contract → Option Data → Contract → Type 0
IsWired origin None c = c ≡ origin
IsWired origin (Some d) c = (wires : List (Name × Name)) × (option_and_then (collected (wire_of (ports origin))) (as_object d) ≡ Some wires)
    × IsDistinct bytes_eq (all_renamed wires (ports origin)) × (c ≡ wired wires origin)

-- a part by its name: one of the contracts, wired
pub record IsPart (contracts : List Named) (d : Data) (named : Named) : Type 0 where
  pub name : IsName (get (codes "name") d) named.name
  pub of : Name
  pub origin : Contract
  pub is_of : IsName (get (codes "contract") d) of
  pub is_there : contract_named contracts of ≡ Some origin
  pub is_wired : IsWired origin (get (codes "wires") d) named.contract

-- the parts of a member, none where it is not there
abbrev pub AreParts : List Named → Option Data → List Named → Type 0
AreParts contracts None parts = parts ≡ []
AreParts contracts (Some d) parts = IsList (IsPart contracts) (Some d) parts

-- the tree describes the diagram
pub record Describes (d : Data) (g : Diagram) : Type 0 where
  pub layout : Layout
  pub is_layout : IsLayout d layout
  pub contracts : IsList (IsNamed layout) (get (codes "contracts") d) g.contracts
  pub few_contracts : length g.contracts ≤ MOST_ITEMS
  pub parts : AreParts g.contracts (get (codes "parts") d) g.parts
  pub few_parts : length g.parts ≤ MOST_ITEMS
  pub nominal : AreValues (get (codes "nominal") d) g.nominal
  pub distinct : IsDistinct bytes_eq (names_of (g.contracts ++ g.parts))

-- the text is JSON whose tree describes the diagram
pub record IsDescribed (bytes : List ℕ) (g : Diagram) : Type 0 where
  pub few : length bytes ≤ MOST_DIAGRAM_BYTES
  pub tree : Data
  pub is_tree : tree_of bytes ≡ Some tree
  pub describes : Describes tree g
