-- Wires: the ports of a contract, each with the name that it gets.
use Rattle.std.specs.Prelude.{ℕ, List, ◌&&◌, Option, Some, None, option_map, option_and_then, is_some, position, if◌then◌else◌}
use Rattle.std.specs.Str.{bytes_eq}
use Rattle.serde_json.specs.Data.{Data}
use Rattle.serde_json.specs.Find.{as_str}
use Rattle.pa_meaning.specs.Contracts.{Name, Contract}
use Rattle.pa_names.specs.Names.{is_name, all_renamed}

-- the name that a value is
abbrev pub name_in : Data → Option Name
name_in d = option_and_then (λ text. if is_name text then Some text else None) (as_str d)

-- the port that a key is
abbrev pub port_in : List Name → List ℕ → Option Name
port_in names key = if is_name key && is_some (position (bytes_eq key) names) then Some key else None

-- a wire: a port, and the name that it gets
abbrev pub wire_of : List Name → List ℕ → Data → Option (Name × Name)
wire_of names key d = option_and_then (λ port. option_map (λ name. (port, name)) (name_in d)) (port_in names key)

-- the contract with its ports renamed; columns stay in place
abbrev pub wired : List (Name × Name) → Contract → Contract
wired wires c = record {
  inputs = all_renamed wires c.inputs;
  outputs = all_renamed wires c.outputs;
  assumptions = c.assumptions;
  guarantees = c.guarantees;
}
