-- The names of a composition, and which refusal by a name or a count is the first.
use Rattle.std.specs.Prelude.{◌≡◌, List, [], ◌++◌, length, nat_lt, Result, Ok, Err, if◌then◌else◌}
use Rattle.pa_math.specs.Answers.{given}
use Rattle.pa_meaning.specs.Contracts.{Name, Contract}
use Rattle.pa_meaning.specs.Composition.{all_outputs, external_inputs, kept_outputs, internal_outputs, names_of}
use Rattle.pa_names.specs.Names.{most_ports}
use Rattle.pa_holds.specs.Refusals.{first_missing, first_repeat}
use Rattle.pa_parts.specs.declared.fault.PortsFault.{PortsFault}
use Rattle.pa_parts.specs.declared.fault.PortsFault.TheVariants as fault

-- the names of a composition: the external inputs and all outputs, of which some are kept and the others internal
pub record Ports : Type 0 where
  pub external : List Name
  pub outputs : List Name
  pub kept : List Name
  pub internal : List Name

abbrev pub composite_ports : List Contract → List Name → Ports
composite_ports parts keep = record {
  external = external_inputs parts;
  outputs = all_outputs parts;
  kept = kept_outputs parts keep;
  internal = internal_outputs parts keep;
}

-- the ports, or the first refusal: an output that an earlier part has too, a kept name that is no output, more names than there may be
abbrev pub ports_of : List Contract → List Name → Result Ports PortsFault
ports_of parts keep = given
    (given
    (if nat_lt most_ports (length (names_of parts)) then Err (fault.VariableLimit (length (names_of parts))) else Ok (composite_ports parts keep))
    (first_missing (all_outputs parts) keep) (λ name. Err (fault.NotOutput name)))
    (first_repeat [] (all_outputs parts)) (λ name. Err (fault.PortClash name))

-- the names in the order of the columns
abbrev pub names_in : Ports → List Name
names_in ports = ports.external ++ ports.outputs

-- the external inputs and the outputs are those of the parts
pub record ArePortsOf (parts : List Contract) (ports : Ports) : Type 0 where
  pub external : ports.external ≡ external_inputs parts
  pub outputs : ports.outputs ≡ all_outputs parts
