-- The wires so far are those of the members that were read, and the ports beside them are their first names.
use Rattle.std.proofs.Common.{◌≡◌}
use Rattle.pa_names.specs.Names.{first_names}
use Rattle.serde_json.specs.View.{members_view}
use Rattle.pa_json.specs.Members.{collected}
use Rattle.pa_json.specs.Diagram.{wire_of}
use Rattle.pa_json.proofs.Collected.{IsLeft}
use Rattle.pa_json.proofs.part.wires_of.Given as goal

-- the members that are left, added to those so far, make all
abbrev pub invariant-loop-key : goal.invariant-loop-key
invariant-loop-key l = record {
  left : IsLeft (wire_of l.names) l.wires.items (members_view l.key-iterator) (collected (wire_of l.names) (members_view l.members.entries));
  ports : l.ports ≡ first_names l.wires.items;
}
