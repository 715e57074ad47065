-- The ports so far are those of the items that were read, and none is lost.
use Rattle.std.proofs.Common.{◌≡◌, ◌≤◌, drop, length}
use Rattle.serde_json.specs.View.{items_view}
use Rattle.pa_json.specs.Diagram.{with_ports}
use Rattle.pa_json.proofs.ports.with_ports.Given as goal

-- what is left, added to the ports so far, makes the whole list
abbrev pub invariant-loop-found : goal.invariant-loop-found
invariant-loop-found l = record {
  whole : with_ports l.path l.constants l.ports (items_view (drop l.found-index l.items)) ≡ with_ports l.path l.constants l.fn.ports (items_view l.items);
  grows : length l.fn.ports ≤ length l.ports;
}
