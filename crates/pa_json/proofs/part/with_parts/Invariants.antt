-- The parts so far are those of the items that were read, and are well-formed.
use Rattle.std.proofs.Common.{◌≡◌, [], drop}
use Rattle.serde_json.specs.View.{items_view}
use Rattle.pa_json.specs.Diagrams.{AreContracts}
use Rattle.pa_json.specs.Diagram.{with_parts}
use Rattle.pa_json.proofs.part.with_parts.Given as goal

-- what is left, added to the parts so far, makes the whole list
abbrev pub invariant-loop-tree : goal.invariant-loop-tree
invariant-loop-tree l = record {
  whole : with_parts l.contracts l.list l.parts (items_view (drop l.tree-index l.items)) ≡ with_parts l.contracts l.list [] (items_view l.items);
  fit : AreContracts l.parts;
}
