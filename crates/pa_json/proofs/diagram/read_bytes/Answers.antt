use Rattle.std.proofs.Common.{arith, inr, ◌≤◌, length}
use Rattle.serde_json.specs.Errors.{IsMemory}
use Rattle.serde_json.specs.View.{view}
use Rattle.pa_json.specs.declared.limits.TheConstants.{MOST_DIAGRAM_BYTES}
use Rattle.pa_json.proofs.Trees.{diagram_of-read, diagram_of-none}
use Rattle.pa_json.proofs.diagram.read_bytes.Goals as goal

pub returns-in-Ok : goal.returns-in-Ok
returns-in-Ok c =
    let short : length c.args.bytes.now.items ≤ MOST_DIAGRAM_BYTES = omega arith in
    rw (diagram_of-read c.args.bytes.now.items c.deref.result.now (view c.in-Ok.tree) c.deref.ensures.value short c.in-Ok.ensures.ok.0 c.in-Ok.ensures.ok.1)
    c.read_tree.ensures

pub returns-else-is_memory : goal.returns-else-is_memory
returns-else-is_memory c =
    let other : ¬ IsMemory c.in-Err.error = λ m. grind (arith, c.is_memory.ensures.1 m) in
    let short : length c.args.bytes.now.items ≤ MOST_DIAGRAM_BYTES = omega arith in
    inr (diagram_of-none c.args.bytes.now.items c.deref.result.now c.deref.ensures.value short (c.in-Err.ensures.err other))
