-- What the tree of the bytes is, and so what is due of it.
use Rattle.std.proofs.Common.{arith, inr, ◌≤◌, length}
use Rattle.serde_json.specs.Errors.{IsMemory}
use Rattle.serde_json.specs.View.{view}
use Rattle.pa_json.specs.declared.limits.TheConstants.{MOST_UPGRADE_BYTES}
use Rattle.pa_json.specs.declared.fault.DiagramFault.TheVariants.{Memory}
use Rattle.pa_json.proofs.UpgradedTexts.{upgrade_of-read, upgrade_of-none, same_clause}
use Rattle.pa_json.proofs.upgrading.upgrade.Goals as goal

pub returns-in-Ok-clause-answer : goal.returns-in-Ok-clause-answer
returns-in-Ok-clause-answer c =
    let short : length c.args.bytes.now.items ≤ MOST_UPGRADE_BYTES = omega arith in
    rw (upgrade_of-read c.args.bytes.now.items c.deref.result.now (view c.in-Ok.tree) c.deref.ensures.value short c.in-Ok.ensures.ok.0 c.in-Ok.ensures.ok.1)
    c.upgrade_tree.ensures.answer

pub returns-in-Ok-clause-same : goal.returns-in-Ok-clause-same
returns-in-Ok-clause-same c =
    let short : length c.args.bytes.now.items ≤ MOST_UPGRADE_BYTES = omega arith in
    same_clause (λ text. text.items) c.args.bytes.now.items c.deref.result.now (view c.in-Ok.tree) Memory c.upgrade_tree.result c.deref.ensures.value short
    c.in-Ok.ensures.ok.0 c.in-Ok.ensures.ok.1 c.upgrade_tree.ensures.answer c.upgrade_tree.ensures.few c.upgrade_tree.ensures.utf8
    c.upgrade_tree.ensures.reads_back

pub returns-else-is_memory-clause-answer : goal.returns-else-is_memory-clause-answer
returns-else-is_memory-clause-answer c =
    let other : ¬ IsMemory c.in-Err.error = λ m. grind (arith, c.is_memory.ensures.1 m) in
    let short : length c.args.bytes.now.items ≤ MOST_UPGRADE_BYTES = omega arith in
    inr (upgrade_of-none c.args.bytes.now.items c.deref.result.now c.deref.ensures.value short (c.in-Err.ensures.err other))
