use Rattle.std.proofs.Common.{arith}
use Rattle.pa_json.proofs.PlainItems.{plain_all}
use Rattle.pa_json.proofs.upgrading.each_plain.Goals as goal

pub returns : goal.returns
returns c = plain_all c.args.of c.loop-tree.list.items c.args.items.now c.loop-tree.tree-index (omega arith) c.loop-tree.invariant
