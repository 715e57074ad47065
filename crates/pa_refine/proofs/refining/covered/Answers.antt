-- The rows have a column for each port.
use Rattle.std.proofs.Common.{length, subst, sym}
use Rattle.pa_meaning.specs.Contracts.{ports}
use Rattle.pa_refine.specs.Seen.{HaveColumns}
use Rattle.pa_refine.proofs.Over.{are_over}
use Rattle.pa_refine.proofs.refining.covered.Goals as goal

pub covering-requires-clause-over : goal.covering-requires-clause-over
covering-requires-clause-over c =
    subst (λ n. HaveColumns n c.in-Ok.lists) (sym c.port_count-columns.ensures.value)
    (subst (HaveColumns (length (ports c.args.left.now))) (sym c.in-Ok.ensures)
    (are_over c.args.left.now c.args.right.now c.show_well_formed.ensures c.requires.few))
