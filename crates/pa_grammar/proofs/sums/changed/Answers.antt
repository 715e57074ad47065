-- Where the column passes the width, so does the sum with it.
use Rattle.std.proofs.Common.{List, map, ap, ◌∙◌}
use Rattle.pa_frac.specs.declared.wide126.Wide126.{Wide126}
use Rattle.pa_grammar.specs.Seen.{fraction}
use Rattle.pa_grammar.specs.Values.{changed_at, combined}
use Rattle.pa_grammar.proofs.Taken.{wide_before}
use Rattle.pa_grammar.proofs.sums.changed.Goals as goal

pub returns-in_default : goal.returns-in_default
returns-in_default c =
    wide_before (changed_at c.args.place (λ q. combined c.args.sign q (fraction c.args.amount)) (map fraction c.args.sum.side.vector.items)) _
    c.in_default.field-0
    (c.in_default.ensures
    ∙ ap (λ (xs : List Wide126). changed_at c.args.place (λ q. combined c.args.sign q (fraction c.args.amount)) (map fraction xs)) c.deref_mut.ensures.value)
