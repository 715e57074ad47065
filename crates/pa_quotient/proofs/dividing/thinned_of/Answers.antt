-- the rows and their context are over the quotient's ports
use Rattle.std.proofs.Common.{◌∙◌, ap, length}
use Rattle.pa_quotient.specs.Seen.{QuotientNames}
use Rattle.pa_quotient.proofs.RowsFit.{asked_long, context_long}
use Rattle.pa_quotient.proofs.dividing.thinned_of.Goals as goal

pub thin_in-requires-clause-columns : goal.thin_in-requires-clause-columns
thin_in-requires-clause-columns c =
    asked_long c.args.whole.now c.args.part.now c.args.names.now c.args.left.items c.deref.result.now c.len-columns.result c.requires.can.names_are
    c.requires.left (c.deref.ensures.value ∙ c.in-Ok.ensures) (c.len-columns.ensures.value ∙ ap (λ (n : QuotientNames). length n.ports) c.names.view_is)

pub thin_in-requires-clause-context_columns : goal.thin_in-requires-clause-context_columns
thin_in-requires-clause-context_columns c =
    context_long c.args.whole.now c.args.part.now c.args.names.now c.deref-2.result.now c.len-columns.result c.requires.can.names_are
    (c.deref-2.ensures.value ∙ c.in-Ok-assumptions_over.ensures)
    (c.len-columns.ensures.value ∙ ap (λ (n : QuotientNames). length n.ports) c.names.view_is)
