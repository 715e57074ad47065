-- the premises and the terms are over all names, and few
use Rattle.std.proofs.Common.{◌∙◌}
use Rattle.pa_quotient.proofs.RowsFit.{can_try}
use Rattle.pa_quotient.proofs.dividing.lefts_over.Goals as goal

pub tried-requires-clause-can : goal.tried-requires-clause-can
tried-requires-clause-can c =
    can_try c.args.whole.now c.args.part.now c.args.names.now c.in-Ok.given c.args.nominal c.deref.result.now c.name_count-columns.result c.requires.can
    c.requires.nominal c.in-Ok.ensures (c.deref.ensures.value ∙ c.in-Ok-guarantees_over.ensures) c.name_count-columns.ensures
