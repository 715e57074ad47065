-- Weights that prove `0 <= -1` prove the row too.
use Rattle.std.proofs.Common.{length, subst}
use Rattle.pa_farkas.specs.Alternatives.{IsVerdict}
use Rattle.pa_refine.proofs.Covered.{empty_proves}
use Rattle.pa_refine.proofs.covering.proved.Goals as goal

pub returns-in-Ok-Empty-clause-proves : goal.returns-in-Ok-Empty-clause-proves
returns-in-Ok-Empty-clause-proves c =
    empty_proves c.args.premises.now c.args.row.now (length c.args.row.now.c) c.in-Ok-Empty.w
    (subst (IsVerdict c.args.premises.now c.args.row.now) c.in-Ok-Empty.field-0-is c.in-Ok-Empty.ensures.truth)
