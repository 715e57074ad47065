-- The target 0 has weights, so no run ends without.
use Rattle.std.proofs.Common.{length, subst}
use Rattle.pa_bland.specs.Answered.{Shows}
use Rattle.pa_farkas.proofs.Shown.{base_has_weights, of_zeros}
use Rattle.pa_farkas.proofs.implication.by_base.Goals as goal

pub unreachable-requires : goal.unreachable-requires
unreachable-requires c =
    base_has_weights c.args.rows.now (length c.args.row.now.c) c.in-NoWeights.field-0
    (subst (Shows (of_zeros c.args.rows.now (length c.args.row.now.c))) c.in-NoWeights.is c.requires.shown)
