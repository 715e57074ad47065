use Rattle.std.proofs.Common.{All, ◌≤◌, length, subst, sym, ◌∙◌}
use Rattle.pa_shift.proofs.Shown.{direction_columns}
use Rattle.pa_shift.proofs.shifting.ray_by.Goals as goal

pub rise-requires-clause-columns : goal.rise-requires-clause-columns
rise-requires-clause-columns c =
    subst (λ ns. All (λ r. length r.c ≤ length ns) c.args.costs.now) (sym (c.deref.ensures.value ∙ c.direction.view_is))
    (direction_columns c.args.given.now c.args.costs.now c.args.term.now c.args.direction c.requires.can c.requires.costs c.requires.stuck)
