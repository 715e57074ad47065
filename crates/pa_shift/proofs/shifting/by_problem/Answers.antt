use Rattle.std.proofs.Common.{length, subst₂, sym, ap, ◌∙◌}
use Rattle.std.proofs.lemmas.List.{length-drop}
use Rattle.pa_tableau.specs.Work.{HasRoom}
use Rattle.pa_shift.specs.Shifting.{target_of}
use Rattle.pa_shift.proofs.Shown.{as_many}
use Rattle.pa_shift.proofs.shifting.by_problem.Goals as goal

pub solved-requires-clause-room : goal.solved-requires-clause-room
solved-requires-clause-room c =
    subst₂ (λ columns rows. HasRoom columns rows c.args.work.now)
    (sym (ap length (c.behind-target.ensures.value ∙ ap (λ x. target_of x c.args.term.now) c.nominal.ensures)
    ∙ length-drop (length c.args.given.now.nominal.p) c.args.term.now.c))
    (sym (as_many c.args.given.now c.in-Ok.costs.now (sym c.in-Ok.ensures))) c.requires.room
