use Rattle.pa_elim.proofs.OneMore.{start_can}
use Rattle.pa_elim.proofs.projecting.from_given.Goals as goal

pub after_steps-requires-clause-can : goal.after_steps-requires-clause-can
after_steps-requires-clause-can c =
    start_can c.args.columns c.args.rows.now c.in_ok-start.start c.in_ok-start.ensures.start c.requires.columns c.requires.few c.requires.short
