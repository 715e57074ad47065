-- The way from a point that meets the rows leads to one that breaks the row.
use Rattle.pa_farkas.proofs.Shown.{base_breaks}
use Rattle.pa_farkas.proofs.implication.by_point.Goals as goal

pub refuted-requires-clause-shown : goal.refuted-requires-clause-shown
refuted-requires-clause-shown c =
    base_breaks c.args.rows.now c.args.row.now c.args.least c.args.direction.now c.in-Ok.at c.requires.shown c.requires.stuck c.in-Ok.ensures.meaning
