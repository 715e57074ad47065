-- With so few bases no run is cut off.
use Rattle.pa_farkas.proofs.Unlimited.{implied_unlimited}
use Rattle.pa_farkas.proofs.implication.implied_in.Goals as goal

pub returns-clause-unlimited : goal.returns-clause-unlimited
returns-clause-unlimited c = implied_unlimited c.args.rows.now c.args.row.now c.args.most c.args.task c.verdict_in.result c.verdict_in.ensures.answer
