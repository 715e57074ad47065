-- With so few bases no run is cut off.
use Rattle.pa_farkas.proofs.Unlimited.{feasible_unlimited}
use Rattle.pa_farkas.proofs.base.feasible_in.Goals as goal

pub returns-clause-unlimited : goal.returns-clause-unlimited
returns-clause-unlimited c = feasible_unlimited c.args.columns c.args.rows.now c.args.most c.args.task c.feasibility_in.result c.feasibility_in.ensures.answer
