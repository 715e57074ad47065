-- With so few bases no run is cut off.
use Rattle.pa_farkas.proofs.Unlimited.{solved_unlimited}
use Rattle.pa_farkas.proofs.problem.solved.Goals as goal

pub returns-clause-unlimited : goal.returns-clause-unlimited
returns-clause-unlimited c =
    solved_unlimited c.args.task c.args.sub c.args.rows.now c.args.target.now c.args.most c.answered.result c.answered.ensures.exact
