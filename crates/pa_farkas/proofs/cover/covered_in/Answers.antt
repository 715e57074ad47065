-- With so few bases no run is cut off.
use Rattle.pa_farkas.proofs.Unlimited.{covered_unlimited}
use Rattle.pa_farkas.proofs.cover.covered_in.Goals as goal

pub returns-clause-unlimited : goal.returns-clause-unlimited
returns-clause-unlimited c = covered_unlimited c.args.rows.now c.args.row.now c.args.most c.args.task c.weights_in.result c.weights_in.ensures.answer
