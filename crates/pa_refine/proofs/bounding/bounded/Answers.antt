-- What is shown of the rows over the ports is what it means of the contract.
use Rattle.pa_refine.proofs.Meant.{bounded_printed, bounded_truth}
use Rattle.pa_refine.proofs.Unlimited.{bounded_unlimited}
use Rattle.pa_refine.proofs.bounding.bounded.Goals as goal

pub returns-clause-truth : goal.returns-clause-truth
returns-clause-truth c =
    bounded_truth c.args.contract.now c.args.goal.now c.args.least c.best_over.result c.show_well_formed.ensures c.show_goal.ensures.goal c.requires.known
    c.best_over.ensures.shown

pub returns-clause-printed : goal.returns-clause-printed
returns-clause-printed c = bounded_printed c.args.contract.now c.args.goal.now c.args.least c.best_over.result c.best_over.ensures.shown

pub returns-clause-unlimited : goal.returns-clause-unlimited
returns-clause-unlimited c =
    bounded_unlimited c.args.contract.now c.args.goal.now c.args.least c.args.most c.best_over.result c.best_over.ensures.exact
