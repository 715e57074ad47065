-- What is shown of the rows over the ports is what it means of the contracts.
use Rattle.pa_refine.proofs.Meant.{refined_printed, refined_truth}
use Rattle.pa_refine.proofs.Unlimited.{refined_unlimited}
use Rattle.pa_refine.proofs.refining.refined.Goals as goal

pub returns-clause-truth : goal.returns-clause-truth
returns-clause-truth c =
    refined_truth c.args.left.now c.args.right.now c.covered.result c.show_well_formed.ensures c.show_well_formed-2.ensures c.requires.due c.requires.few
    c.covered.ensures.shown

pub returns-clause-printed : goal.returns-clause-printed
returns-clause-printed c =
    refined_printed c.args.left.now c.args.right.now c.covered.result c.show_well_formed.ensures c.requires.few c.covered.ensures.shown

pub returns-clause-unlimited : goal.returns-clause-unlimited
returns-clause-unlimited c =
    refined_unlimited c.args.left.now c.args.right.now c.args.most c.covered.result c.show_well_formed.ensures c.requires.few c.covered.ensures.exact
