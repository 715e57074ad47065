-- The rows and the goal are narrow, and have a column for each port.
use Rattle.pa_refine.proofs.Over.{asked_can}
use Rattle.pa_refine.proofs.bounding.asked.Goals as goal

pub returns-clause-can : goal.returns-clause-can
returns-clause-can c =
    asked_can c.args.contract.now c.args.goal.now c.args.least c.over_ports.result c.show_well_formed.ensures c.show_goal.ensures.narrow c.requires.few
    c.over_ports.ensures.value c.over_ports.ensures.narrow
