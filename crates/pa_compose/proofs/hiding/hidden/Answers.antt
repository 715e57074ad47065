-- Nothing but a problem of the elimination uses pivots.
use Rattle.pa_compose.proofs.Unlimited.{hidden_unlimited}
use Rattle.pa_compose.proofs.hiding.hidden.Goals as goal

pub returns-clause-unlimited : goal.returns-clause-unlimited
returns-clause-unlimited c bases place =
    hidden_unlimited c.args.limits.rows c.args.limits.pivots c.args.contract.now c.args.names.now c.args.limits.rows_in_range.greatest
    c.show_well_formed.ensures c.requires.few bases place c.shown.result c.shown.ensures.exact
