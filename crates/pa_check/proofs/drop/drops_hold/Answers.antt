use Rattle.pa_check.proofs.Drops.{drops_told}
use Rattle.pa_check.proofs.drop.drops_hold.Goals as goal

pub returns-clause-truth : goal.returns-clause-truth
returns-clause-truth c =
    drops_told c.all_drops_hold.result c.args.columns c.args.rows.now c.args.own c.args.drops.now c.requires.columns c.requires.own
    c.show_canonical_drops.ensures c.all_drops_hold.ensures
