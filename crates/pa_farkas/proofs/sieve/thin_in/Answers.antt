-- With so few bases no run is cut off.
use Rattle.pa_farkas.proofs.FilterTurns.{can_start}
use Rattle.pa_farkas.proofs.Unlimited.{thinned_unlimited}
use Rattle.pa_farkas.proofs.sieve.thin_in.Goals as goal

pub returns-clause-unlimited : goal.returns-clause-unlimited
returns-clause-unlimited c =
    thinned_unlimited c.args.columns c.args.rows.now c.args.context.now c.args.most c.args.group c.thinned_in.result c.thinned_in.ensures.answer
    (can_start c.args.columns c.args.rows.now c.args.context.now c.requires.columns c.requires.context_columns c.requires.few c.requires.short)
