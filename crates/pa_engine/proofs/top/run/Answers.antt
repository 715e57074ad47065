use Rattle.std.proofs.Common.{map, string_bytes}
use Rattle.pa_engine.proofs.Ends.{headline, upgrade_taken, complete, complete_upgrade}
use Rattle.pa_engine.proofs.top.run.Goals as goal

-- what is caused and ends by its answers has put a true report
pub returns-clause-headline : goal.returns-clause-headline
returns-clause-headline g c paths accepted =
    headline (map string_bytes c.args.words.now.items) _ _ _ _ _ _ paths accepted (rw c.deref.ensures.value at c.run_to_end.ensures.caused)

-- what is caused and is done has put the upgraded diagram
pub returns-clause-upgrade : goal.returns-clause-upgrade
returns-clause-upgrade g c path accepted =
    upgrade_taken (map string_bytes c.args.words.now.items) _ _ _ _ _ _ path accepted (rw c.deref.ensures.value at c.run_to_end.ensures.caused)

-- and where inputs are ready and nothing fails, the whole of it
pub returns-clause-complete : goal.returns-clause-complete
returns-clause-complete g c ready no_read no_write =
    complete _ _ _ _ _ _ _ no_read no_write ready (rw c.deref.ensures.value at c.run_to_end.ensures.caused)

pub returns-clause-complete_upgrade : goal.returns-clause-complete_upgrade
returns-clause-complete_upgrade g c ready no_read no_write =
    complete_upgrade _ _ _ _ _ _ _ no_read no_write ready (rw c.deref.ensures.value at c.run_to_end.ensures.caused)
