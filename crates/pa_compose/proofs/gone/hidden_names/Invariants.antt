use Rattle.pa_compose.proofs.Goes.{AreNamesTo}
use Rattle.pa_compose.proofs.gone.hidden_names.Given as goal

-- the names so far and those of the rest are all
abbrev pub invariant-loop-place : goal.invariant-loop-place
invariant-loop-place l = AreNamesTo l.contract l.names l.place l.gone.items
