use Rattle.pa_compose.proofs.Goes.{AreColumnsTo}
use Rattle.pa_compose.proofs.gone.columns_of.Given as goal

-- the columns so far and those of the rest are all
abbrev pub invariant-loop-place : goal.invariant-loop-place
invariant-loop-place l = AreColumnsTo l.outputs l.first l.gone l.place l.columns.items
