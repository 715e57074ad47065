use Rattle.std.proofs.Common.{◌≡◌, drop}
use Rattle.pa_holds.specs.Refusals.{first_shared}
use Rattle.pa_quotient.proofs.names.first_shared_name.Given as goal

-- what is shared first in the rest is shared first in the whole list
abbrev pub invariant-loop-place : goal.invariant-loop-place
invariant-loop-place l = first_shared l.names (drop l.place l.asked) ≡ first_shared l.names l.asked
