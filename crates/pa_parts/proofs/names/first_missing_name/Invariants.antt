use Rattle.std.proofs.Common.{◌≡◌, drop}
use Rattle.pa_holds.specs.Refusals.{first_missing}
use Rattle.pa_parts.proofs.names.first_missing_name.Given as goal

-- what is missing first in the rest is missing first in the whole list
abbrev pub invariant-loop-place : goal.invariant-loop-place
invariant-loop-place l = first_missing l.names (drop l.place l.asked) ≡ first_missing l.names l.asked
