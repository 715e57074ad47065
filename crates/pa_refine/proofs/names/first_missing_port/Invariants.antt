use Rattle.std.proofs.Common.{◌≡◌, drop}
use Rattle.pa_meaning.specs.Contracts.{ports}
use Rattle.pa_holds.specs.Refusals.{first_missing}
use Rattle.pa_refine.proofs.names.first_missing_port.Given as goal

-- what is missing first in the rest is missing first in the whole list
abbrev pub invariant-loop-place : goal.invariant-loop-place
invariant-loop-place l = first_missing (ports l.contract) (drop l.place l.names) ≡ first_missing (ports l.contract) l.names
