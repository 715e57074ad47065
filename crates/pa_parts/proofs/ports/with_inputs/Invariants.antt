use Rattle.std.proofs.Common.{◌≡◌, drop, take}
use Rattle.pa_parts.specs.Seen.{external_more}
use Rattle.pa_parts.proofs.ports.with_inputs.Given as goal

-- what the inputs so far and the rest come to is what all come to
abbrev pub invariant-loop-place : goal.invariant-loop-place
invariant-loop-place l = external_more l.outputs l.all (drop l.place l.part.inputs) ≡ external_more l.outputs l.fn.external l.part.inputs
