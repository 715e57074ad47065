use Rattle.std.proofs.Common.{◌≡◌, drop, take}
use Rattle.pa_parts.specs.Seen.{outputs_more}
use Rattle.pa_parts.proofs.ports.with_outputs.Given as goal

-- what the outputs so far and the rest come to is what all come to
abbrev pub invariant-loop-place : goal.invariant-loop-place
invariant-loop-place l = outputs_more l.all (drop l.place l.part.outputs) ≡ outputs_more l.fn.outputs l.part.outputs
