use Rattle.std.proofs.Common.{◌≡◌, drop, take}
use Rattle.pa_meaning.specs.Composition.{all_outputs as outputs_of_all}
use Rattle.pa_parts.specs.Seen.{outputs_more, outputs_of}
use Rattle.pa_parts.proofs.ports.all_outputs.Given as goal

-- what the outputs so far and those of the rest come to is what all come to
abbrev pub invariant-loop-place : goal.invariant-loop-place
invariant-loop-place l = outputs_more l.outputs (outputs_of_all (drop l.place l.parts)) ≡ outputs_of l.parts
