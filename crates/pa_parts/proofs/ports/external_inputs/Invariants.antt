use Rattle.std.proofs.Common.{◌≡◌, drop, take}
use Rattle.pa_meaning.specs.Composition.{all_inputs}
use Rattle.pa_meaning.specs.Composition as meaning
use Rattle.pa_parts.specs.Seen.{external_more}
use Rattle.pa_parts.proofs.ports.external_inputs.Given as goal

-- what the inputs so far and those of the rest come to is what all come to
abbrev pub invariant-loop-place : goal.invariant-loop-place
invariant-loop-place l = external_more l.outputs l.external (all_inputs (drop l.place l.parts)) ≡ meaning.external_inputs l.parts
