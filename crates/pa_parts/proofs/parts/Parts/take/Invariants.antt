use Rattle.std.proofs.Common.{◌≡◌, drop}
use Rattle.pa_meaning.specs.Composition.{is_among, all_inputs}
use Rattle.pa_parts.proofs.parts.Parts.take.Given as goal

-- a part of the rest takes the name where some part does
abbrev pub invariant-loop-place : goal.invariant-loop-place
invariant-loop-place l = is_among (all_inputs (drop l.place l.self)) l.name ≡ is_among (all_inputs l.self) l.name
