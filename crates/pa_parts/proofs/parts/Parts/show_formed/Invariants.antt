use Rattle.std.proofs.Common.{All, take}
use Rattle.pa_contract.specs.WellFormed.{IsWellFormed}
use Rattle.pa_parts.proofs.parts.Parts.show_formed.Given as goal

-- the parts so far are well formed
abbrev pub invariant-loop-place : goal.invariant-loop-place
invariant-loop-place l = All IsWellFormed (take l.place l.self)
