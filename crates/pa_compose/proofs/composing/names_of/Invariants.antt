use Rattle.std.proofs.Common.{◌≡◌, take}
use Rattle.pa_compose.proofs.composing.names_of.Given as goal

-- the names so far are the first ones
abbrev pub invariant-loop-place : goal.invariant-loop-place
invariant-loop-place l = l.names.items ≡ take l.place l.list
