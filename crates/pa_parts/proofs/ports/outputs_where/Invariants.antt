use Rattle.std.proofs.Common.{◌≡◌, drop, take}
use Rattle.pa_meaning.specs.Composition.{is_kept as is_kept_of}
use Rattle.pa_parts.specs.Seen.{selected}
use Rattle.pa_parts.proofs.ports.outputs_where.Given as goal

-- the names so far are those that are asked for of the outputs so far
abbrev pub invariant-loop-place : goal.invariant-loop-place
invariant-loop-place l = l.names ≡ selected l.kept (is_kept_of l.parts l.keep) (take l.place l.outputs)
