use Rattle.std.proofs.Common.{◌≡◌, drop}
use Rattle.std.specs.Str.{bytes_eq}
use Rattle.pa_math.specs.Lists.{union}
use Rattle.pa_names.proofs.names.Names.with_all.Given as goal

-- what is held, with the names that are left, makes the whole union
abbrev pub invariant-loop-place : goal.invariant-loop-place
invariant-loop-place l = union bytes_eq l.self (drop l.place l.other) ≡ union bytes_eq l.initial.self l.other
