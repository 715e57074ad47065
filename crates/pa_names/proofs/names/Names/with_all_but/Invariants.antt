use Rattle.std.proofs.Common.{◌≡◌, drop}
use Rattle.std.specs.Str.{bytes_eq}
use Rattle.pa_math.specs.Lists.{union}
use Rattle.pa_names.specs.Names.{names_without}
use Rattle.pa_names.proofs.names.Names.with_all_but.Given as goal

-- what is held, with what is kept of the names that are left, makes the whole union
abbrev pub invariant-loop-place : goal.invariant-loop-place
invariant-loop-place l = union bytes_eq l.self (names_without (drop l.place l.names) l.other) ≡ union bytes_eq l.initial.self (names_without l.names l.other)
