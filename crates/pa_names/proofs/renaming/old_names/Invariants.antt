use Rattle.std.proofs.Common.{◌≡◌, drop}
use Rattle.std.specs.Str.{bytes_eq}
use Rattle.pa_math.specs.Lists.{union}
use Rattle.pa_names.specs.Names.{first_names}
use Rattle.pa_names.proofs.renaming.old_names.Given as goal

-- what is held, with the first names that are left, makes all first names
abbrev pub invariant-loop-place : goal.invariant-loop-place
invariant-loop-place l = union bytes_eq l.names.keys (first_names (drop l.place l.pairs)) ≡ first_names l.pairs
