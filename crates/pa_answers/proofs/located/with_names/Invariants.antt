use Rattle.std.proofs.Common.{◌≡◌, ◌++◌, drop}
use Rattle.pa_answers.proofs.located.with_names.Given as goal

-- the names so far and those that are left are all names
abbrev pub invariant-loop-place : goal.invariant-loop-place
invariant-loop-place l = l.names.items ++ drop l.place l.more ≡ l.initial.names.items ++ l.more
