-- The names are added one after another.
use Rattle.std.proofs.Common.{◌≡◌, ◌++◌, take, drop}
use Rattle.pa_json.proofs.ports.with_names.Given as goal

-- the names so far, and then those that are left, are all
abbrev pub invariant-loop-place : goal.invariant-loop-place
invariant-loop-place l = l.all ++ drop l.place (take l.to l.others) ≡ l.fn.names ++ drop l.from (take l.to l.others)
