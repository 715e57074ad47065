-- The names are added one after another.
use Rattle.std.proofs.Common.{◌≡◌, ◌++◌}
use Rattle.pa_json.proofs.ports.Ports.into_names.Given as goal

-- the names so far, and then those that are left, are all
abbrev pub invariant-loop-name : goal.invariant-loop-name
invariant-loop-name l = l.names ++ l.name-iterator ≡ l.fn.self
