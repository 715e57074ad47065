use Rattle.std.proofs.Common.{◌≡◌, ◌++◌, drop, map}
use Rattle.pa_contract.specs.Nominal.{value_of}
use Rattle.pa_trial.proofs.nominal.nominal_values.Given as goal

-- the values so far and those of the rest are all
abbrev pub invariant-loop-place : goal.invariant-loop-place
invariant-loop-place l = l.values.items ++ map (value_of l.nominal) (drop l.place l.names) ≡ map (value_of l.nominal) l.names
