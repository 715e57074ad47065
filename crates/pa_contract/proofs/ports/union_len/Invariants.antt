use Rattle.std.proofs.Common.{◌≡◌, ◌+◌, ◌≤◌, drop, length}
use Rattle.std.specs.Str.{bytes_eq}
use Rattle.pa_math.specs.Lists.{union}
use Rattle.pa_contract.proofs.ports.union_len.Given as goal

-- the names so far, and what is new in the rest
abbrev pub invariant-loop-place : goal.invariant-loop-place
invariant-loop-place l = record {
  so_far : l.count + length (union bytes_eq l.names (drop l.place l.others)) ≡ length l.names + length (union bytes_eq l.names l.others);
  few : l.count ≤ length l.names + l.place;
}
