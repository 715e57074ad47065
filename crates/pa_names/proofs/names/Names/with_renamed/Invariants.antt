use Rattle.std.proofs.Common.{◌≡◌, ◌++◌, drop, length}
use Rattle.pa_names.specs.Names.{all_renamed}
use Rattle.pa_names.proofs.names.Names.with_renamed.Given as goal

-- what is held is as long as its place says, and the renamed names that are left make all of them
abbrev pub invariant-loop-place : goal.invariant-loop-place
invariant-loop-place l = record {
  place : length l.self ≡ l.place;
  whole : l.self ++ all_renamed l.pairs (drop l.place l.names) ≡ all_renamed l.pairs l.names;
}
