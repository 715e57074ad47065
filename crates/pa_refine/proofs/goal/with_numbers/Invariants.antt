use Rattle.std.proofs.Common.{◌≡◌, ◌++◌, drop, map, All}
use Rattle.pa_meaning.specs.Contracts.{coefficient_at}
use Rattle.pa_row.specs.Width.{Fits}
use Rattle.pa_refine.proofs.goal.with_numbers.Given as goal

-- the numbers so far and those of the ports that are left are all numbers, and each is within 126 bits
abbrev pub invariant-loop-place : goal.invariant-loop-place
invariant-loop-place l = record {
  value : l.numbers.items ++ map (coefficient_at l.goal.names l.goal.c) (drop l.place l.ports)
      ≡ l.initial.numbers.items ++ map (coefficient_at l.goal.names l.goal.c) l.ports;
  narrow : All Fits l.numbers.items;
}
