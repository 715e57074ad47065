use Rattle.std.proofs.Common.{◌≡◌, ◌≤◌, ◌+◌, drop, length}
use Rattle.pa_fourier.specs.StepFaults.{made_with, pairs_with}
use Rattle.pa_fourier.proofs.step.with_pairs.Given as goal

-- the rows that are made and those that are due for the rest are all
abbrev pub invariant-loop-n : goal.invariant-loop-n
invariant-loop-n l = record {
  whole : made_with l.initial.made.items (pairs_with l.column l.rows l.p) ≡ made_with l.made.items (pairs_with l.column (drop l.n-index l.rows) l.p);
  few : length l.made.items ≤ length l.initial.made.items + l.n-index;
}
