use Rattle.std.proofs.Common.{◌≡◌, ◌≤◌, ◌+◌, ◌*◌, drop, length, flat_map}
use Rattle.pa_witness.specs.Elimination.{positives_at}
use Rattle.pa_fourier.specs.StepFaults.{made_with, pairs_with, pairs_due}
use Rattle.pa_fourier.proofs.step.with_all_pairs.Given as goal

-- the rows that are made and those that are due for the rest are all
abbrev pub invariant-loop-p : goal.invariant-loop-p
invariant-loop-p l = record {
  whole : made_with l.initial.made.items (pairs_due l.column l.rows) ≡ made_with l.made.items
      (flat_map (pairs_with l.column l.rows) (positives_at l.column (drop l.p-index l.rows)));
  few : length l.made.items ≤ 4096 + 4096 * l.p-index;
}
