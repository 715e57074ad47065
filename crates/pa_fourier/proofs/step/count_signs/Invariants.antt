use Rattle.std.proofs.Common.{◌≡◌, ◌≤◌, ◌+◌, drop, length}
use Rattle.pa_witness.specs.Elimination.{positives_at, negatives_at}
use Rattle.pa_fourier.proofs.step.count_signs.Given as goal

-- the rows that are counted, and those of the rest
abbrev pub invariant-loop-row : goal.invariant-loop-row
invariant-loop-row l = record {
  positives : l.positives + length (positives_at l.column (drop l.row-index l.rows)) ≡ length (positives_at l.column l.rows);
  negatives : l.negatives + length (negatives_at l.column (drop l.row-index l.rows)) ≡ length (negatives_at l.column l.rows);
  few : l.positives + l.negatives ≤ l.row-index;
}
