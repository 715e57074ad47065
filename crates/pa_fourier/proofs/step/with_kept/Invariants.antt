use Rattle.std.proofs.Common.{◌≡◌, ◌≤◌, ◌+◌, ◌++◌, drop, length}
use Rattle.pa_witness.specs.Steps.{kept_at}
use Rattle.pa_fourier.proofs.step.with_kept.Given as goal

-- the rows that are made and those of the rest are all
abbrev pub invariant-loop-row : goal.invariant-loop-row
invariant-loop-row l = record {
  whole : l.made.items ++ kept_at l.column (drop l.row-index l.rows) ≡ l.initial.made.items ++ kept_at l.column l.rows;
  few : length l.made.items ≤ length l.initial.made.items + l.row-index;
}
