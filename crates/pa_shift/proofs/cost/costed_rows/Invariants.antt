use Rattle.std.proofs.Common.{◌≡◌, ◌≤◌, drop, length, vec_len, vec_capacity}
use Rattle.pa_shift.specs.Shifting.{costed_in}
use Rattle.pa_shift.proofs.Turns.{costed_on}
use Rattle.pa_shift.proofs.cost.costed_rows.Given as goal

-- the rows so far and those of the others are all, and there is room for them
abbrev pub invariant-loop-row : goal.invariant-loop-row
invariant-loop-row l = record {
  made : costed_on l.all.items (costed_in l.nominal (drop l.row-index l.rows)) ≡ costed_in l.nominal l.rows;
  count : vec_len l.all ≡ l.row-index;
  room : length l.rows ≤ vec_capacity l.all;
}
