use Rattle.std.proofs.Common.{◌≡◌, ◌≤◌, take, length, vec_len, vec_capacity}
use Rattle.pa_row.proofs.row.copy_rows.Given as goal

-- the rows so far are copied, and there is room for the rest
abbrev pub invariant-loop-row : goal.invariant-loop-row
invariant-loop-row l = record {
  copied : l.copies.items ≡ take l.row-index l.rows;
  count : vec_len l.copies ≡ l.row-index;
  room : length l.rows ≤ vec_capacity l.copies;
}
