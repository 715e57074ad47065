use Rattle.std.proofs.Common.{◌≡◌, ◌≤◌, All, vec_len, vec_capacity}
use Rattle.pa_row.specs.Fractions.{IsFraction}
use Rattle.pa_replay.specs.Readings.{difference_at, differences_read}
use Rattle.pa_bland.proofs.OneMore.{from_line}
use Rattle.pa_bland.proofs.read.differences.Given as goal

-- the differences of the first lines, and there is room for the others
abbrev pub invariant-loop-line : goal.invariant-loop-line
invariant-loop-line g l = record {
  made : differences_read l.lines l.rows l.work.table ≡ from_line (difference_at l.lines l.rows l.work.table) l.lines l.line l.numbers.items;
  fractions : All IsFraction l.numbers.items;
  count : vec_len l.numbers ≡ l.line;
  room : l.lines ≤ vec_capacity l.numbers;
}
