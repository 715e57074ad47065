use Rattle.std.proofs.Common.{◌≡◌, ◌-◌, ◌<◌, ◌≤◌, drop, get_or, length}
use Rattle.pa_meaning.specs.Rows.{row_at}
use Rattle.pa_fourier.specs.Cleaning.{replaced_in}
use Rattle.pa_fourier.proofs.cleaning.is_replaced.Given as goal

-- none of the rows so far stands in, and the next one is of the group
abbrev pub invariant-loop-other : goal.invariant-loop-other
invariant-loop-other l = record {
  within : l.other ≤ length l.rows;
  group : l.other < length l.rows → get_or l.chains.groups.items l.other 0 ≡ get_or l.chains.groups.items l.place 0;
  told : replaced_in l.place (row_at l.rows l.place) 0 l.rows ≡ replaced_in l.place (row_at l.rows l.place) l.other (drop l.other l.rows);
}

abbrev pub decreases-loop-other : goal.decreases-loop-other
decreases-loop-other l = length l.rows - l.other
