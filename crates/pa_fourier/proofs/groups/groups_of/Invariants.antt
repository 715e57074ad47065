use Rattle.std.proofs.Common.{◌≡◌, ◌≤◌, length, vec_len, vec_capacity}
use Rattle.pa_fourier.proofs.GroupPlaces.{ArePlaced}
use Rattle.pa_fourier.proofs.groups.groups_of.Given as goal

-- each row so far has the place of its direction, and there is room for the rest
abbrev pub invariant-loop-row : goal.invariant-loop-row
invariant-loop-row l = record {
  count : length l.groups.items ≡ l.row-index;
  filled : vec_len l.groups ≡ l.row-index;
  room : length l.rows ≤ vec_capacity l.groups;
  few : length l.directions.keys ≤ l.row-index;
  placed : ArePlaced l.row-index l.rows l.directions.keys l.groups.items;
}
