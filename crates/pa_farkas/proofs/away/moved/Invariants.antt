use Rattle.std.proofs.Common.{◌≡◌, ◌≤◌, All, drop, length, vec_len, vec_capacity}
use Rattle.pa_frac.specs.Width.{Fits}
use Rattle.pa_farkas.specs.Answered.{moved_in}
use Rattle.pa_farkas.proofs.Turns.{moved_on}
use Rattle.pa_farkas.proofs.away.moved.Given as goal

-- the numbers so far and those of the rest are all, and there is room for them
abbrev pub invariant-loop-i : goal.invariant-loop-i
invariant-loop-i l = record {
  made : moved_in l.times l.numbers l.direction ≡ moved_on l.moved.items (moved_in l.times (drop l.i l.numbers) (drop l.i l.direction));
  narrow : All (Fits 126) l.moved.items;
  count : vec_len l.moved ≡ l.i;
  room : length l.numbers ≤ vec_capacity l.moved;
}
