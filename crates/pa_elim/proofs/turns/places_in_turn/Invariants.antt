use Rattle.std.proofs.Common.{◌≡◌, ◌≤◌, ◌++◌, drop, length, vec_len, vec_capacity}
use Rattle.pa_elim.specs.Projecting.{in_turn, in_turn_after}
use Rattle.pa_elim.proofs.turns.places_in_turn.Given as goal

-- the places so far and those of the rest are all, and there is room for them
abbrev pub invariant-loop-i : goal.invariant-loop-i
invariant-loop-i l = record {
  whole : l.places.items ++ in_turn_after l.places.items (drop l.i l.gone) ≡ in_turn l.gone;
  count : vec_len l.places ≡ l.i;
  capacity : length l.gone ≤ vec_capacity l.places;
}
