use Rattle.std.proofs.Common.{◌≡◌, ◌≤◌, ◌++◌, drop, length, map, vec_len, vec_capacity}
use Rattle.pa_farkas.specs.Answered.{at_place}
use Rattle.pa_farkas.proofs.sieve.at_places.Given as goal

-- the parts so far and the others are all, and there is room for them
abbrev pub invariant-loop-part : goal.invariant-loop-part
invariant-loop-part l = record {
  made : l.parts.items ++ map (at_place l.places) (drop l.part-index l.w.parts) ≡ map (at_place l.places) l.w.parts;
  count : vec_len l.parts ≡ l.part-index;
  room : length l.w.parts ≤ vec_capacity l.parts;
}
