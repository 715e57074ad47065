use Rattle.std.proofs.Common.{◌≡◌, ◌≤◌, vec_len, vec_capacity}
use Rattle.pa_farkas.specs.Seen.{numbers_from}
use Rattle.pa_farkas.proofs.sieve.places_of.Given as goal

-- the places so far, and there is room for the others
abbrev pub invariant-loop-place : goal.invariant-loop-place
invariant-loop-place l = record {
  made : l.places.items ≡ numbers_from 0 l.place;
  count : vec_len l.places ≡ l.place;
  room : l.count ≤ vec_capacity l.places;
}
