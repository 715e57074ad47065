use Rattle.std.proofs.Common.{◌≡◌, ◌≤◌, ◌++◌, drop, length, map, neg_ℤ, vec_len, vec_capacity}
use Rattle.pa_refine.proofs.goal.opposites.Given as goal

-- the numbers so far and the others are negated, and there is room for them
abbrev pub invariant-loop-i : goal.invariant-loop-i
invariant-loop-i l = record {
  made : l.opposites.items ++ map neg_ℤ (drop l.i l.numbers) ≡ map neg_ℤ l.numbers;
  filled : vec_len l.opposites ≡ l.i;
  room : length l.numbers ≤ vec_capacity l.opposites;
}
