use Rattle.std.proofs.Common.{◌≡◌, ◌≤◌, ◌++◌, drop, length, map, neg_ℤ, vec_len, vec_capacity}
use Rattle.pa_fourier.proofs.equality.negated.Given as goal

-- the numbers so far and the others are negated, and there is room for them
abbrev pub invariant-loop-i : goal.invariant-loop-i
invariant-loop-i l = record {
  made : l.negatives.items ++ map neg_ℤ (drop l.i l.numbers) ≡ map neg_ℤ l.numbers;
  filled : vec_len l.negatives ≡ l.i;
  room : length l.numbers ≤ vec_capacity l.negatives;
}
