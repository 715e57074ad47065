use Rattle.std.proofs.Common.{ℕ, ◌<◌, ◌+◌, get_or, pos}
use Rattle.pa_row.proofs.checked.are_ascending.Given as goal

-- each place before is below the next
abbrev pub invariant-loop-i : goal.invariant-loop-i
invariant-loop-i l = (k : ℕ) → k + 1 < l.i → (get_or l.parts k (0, pos 0)).0 < (get_or l.parts (k + 1) (0, pos 0)).0
