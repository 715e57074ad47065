use Rattle.std.proofs.Common.{◌≡◌, ◌≤◌, ◌<◌, ℕ, false, map, length, vec_len, vec_capacity}
use Rattle.pa_meaning.specs.Rows.{row_at}
use Rattle.pa_witness.specs.Thinning.{is_constant}
use Rattle.pa_fourier.specs.Bounds.{bound_at, fraction}
use Rattle.pa_fourier.specs.Cleaning.{bound_of}
use Rattle.pa_fourier.proofs.bound.bounds_of.Given as goal

-- each row so far has its bound, and there is room for the rest
abbrev pub invariant-loop-row : goal.invariant-loop-row
invariant-loop-row l = record {
  count : length l.bounds.items ≡ l.row-index;
  filled : vec_len l.bounds ≡ l.row-index;
  room : length l.rows ≤ vec_capacity l.bounds;
  bound : (i : ℕ) → i < l.row-index → is_constant (row_at l.rows i) ≡ false → bound_at (map fraction l.bounds.items) i ≡ bound_of (row_at l.rows i);
}
