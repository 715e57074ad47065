-- Parallel rows by numbers. Only what private functions ensure is said with it.
use Rattle.std.specs.Prelude.{◌≡◌, ℕ, ◌<◌, List, length, pos, nat_eq, get_or}
use Rattle.pa_meaning.specs.Rows.{Row, row_at, primitive}
use Rattle.pa_witness.specs.Thinning.{are_parallel}

-- the row with bound 0, without the greatest common divisor of its coefficients: the same for parallel rows
abbrev pub direction : Row → Row
direction r = primitive (record { c = r.c; b = pos 0 })

-- a number for each row, the same for two rows exactly where they are parallel
pub record AreGroups (rows : List Row) (groups : List ℕ) : Type 0 where
  pub count : length groups ≡ length rows
  pub same : (i j : ℕ) → i < length rows → j < length rows → nat_eq (get_or groups i 0) (get_or groups j 0) ≡ are_parallel (row_at rows j) (row_at rows i)
