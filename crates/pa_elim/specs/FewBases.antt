-- How many rows the steps of an elimination can make, and when so few bases can be chosen that its limit of pivots is never met.
use Rattle.std.specs.Prelude.{ℕ, zero, suc, pred, ◌*◌, ◌/◌, min, max}
use Rattle.pa_farkas.specs.FewBases.{HasFewBases}

-- No step makes more rows out of this many. It keeps those with 0 in the column and makes one of each pair of a positive and a negative one, of which
-- there are most where each is a half of the rows; where it substitutes an equality, it makes fewer than there were.
abbrev pub most_made : ℕ → ℕ
most_made rows = max rows (rows * rows / 4)

-- Neither the problems of the given rows, nor those of a step for each column that goes, have more bases than the limit of pivots. A step has one
-- column less, and no more rows than it can make, nor than the limit of rows.
abbrev pub HaveFewBases : (rows columns gone limit most : ℕ) → Type 0
HaveFewBases rows columns zero limit most = HasFewBases rows columns most
HaveFewBases rows columns (suc gone) limit most =
    HasFewBases rows columns most × HaveFewBases (min limit (most_made rows)) (pred columns) gone limit most
