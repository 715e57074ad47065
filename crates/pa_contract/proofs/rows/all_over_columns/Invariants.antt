use Rattle.std.proofs.Common.{◌≡◌, ◌++◌, drop, map}
use Rattle.pa_contract.specs.Columns.{over_columns}
use Rattle.pa_contract.proofs.rows.all_over_columns.Given as goal

-- the rows so far and those of the rest are all rows
abbrev pub invariant-loop-row : goal.invariant-loop-row
invariant-loop-row l = l.list.items ++ map (over_columns l.columns) (drop l.row-index l.rows) ≡ map (over_columns l.columns) l.rows
