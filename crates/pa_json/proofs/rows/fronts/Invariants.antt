-- The rows so far are the fronts of those that were taken.
use Rattle.std.proofs.Common.{◌≡◌, ◌++◌, map}
use Rattle.std.specs.Vec.Iter.{into_iter_items}
use Rattle.pa_contract.specs.Make.{first_columns}
use Rattle.pa_json.proofs.rows.fronts.Given as goal

-- the rows so far, and then those that are left, are all
abbrev pub invariant-loop-row : goal.invariant-loop-row
invariant-loop-row l = l.list.items ++ map (first_columns l.inputs) (into_iter_items l.row-iterator) ≡ map (first_columns l.inputs) l.fn.rows.items
