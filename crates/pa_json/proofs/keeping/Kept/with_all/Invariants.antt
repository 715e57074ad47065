-- The rows are kept one after another.
use Rattle.std.proofs.Common.{◌≡◌}
use Rattle.std.specs.Vec.Iter.{into_iter_items}
use Rattle.pa_json.specs.Kept.{kept_all}
use Rattle.pa_json.proofs.keeping.Kept.with_all.Given as goal

-- the rows that are left, added to those that are kept, make all
abbrev pub invariant-loop-row : goal.invariant-loop-row
invariant-loop-row l = kept_all l.kept (into_iter_items l.row-iterator) ≡ kept_all l.fn.self l.fn.rows.items
