use Rattle.std.proofs.Common.{◌≡◌, ◌++◌, All}
use Rattle.std.specs.Vec.Iter.{into_iter_items}
use Rattle.pa_discharge.specs.Meant.{HasNumbers}
use Rattle.pa_answers.specs.Answers.{stuck_rows}
use Rattle.pa_answers.proofs.composing.stuck_rows.Given as goal

-- the rows so far and those that are left are all
abbrev pub invariant-loop-one : goal.invariant-loop-one
invariant-loop-one l = record {
  whole : l.rows.items ++ stuck_rows l.parts (into_iter_items l.one-iterator) ≡ stuck_rows l.parts l.fn.stuck.items;
  numbers : All (HasNumbers l.parts) (into_iter_items l.one-iterator);
}
