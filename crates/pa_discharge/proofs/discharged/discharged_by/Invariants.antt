use Rattle.std.proofs.Common.{◌≡◌, ◌++◌}
use Rattle.std.specs.Vec.Iter.{into_iter_items}
use Rattle.pa_discharge.specs.Discharging.{discharges_of, left_rows}
use Rattle.pa_discharge.proofs.discharged.discharged_by.Given as goal

-- what the parts so far leave, with what the rest leave, is all
abbrev pub invariant-loop-part : goal.invariant-loop-part
invariant-loop-part l = record {
  discharges : l.left.discharges ++ discharges_of (into_iter_items l.part-iterator) ≡ discharges_of l.fn.parts.items;
  assumptions : l.left.assumptions ++ left_rows (into_iter_items l.part-iterator) ≡ left_rows l.fn.parts.items;
}
