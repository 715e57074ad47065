use Rattle.std.proofs.Common.{◌≡◌, ◌+◌, ◌++◌, length}
use Rattle.std.specs.Vec.Iter.{into_iter_items}
use Rattle.pa_compose.specs.Hiding.{named_steps}
use Rattle.pa_compose.proofs.steps.named.Given as goal

-- the steps so far and those that are left are all
abbrev pub invariant-loop-step : goal.invariant-loop-step
invariant-loop-step l = record {
  whole : l.all.items ++ named_steps l.names (length l.all.items) (into_iter_items l.step-iterator) ≡ named_steps l.names 0 l.fn.steps.items;
  count : length l.all.items + length (into_iter_items l.step-iterator) ≡ length l.fn.steps.items;
}
