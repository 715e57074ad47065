use Rattle.std.proofs.Common.{◌≡◌, ◌+◌, length}
use Rattle.std.specs.Vec.Iter.{into_iter_items}
use Rattle.pa_script.specs.Steps.{each}
use Rattle.pa_script.specs.Lines.{with_new_name, different}
use Rattle.pa_script.proofs.names.different.Given as goal

abbrev pub invariant-loop-name : goal.invariant-loop-name
invariant-loop-name l = record {
  answer : each (with_new_name l.fn.number) l.names (into_iter_items l.name-iterator) ≡ different l.fn.number l.fn.mentions;
  count : length l.names + length (into_iter_items l.name-iterator) ≡ length l.fn.mentions;
}
