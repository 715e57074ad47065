-- The names and values so far are those of the pairs that were taken.
use Rattle.std.proofs.Common.{◌≡◌, ◌++◌, length, map}
use Rattle.std.specs.Vec.Iter.{into_iter_items, into_iter_len}
use Rattle.pa_json.proofs.values.values_from.Given as goal

-- the names and values so far, and then those that are left, are all
abbrev pub invariant-loop-name : goal.invariant-loop-name
invariant-loop-name l = record {
  names : l.names ++ map (λ pair. pair.0) (into_iter_items l.name-iterator) ≡ map (λ pair. pair.0) l.fn.pairs.items;
  values : l.values.items ++ map (λ pair. pair.1) (into_iter_items l.name-iterator) ≡ map (λ pair. pair.1) l.fn.pairs.items;
  count : into_iter_len l.name-iterator ≡ length (into_iter_items l.name-iterator);
}
