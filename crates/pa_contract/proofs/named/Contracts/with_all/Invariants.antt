use Rattle.std.proofs.Common.{◌≡◌, ◌++◌}
use Rattle.std.specs.Vec.Iter.{into_iter_items}
use Rattle.pa_contract.proofs.named.Contracts.with_all.Given as goal

-- what is there, and what is left, make the whole list
abbrev pub invariant-loop-named : goal.invariant-loop-named
invariant-loop-named l = l.list.items ++ into_iter_items l.named-iterator ≡ l.fn.self ++ l.fn.others
