use Rattle.std.proofs.Common.{◌≡◌, ◌++◌, map, drop}
use Rattle.serde_json.specs.View.{view}
use Rattle.pa_json.specs.Upgrades.{plain}
use Rattle.pa_json.proofs.upgrading.each_plain.Given as goal

-- the items so far, and then those that are left, are all
abbrev pub invariant-loop-tree : goal.invariant-loop-tree
invariant-loop-tree l =
    map view l.list.items ++ map (λ v. plain l.of (view v)) (drop l.tree-index l.items) ≡ map (λ v. plain l.of (view v)) l.items
