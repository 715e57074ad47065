use Rattle.std.proofs.Common.{◌≡◌, ◌++◌, drop}
use Rattle.std.specs.Prelude.{flat_map}
use Rattle.pa_meaning.specs.Composition.{guarantees_over}
use Rattle.pa_holds.specs.Composed.{all_guarantees}
use Rattle.pa_parts.specs.Composing.{names_in}
use Rattle.pa_parts.proofs.over.all_guarantees.Given as goal

-- the guarantees so far and those of the rest are all
abbrev pub invariant-loop-place : goal.invariant-loop-place
invariant-loop-place l = l.all.items ++ flat_map (guarantees_over (names_in l.ports)) (drop l.place l.parts)
    ≡ flat_map (guarantees_over (names_in l.ports)) l.parts
