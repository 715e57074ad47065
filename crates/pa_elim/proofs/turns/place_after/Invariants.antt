use Rattle.std.proofs.Common.{◌≡◌, drop}
use Rattle.pa_elim.specs.Projecting.{place_after}
use Rattle.pa_elim.proofs.turns.place_after.Given as goal

-- the others bring the place to where all bring the column
abbrev pub invariant-loop-other : goal.invariant-loop-other
invariant-loop-other l = place_after (drop l.other-index l.gone) l.place ≡ place_after l.gone l.column
