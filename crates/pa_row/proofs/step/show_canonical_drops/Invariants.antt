use Rattle.std.proofs.Common.{All, take}
use Rattle.pa_row.specs.Width.{IsCanonical}
use Rattle.pa_row.proofs.step.show_canonical_drops.Given as goal

-- those that were read are canonical
abbrev pub invariant-loop-d : goal.invariant-loop-d
invariant-loop-d l = All (λ d. IsCanonical d.weights) (take l.d-index l.drops)
