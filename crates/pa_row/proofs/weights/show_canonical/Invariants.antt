use Rattle.std.proofs.Common.{All, take}
use Rattle.pa_row.specs.Width.{IsCanonical}
use Rattle.pa_row.proofs.weights.show_canonical.Given as goal

-- those that were read are canonical
abbrev pub invariant-loop-w : goal.invariant-loop-w
invariant-loop-w l = All IsCanonical (take l.w-index l.weights)
