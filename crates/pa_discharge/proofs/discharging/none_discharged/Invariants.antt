use Rattle.std.proofs.Common.{◌≡◌, None, replicate}
use Rattle.pa_discharge.proofs.discharging.none_discharged.Given as goal

-- none so far
abbrev pub invariant-loop-part : goal.invariant-loop-part
invariant-loop-part l = l.parts.items ≡ replicate l._part None
