use Rattle.std.proofs.Common.{ℕ, ℤ, All, take, pos}
use lib.Signed.{◌<ℤ◌}
use Rattle.pa_row.specs.Width.{Fits}
use Rattle.pa_row.proofs.checked.are_numerators.Given as goal

-- those before are positive and narrow
abbrev pub invariant-loop-n : goal.invariant-loop-n
invariant-loop-n l = All (λ (part : ℕ × ℤ). (pos 0 <ℤ part.1) × Fits part.1) (take l.n-index l.parts)
