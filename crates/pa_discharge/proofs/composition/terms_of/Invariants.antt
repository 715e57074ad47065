use Rattle.std.proofs.Common.{◌≡◌, ◌++◌, drop, map}
use Rattle.pa_meaning.specs.Composition.{assumptions_over, names_of}
use Rattle.pa_discharge.specs.Discharging.{terms_of}
use Rattle.pa_discharge.proofs.composition.terms_of.Given as goal

-- the assumptions of the parts so far and those of the rest are all
abbrev pub invariant-loop-place : goal.invariant-loop-place
invariant-loop-place l =
    map (λ v. v.items) l.terms.items ++ map (assumptions_over (names_of l.parts)) (drop l.place l.parts) ≡ terms_of l.parts
