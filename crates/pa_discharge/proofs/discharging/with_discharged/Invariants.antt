use Rattle.std.proofs.Common.{◌≡◌}
use Rattle.pa_meaning.specs.Composition.{names_of}
use Rattle.pa_discharge.proofs.Grown.{IsGrowing}
use Rattle.pa_discharge.proofs.discharging.with_discharged.Given as goal

-- The premises have the guarantees of the parts so far that are discharged, and of the rest those that were before this round.
abbrev pub invariant-loop-place : goal.invariant-loop-place
invariant-loop-place l = record {
  growing : IsGrowing (names_of l.composition.parts) l.composition.parts l.round l.standing l.place l.grown;
  nominal : l.grown.premises.nominal ≡ l.fn.premises.nominal;
}
