use Rattle.std.proofs.Common.{◌≡◌, ◌≤◌, ◌+◌, ◌∷◌, [], drop, length}
use Rattle.pa_fourier.specs.StepFaults.{made_with}
use Rattle.pa_fourier.proofs.Made.{substituted_from}
use Rattle.pa_fourier.proofs.step.with_substituted.Given as goal

-- the rows that are made and those that are due for the rest are all
abbrev pub invariant-loop-place : goal.invariant-loop-place
invariant-loop-place l = record {
  whole : made_with l.initial.made.items (substituted_from l.column l.p l.n (l.positive ∷ l.negative ∷ []) 0 l.rows)
      ≡ made_with l.made.items (substituted_from l.column l.p l.n (l.positive ∷ l.negative ∷ []) l.place (drop l.place l.rows));
  few : length l.made.items ≤ length l.initial.made.items + l.place;
}
