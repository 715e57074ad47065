use Rattle.std.proofs.Common.{◌≡◌, drop}
use Rattle.pa_bland.specs.Seen.{KeepsRoom}
use Rattle.pa_trial.specs.Trying.{tried_from, tried_of}
use Rattle.pa_trial.proofs.trial.tried.Given as goal

-- the terms of the rest give from here, with what is left so far, what all give from the start
abbrev pub invariant-loop-place : goal.invariant-loop-place
invariant-loop-place l = record {
  exact : tried_of l.premises l.most l.turn l.part l.terms
      ≡ tried_from l.premises l.most l.turn l.part l.place l.lefts (drop l.place l.terms);
  room : KeepsRoom l.initial.work l.work;
}
