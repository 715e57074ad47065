use Rattle.std.proofs.Common.{◌≡◌, ◌+◌, ◌-◌, drop}
use Rattle.pa_bland.specs.Seen.{KeepsRoom}
use Rattle.pa_elim.specs.Projecting.{Projection, after_steps}
use Rattle.pa_elim.specs.Seen.{AreFollowed, AreInTurn, CanStep}
use Rattle.pa_elim.proofs.projecting.after_steps.Given as goal

-- The steps of the rest give from here what all give from the start, and what the rest lead to from here all lead to from the start.
abbrev pub invariant-loop-i : goal.invariant-loop-i
invariant-loop-i l = record {
  exact : after_steps l.limits.rows l.limits.pivots l.columns 1 l.places l.fn.start
      ≡ after_steps l.limits.rows l.limits.pivots (l.columns - l.i) (l.i + 1) (drop l.i l.places) l.projected;
  leads : (new : Projection) → AreFollowed l.limits.rows (l.columns - l.i) (drop l.i l.places) l.projected new
      → AreFollowed l.limits.rows l.columns l.places l.fn.start new;
  can : CanStep (l.columns - l.i) l.projected;
  turns : AreInTurn (l.columns - l.i) (drop l.i l.places);
  room : KeepsRoom l.initial.work l.work;
}
