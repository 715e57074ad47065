use Rattle.std.proofs.Common.{◌≡◌, ◌-◌, length}
use Rattle.pa_bland.specs.Seen.{KeepsRoom}
use Rattle.pa_discharge.specs.Discharging.{brought_of, rounds_from}
use Rattle.pa_discharge.specs.Seen.{IsStanding, asked_by}
use Rattle.pa_discharge.proofs.discharging.all_discharged.Given as goal

-- the rounds that are left give from here what all give from the start
abbrev pub invariant-loop-round : goal.invariant-loop-round
invariant-loop-round l = record {
  exact : brought_of (asked_by l.composition l.fn.nominal l.most)
      ≡ rounds_from (asked_by l.composition l.fn.nominal l.most) l.round (length l.composition.parts - l.round) l.state.brought;
  standing : IsStanding l.composition l.round l.state;
  nominal : l.state.premises.nominal ≡ l.fn.nominal;
  room : KeepsRoom l.initial.work l.work;
}
