use Rattle.std.proofs.Common.{◌≡◌, drop}
use Rattle.pa_bland.specs.Seen.{KeepsRoom}
use Rattle.pa_discharge.specs.Discharging.{whole_from}
use Rattle.pa_discharge.proofs.rounds.first_stuck.Given as goal

-- what the parts of the rest find is what all find
abbrev pub invariant-loop-part : goal.invariant-loop-part
invariant-loop-part l = record {
  exact : whole_from l.premises l.most 0 l.terms l.standing ≡ whole_from l.premises l.most l.part (drop l.part l.terms) (drop l.part l.standing);
  room : KeepsRoom l.initial.work l.work;
}
