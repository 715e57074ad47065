use Rattle.std.proofs.Common.{◌≡◌, ◌+◌, length, drop}
use Rattle.std.specs.Vec.Iter.{into_iter_items}
use Rattle.pa_bland.specs.Seen.{KeepsRoom}
use Rattle.pa_discharge.specs.Discharging.{round_from, round_of}
use Rattle.pa_discharge.proofs.rounds.round_of.Given as goal

-- the turns of the rest give from here what all give from the start
abbrev pub invariant-loop-before : goal.invariant-loop-before
invariant-loop-before l = record {
  exact : round_of l.premises l.most l.round l.terms l.fn.standing
      ≡ round_from l.premises l.most l.round (length l.found.brought) (drop (length l.found.brought) l.terms) l.found (into_iter_items l.before-iterator);
  count : length l.found.brought + length (into_iter_items l.before-iterator) ≡ length l.fn.standing;
  room : KeepsRoom l.initial.work l.work;
}
