use Rattle.std.proofs.Common.{◌≡◌, ◌-◌, []}
use Rattle.pa_bland.specs.Seen.{KeepsRoom}
use Rattle.pa_farkas.specs.Answered.{filtered}
use Rattle.pa_farkas.specs.Seen.{IsFiltered}
use Rattle.pa_farkas.proofs.sieve.filtered.Given as goal

-- the drops so far and those of the others are all
abbrev pub invariant-loop-place : goal.invariant-loop-place
invariant-loop-place l = record {
  state : IsFiltered l.fn.start.rows l._place l.filter;
  room : KeepsRoom l.initial.work l.work;
  exact : filtered l.group l.fn.start.rows l.most [] 0 l.count ≡ filtered l.group l.fn.start.rows l.most l.filter.drops l._place (l.count - l._place);
}
