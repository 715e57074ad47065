-- Each turn is one of the filter of the whole list.
use Rattle.std.proofs.Common.{◌≡◌, ◌⊎◌, ◌∙◌, ◌-◌, ℕ, List, Ok, Err, length, refl, sym, ap₂, ap, subst, add-one, arith}
use Rattle.pa_tableau.specs.Work.{HasRoom}
use Rattle.pa_row.specs.declared.place.Halt.TheVariants as Halt
use Rattle.pa_witness.specs.Thinning.{Dropped}
use Rattle.pa_farkas.specs.Answered.{filtered}
use Rattle.pa_farkas.specs.Seen.{IsFiltered, IsNext, IsReady, asked_about}
use Rattle.pa_farkas.proofs.FilterTurns.{filtered_stops, filtered_turn, has_room, place_inside, ready, started, stepped}
use Rattle.pa_farkas.proofs.sieve.filtered.Goals as goal

pub loop-place-init : goal.loop-place-init
loop-place-init c = record {
  state = subst (λ f. IsFiltered c.args.start.rows 0 f) (sym c.requires.start) (started c.args.start.rows);
  room = record { lines = refl; rows = refl };
  exact = ap₂ (λ (ds : List Dropped) (k : ℕ). filtered c.args.group c.args.start.rows c.args.most ds 0 k) (sym (ap (λ f. f.drops) c.requires.start))
      (let all : c.args.count ≡ c.args.count - 0 = omega arith in all);
}

pub taken-requires-clause-place : goal.taken-requires-clause-place
taken-requires-clause-place c =
    place_inside c.args.start.rows c.loop-place._place c.loop-place.filter c.loop-place.invariant.state
    (omega (arith, c.loop-place-test.true, c.requires.count))

pub decided-requires-clause-ready : goal.decided-requires-clause-ready
decided-requires-clause-ready c =
    subst IsReady (sym c.taken.ensures) (ready c.args.start.rows c.loop-place._place c.loop-place.filter c.loop-place.invariant.state
    (omega (arith, c.loop-place-test.true, c.requires.count)) c.args.columns c.requires.can)

pub decided-requires-clause-room : goal.decided-requires-clause-room
decided-requires-clause-room c =
    subst (λ t. HasRoom (length t.row.c) (length t.others.rows) c.loop-place.work) (sym c.taken.ensures)
    (has_room c.args.start.rows c.loop-place._place c.loop-place.filter c.loop-place.invariant.state (omega (arith, c.loop-place-test.true, c.requires.count))
    c.args.columns c.args.work.now c.loop-place.work c.requires.can c.requires.room c.loop-place.invariant.room)

pub returns-in-Err-clause-exact : goal.returns-in-Err-clause-exact
returns-in-Err-clause-exact c =
    filtered_stops c.args.group c.args.most c.args.start.rows c.loop-place._place c.args.count c.loop-place.filter Halt.Memory c.in-Err.fault _
    c.loop-place.invariant.state c.loop-place-test.true c.requires.count c.loop-place.invariant.exact
    (subst (λ t. (c.in-Err.fault ≡ Halt.Memory) ⊎ (asked_about c.args.group c.args.most t ≡ Err c.in-Err.fault)) c.taken.ensures c.in-Err.ensures.exact)

pub loop-place-preserved : goal.loop-place-preserved
loop-place-preserved c = record {
  state = subst (λ k. IsFiltered c.args.start.rows k c.in-Ok.next) (sym (add-one c.loop-place._place))
      (stepped c.args.start.rows c.loop-place._place c.loop-place.filter c.loop-place.invariant.state (omega (arith, c.loop-place-test.true, c.requires.count))
      c.in-Ok.next (subst (λ t. IsNext t c.in-Ok.next) c.taken.ensures c.in-Ok.ensures.step));
  room = record {
    lines = c.decided.ensures.room.lines ∙ c.loop-place.invariant.room.lines;
    rows = c.decided.ensures.room.rows ∙ c.loop-place.invariant.room.rows;
  };
  exact = c.loop-place.invariant.exact
      ∙ filtered_turn c.args.group c.args.most c.args.start.rows c.loop-place._place c.args.count c.loop-place.filter (Ok c.in-Ok.next)
      c.loop-place.invariant.state c.loop-place-test.true c.requires.count
      (sym (subst (λ t. asked_about c.args.group c.args.most t ≡ Ok c.in-Ok.next) c.taken.ensures c.in-Ok.ensures.exact));
}
