-- Each turn stands one part more, and a halt is the whole's.
use Rattle.std.proofs.Common.{◌∙◌, sym, List, Option}
use Rattle.std.specs.Vec.Iter.{into_iter_items}
use Rattle.pa_discharge.specs.Rounds.{Brought}
use Rattle.pa_discharge.proofs.EachTurn.{one_fewer, round_goes_on, round_past, round_stops, turn_stands}
use Rattle.pa_discharge.proofs.rounds.round_of.Goals as goal

pub returns-in-Err-clause-exact : goal.returns-in-Err-clause-exact
returns-in-Err-clause-exact c =
    round_stops c.args.premises.now c.args.most c.args.round c.len-part.result c.args.terms.now c.at-rows.result.now c.loop-before.found c.in-Some.before
    (into_iter_items c.loop-before.before-iterator) (into_iter_items c.next.new.self) _ c.in-Err.halt c.len-part.ensures c.at-rows.ensures
    c.in-Some.ensures.steps.0 c.loop-before.invariant.exact c.in-Err.ensures.exact

pub loop-before-preserved : goal.loop-before-preserved
loop-before-preserved c =
    let rest : List (Option Brought) = into_iter_items c.next.new.self in
    let part = c.len-part.result in
    record {
      exact = round_goes_on c.args.premises.now c.args.most c.args.round part c.args.terms.now c.at-rows.result.now c.loop-before.found c.in-Ok.next
          c.in-Some.before (into_iter_items c.loop-before.before-iterator) rest _ c.len-part.ensures c.at-rows.ensures c.in-Some.ensures.steps.0
          c.in-Ok.ensures.exact c.loop-before.invariant.exact;
      count = one_fewer c.in-Some.before (into_iter_items c.loop-before.before-iterator) rest _ _ _ c.in-Some.ensures.steps.0
          (turn_stands c.args.premises.now c.args.most c.args.round part c.at-rows.result.now c.loop-before.found c.in-Some.before c.in-Ok.next
          c.in-Ok.ensures.exact) c.loop-before.invariant.count;
      room = record {
        lines = c.after_turn.ensures.room.lines ∙ c.loop-before.invariant.room.lines;
        rows = c.after_turn.ensures.room.rows ∙ c.loop-before.invariant.room.rows;
      };
    }

pub returns-clause-exact : goal.returns-clause-exact
returns-clause-exact c =
    c.loop-before.invariant.exact
    ∙ round_past c.args.premises.now c.args.most c.args.round _ _ c.loop-before.found (into_iter_items c.loop-before.before-iterator)
    (sym c.loop-before.before-iterator.rest.ok.0 ∙ c.in-None.ensures.steps.0)
