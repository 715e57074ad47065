-- Each turn proves one row more; a stop at a row is the whole's.
use Rattle.std.proofs.Common.{◌+◌, ◌∙◌, subst, sym, rules}
use Rattle.pa_refine.proofs.Covered.{AreProved, IsSoFar, proved_more, so_far_more, so_far_stop, stop_shown}
use Rattle.pa_refine.proofs.covering.proved_each.Goals as goal

pub returns-in-Err-clause-exact : goal.returns-in-Err-clause-exact
returns-in-Err-clause-exact c =
    so_far_stop c.args.premises.now c.args.most c.args.first c.args.rows.now c.loop-place.place c.loop-place.weights.items c.index-rows-place.result
    c.in-Err.stop c.loop-place-test.true c.index-rows-place.is c.loop-place.invariant.exact c.in-Err.ensures.exact

pub returns-in-Err-clause-broken : goal.returns-in-Err-clause-broken
returns-in-Err-clause-broken c =
    stop_shown c.args.premises.now c.args.most c.args.first c.args.rows.now c.loop-place.place c.index-rows-place.result c.in-Err.stop
    c.loop-place-test.true c.index-rows-place.is c.in-Err.ensures.broken

pub loop-place-preserved : goal.loop-place-preserved
loop-place-preserved c = record {
  exact = subst (IsSoFar c.args.premises.now c.args.most c.args.first c.args.rows.now (c.loop-place.place + 1)) (sym c.push_reserved.ensures.items)
      (so_far_more c.args.premises.now c.args.most c.args.first c.args.rows.now c.loop-place.place c.loop-place.weights.items c.index-rows-place.result
      c.in-Ok-proved.w c.loop-place-test.true c.index-rows-place.is c.in-Ok-proved.ensures.exact c.loop-place.invariant.exact);
  proves = subst (AreProved c.args.premises.now c.args.most c.args.first c.args.rows.now (c.loop-place.place + 1)) (sym c.push_reserved.ensures.items)
      (proved_more c.args.premises.now c.args.most c.args.first c.args.rows.now c.loop-place.place c.loop-place.weights.items c.index-rows-place.result
      c.in-Ok-proved.w c.loop-place-test.true c.index-rows-place.is c.in-Ok-proved.ensures.proves c.loop-place.invariant.proves);
  room = record {
    lines = c.proved.ensures.room.lines ∙ c.loop-place.invariant.room.lines;
    rows = c.proved.ensures.room.rows ∙ c.loop-place.invariant.room.rows;
  };
  count = search rules;
  capacity = search rules;
}
