use Rattle.pa_replay.specs.Readings.{last_at}
use Rattle.pa_bland.proofs.OneMore.{place_more}
use Rattle.pa_bland.proofs.read.weights.Goals as goal

pub loop-place-preserved : goal.loop-place-preserved
loop-place-preserved g c = record {
  made = place_more (last_at c.args.lines c.args.rows c.args.work.now.table) c.loop-place.place c.loop-place.parts.items c.push_last.new.parts.items
      c.loop-place.invariant.made c.in-Ok.ensures.exact;
  fractions = c.in-Ok.ensures.fractions;
}
