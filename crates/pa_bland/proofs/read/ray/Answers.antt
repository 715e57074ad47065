use Rattle.pa_replay.specs.Readings.{ray_at}
use Rattle.pa_bland.proofs.OneMore.{place_more}
use Rattle.pa_bland.proofs.read.ray.Goals as goal

pub loop-place-preserved : goal.loop-place-preserved
loop-place-preserved g c = record {
  made = place_more (ray_at c.args.lines c.args.column c.args.work.now.table) c.loop-place.place c.loop-place.parts.items c.push_ray.new.parts.items
      c.loop-place.invariant.made c.in-Ok.ensures.exact;
  fractions = c.in-Ok.ensures.fractions;
}
