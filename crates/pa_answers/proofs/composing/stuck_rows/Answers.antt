use Rattle.std.proofs.Common.{All, subst}
use Rattle.std.proofs.lemmas.List.Elements.{All-tail}
use Rattle.std.specs.Vec.Iter.{into_iter_items}
use Rattle.pa_discharge.specs.Meant.{HasNumbers}
use Rattle.pa_answers.proofs.Compositions.{rows_more}
use Rattle.pa_answers.proofs.composing.stuck_rows.Goals as goal

-- this row goes behind those so far
pub loop-one-preserved : goal.loop-one-preserved
loop-one-preserved c = record {
  whole = rows_more c.args.parts.now c.in-Some.one (into_iter_items c.loop-one.one-iterator) (into_iter_items c.next.new.self) c.loop-one.rows.items
      c.in-Ok.more.items _ c.in-Ok.ensures c.in-Some.ensures.steps.0 c.loop-one.invariant.whole;
  numbers = All-tail (HasNumbers c.args.parts.now) c.in-Some.one (into_iter_items c.next.new.self)
      (subst (All (HasNumbers c.args.parts.now)) c.in-Some.ensures.steps.0 c.loop-one.invariant.numbers);
}
