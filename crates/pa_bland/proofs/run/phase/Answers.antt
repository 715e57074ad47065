use Rattle.std.proofs.Common.{◌∙◌}
use Rattle.pa_tableau.specs.Arithmetic.{at_width}
use Rattle.pa_bland.proofs.Phases.{phase_turn}
use Rattle.pa_bland.proofs.run.phase.Goals as goal

pub loop-done-preserved : goal.loop-done-preserved
loop-done-preserved g c = record {
  begun = record {
    lines = c.in-Ok.ensures.room.2 ∙ c.loop-done.invariant.begun.lines;
    columns = c.in-Ok.ensures.room.3 ∙ c.loop-done.invariant.begun.columns;
    small_lines = c.requires.begun.small_lines;
    small_rows = c.requires.begun.small_rows;
  };
  room = record { lines = c.in-Ok.ensures.room.0 ∙ c.loop-done.invariant.room.lines; rows = c.in-Ok.ensures.room.1 ∙ c.loop-done.invariant.room.rows };
  exact = c.loop-done.invariant.exact
      ∙ phase_turn (at_width g.F.Fraction.WIDTH)
      c.args.lines c.args.rows c.args.cost c.loop-done.done c.args.most c.in-Enters.column c.loop-done.work.table c.enter.new.work.table
      c.loop-done-test.true c.in-Enters.ensures.exact c.in-Ok.ensures.table;
}
