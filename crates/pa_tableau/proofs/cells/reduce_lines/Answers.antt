use Rattle.std.proofs.Common.{◌∙◌, ◌<◌, List, [], length, map, sym, arith}
use Rattle.pa_math.specs.Rational.{ℚ}
use Rattle.pa_tableau.specs.Arithmetic.{at_width}
use Rattle.pa_tableau.specs.LinesOf.{lines_of}
use Rattle.pa_tableau.specs.Tableau.{other_reduced}
use Rattle.pa_tableau.proofs.LinesOf.{length-lines_of}
use Rattle.pa_tableau.proofs.Walks.{walk_left, walk_end}
use Rattle.pa_tableau.proofs.cells.reduce_lines.Goals as goal

pub loop-row-preserved : goal.loop-row-preserved
loop-row-preserved g c =
    let now : List (List ℚ) = lines_of c.args.lines (length c.args.ps.now) (map g.F.Fraction.value c.loop-row.cells) in
    let low : c.loop-row.row < length now = rw length-lines_of (omega arith) in
    record {
      place = omega (arith, c.loop-row.invariant.place);
      exact = c.loop-row.invariant.exact
          ∙ walk_left (other_reduced (at_width g.F.Fraction.WIDTH) c.args.pivot c.args.skipped c.args.column (map g.F.Fraction.value c.args.ps.now))
          c.loop-row.row now _ [] c.in-Ok.field-0 low
          (c.in-Ok.ensures c.args.lines (omega arith) (omega (arith, c.requires.room, c.loop-row.auto.cells)) c.loop-row.invariant.place);
    }

pub returns : goal.returns
returns g c =
    let now : List (List ℚ) = lines_of c.args.lines (length c.args.ps.now) (map g.F.Fraction.value c.loop-row.cells) in
    sym (c.loop-row.invariant.exact
    ∙ walk_end (other_reduced (at_width g.F.Fraction.WIDTH) c.args.pivot c.args.skipped c.args.column (map g.F.Fraction.value c.args.ps.now)) c.loop-row.row now
    (rw length-lines_of (omega arith)))
