use Rattle.std.proofs.Common.{◌≡◌, ◌*◌, length, map}
use Rattle.pa_tableau.specs.Arithmetic.{at_width, each}
use Rattle.pa_tableau.specs.LinesOf.{lines_of}
use Rattle.pa_tableau.specs.Tableau.{other_reduced}
use Rattle.pa_tableau.proofs.Walks.{walk}
use Rattle.pa_tableau.proofs.cells.reduce_lines.Given as goal

-- the lines so far and the others make all lines
abbrev pub invariant-loop-row : goal.invariant-loop-row
invariant-loop-row g l = record {
  place : l.from ≡ l.row * length l.ps;
  exact : each (other_reduced (at_width g.F.Fraction.WIDTH) l.pivot l.skipped l.column (map g.F.Fraction.value l.ps)) 0
      (lines_of l.lines (length l.ps) (map g.F.Fraction.value l.initial.cells))
      ≡ walk (other_reduced (at_width g.F.Fraction.WIDTH) l.pivot l.skipped l.column (map g.F.Fraction.value l.ps)) l.row
      (lines_of l.lines (length l.ps) (map g.F.Fraction.value l.cells));
}
