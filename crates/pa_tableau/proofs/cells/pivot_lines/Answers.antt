use Rattle.std.proofs.Common.{◌∙◌, ◌*◌, length, map, refl, ap, sym}
use Rattle.pa_frac.specs.Operations.{is_zero}
use Rattle.pa_tableau.specs.Tableau.{number_at}
use Rattle.pa_tableau.proofs.LinesOf.{line_of_lines}
use Rattle.pa_tableau.proofs.cells.pivot_lines.Goals as goal

pub divide_at-requires-clause-nonzero : goal.divide_at-requires-clause-nonzero
divide_at-requires-clause-nonzero g c =
    ap (λ line. is_zero (number_at line c.args.column))
    (sym (line_of_lines c.args.lines (length c.args.ps.now) c.args.row (c.args.row * length c.args.ps.now) (map g.F.Fraction.value c.args.cells.now)
    refl c.requires.row))
    ∙ c.requires.nonzero
