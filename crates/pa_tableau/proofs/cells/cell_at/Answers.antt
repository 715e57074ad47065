use Rattle.pa_tableau.proofs.Steps.{cell_is}
use Rattle.pa_tableau.proofs.cells.cell_at.Goals as goal

pub returns : goal.returns
returns g c =
    λ n low. cell_is g.F.Fraction.value n c.args.columns c.args.line c.args.column c.args.cells.now c.index-cells-line.result low c.requires.column
    c.requires.room c.index-cells-line.is
