use Rattle.std.proofs.Common.{◌∙◌, ◌+◌, ◌-◌, length, arith}
use Rattle.pa_tableau.specs.Arithmetic.{at_width}
use Rattle.pa_tableau.proofs.Steps.{line_inside, reduced_in_place}
use Rattle.pa_tableau.proofs.cells.reduce_at.Goals as goal

pub returns : goal.returns
returns g c = λ n low room place.
    reduced_in_place g.F.Fraction.value (at_width g.F.Fraction.WIDTH) c.args.pivot n c.args.row c.args.column c.args.from
    (c.args.from + length c.args.ps.now - c.args.from)
    c.args.ps.now c.args.cells.now c.reduce_line.new.line c.index-line-column.result c.reduce_line.result
    (omega arith) place low room c.requires.room
    (c.reduce_line.auto.line
    ∙ line_inside c.args.from (c.args.from + length c.args.ps.now - c.args.from) (length c.args.ps.now) c.args.cells.now (omega arith) c.requires.room)
    c.requires.column c.index-line-column.is c.reduce_line.ensures
