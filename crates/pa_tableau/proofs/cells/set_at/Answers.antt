use Rattle.std.proofs.Common.{◌+◌, ◌-◌, ◌*◌, refl, arith}
use Rattle.pa_tableau.proofs.Steps.{set_in_place}
use Rattle.pa_tableau.proofs.cells.set_at.Goals as goal

pub returns : goal.returns
returns g c = λ n low room.
    set_in_place g.F.Fraction.value n c.args.columns c.args.line c.args.column (c.args.line * c.args.columns)
    (c.args.line * c.args.columns + c.args.columns - c.args.line * c.args.columns)
    c.args.cells.now c.args.value (omega arith) refl low room c.requires.room
