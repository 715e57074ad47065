use Rattle.std.proofs.Common.{◌∙◌, ◌+◌, ◌-◌, ℕ, length, map, ap, Ok, Err, arith}
use Rattle.pa_tableau.specs.Arithmetic.{at_width}
use Rattle.pa_tableau.proofs.Steps.{line_inside, divided_line, divided_in_place}
use Rattle.pa_tableau.proofs.cells.divide_at.Goals as goal

pub returns-in-Err-clause-copy : goal.returns-in-Err-clause-copy
returns-in-Err-clause-copy g c = λ n low.
    let width : ℕ = length c.args.ps.now in
    let k : ℕ = c.args.from + width - c.args.from in
    c.in-Err.ensures
    ∙ divided_line g.F.Fraction.value (at_width g.F.Fraction.WIDTH)
    c.args.pivot n c.args.row c.args.column c.args.from k width c.args.cells.now c.index-line-column.result
    (omega arith) c.requires.place low c.requires.room c.requires.column c.index-line-column.is

pub returns-in-Err-clause-lines : goal.returns-in-Err-clause-lines
returns-in-Err-clause-lines g c = λ n low room.
    let width : ℕ = length c.args.ps.now in
    let k : ℕ = c.args.from + width - c.args.from in
    divided_in_place g.F.Fraction.value (at_width g.F.Fraction.WIDTH)
    c.args.pivot n c.args.row c.args.column c.args.from k width c.args.cells.now c.divide_line.new.line c.index-line-column.result (Err c.in-Err.wide)
    (omega arith) c.requires.place low room c.requires.room
    (c.divide_line.auto.line ∙ line_inside c.args.from k width c.args.cells.now (omega arith) c.requires.room)
    c.requires.column c.index-line-column.is c.in-Err.ensures

pub returns-clause-copy : goal.returns-clause-copy
returns-clause-copy g c = λ n low.
    let width : ℕ = length c.args.ps.now in
    let k : ℕ = c.args.from + width - c.args.from in
    ap (λ ps. Ok (map g.F.Fraction.value ps)) c.copy_from_slice.ensures.after
    ∙ c.in-Ok.ensures
    ∙ divided_line g.F.Fraction.value (at_width g.F.Fraction.WIDTH)
    c.args.pivot n c.args.row c.args.column c.args.from k width c.args.cells.now c.index-line-column.result
    (omega arith) c.requires.place low c.requires.room c.requires.column c.index-line-column.is

pub returns-clause-lines : goal.returns-clause-lines
returns-clause-lines g c = λ n low room.
    let width : ℕ = length c.args.ps.now in
    let k : ℕ = c.args.from + width - c.args.from in
    divided_in_place g.F.Fraction.value (at_width g.F.Fraction.WIDTH)
    c.args.pivot n c.args.row c.args.column c.args.from k width c.args.cells.now c.divide_line.new.line c.index-line-column.result (Ok c.in-Ok.field-0)
    (omega arith) c.requires.place low room c.requires.room
    (c.divide_line.auto.line ∙ line_inside c.args.from k width c.args.cells.now (omega arith) c.requires.room)
    c.requires.column c.index-line-column.is c.in-Ok.ensures
