use Rattle.std.proofs.Common.{◌+◌, ◌<◌, length, ap, arith}
use Rattle.pa_tableau.specs.Work.{Work}
use Rattle.pa_tableau.proofs.Rooms.{lines_in_room, line_in_room}
use Rattle.pa_tableau.proofs.work.Work.cell.Goals as goal

pub cell_at-requires-clause-room : goal.cell_at-requires-clause-room
cell_at-requires-clause-room g c =
    let w = c.self.inside in
    let inv = c.self.invariant in
    let lines = ap (λ (v : Work). v.lines) c.self.view_is in
    let columns = ap (λ (v : Work). v.columns) c.self.view_is in
    let low : c.args.line < w.lines + 2 = omega (arith, lines, c.requires.line) in
    let room =
    line_in_room c.args.line (w.lines + 2) w.columns (length w.cells.items) low
    (lines_in_room w.lines w.columns w.most_lines w.most_rows (length w.cells.items) inv.2 inv.4 inv.5) in
    let len = ap length c.deref.ensures.value in
    omega (arith, room, columns, len, c.requires.column)
