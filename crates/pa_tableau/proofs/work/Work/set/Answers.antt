use Rattle.std.proofs.Common.{◌≡◌, ◌∙◌, ◌+◌, ◌*◌, ◌<◌, ◌≤◌, [], length, map, get_or, set, take, ap, arith}
use Rattle.std.proofs.lemmas.List.{with_items_is}
use Rattle.pa_tableau.specs.Work.{Work}
use Rattle.pa_tableau.specs.LinesOf.{lines_of}
use Rattle.pa_tableau.proofs.Rooms.{lines_in_room, line_in_room}
use Rattle.pa_tableau.proofs.work.Work.set.Goals as goal

pub set_at-requires-clause-room : goal.set_at-requires-clause-room
set_at-requires-clause-room g c =
    let w = c.self.inside in
    let inv = c.self.invariant in
    let lines = ap (λ (v : Work). v.lines) c.self.view_is in
    let low : c.args.line < w.lines + 2 = omega (arith, lines, c.requires.line) in
    let room =
    line_in_room c.args.line (w.lines + 2) w.columns (length w.cells.items) low
    (lines_in_room w.lines w.columns w.most_lines w.most_rows (length w.cells.items) inv.2 inv.4 inv.5) in
    let len = ap length c.deref_mut.ensures.value in
    omega (arith, room, len)

pub returns : goal.returns
returns g c =
    let w = c.self.inside in
    let inv = c.self.invariant in
    let n = w.lines + 2 in
    let value = g.F.Fraction.value in
    let lines = ap (λ (v : Work). v.lines) c.self.view_is in
    let low : c.args.line < w.lines + 2 = omega (arith, lines, c.requires.line) in
    let room = lines_in_room w.lines w.columns w.most_lines w.most_rows (length w.cells.items) inv.2 inv.4 inv.5 in
    let len = ap length c.deref_mut.ensures.value in
    let fits : (w.lines + 2) * w.columns ≤ length c.deref_mut.result.now = omega (arith, room, len) in
    let written : lines_of n w.columns (map value _)
    ≡ set (lines_of n w.columns (map value w.cells.items)) c.args.line
    (set (get_or (lines_of n w.columns (map value w.cells.items)) c.args.line []) c.args.column (value c.args.value)) =
    ap (λ xs. lines_of n w.columns (map value xs)) (with_items_is w.cells c.set_at.new.cells (c.set_at.auto.cells ∙ c.deref_mut.ensures.len))
    ∙ c.set_at.ensures n low fits
    ∙ ap (λ cells. set (lines_of n w.columns (map value cells)) c.args.line
    (set (get_or (lines_of n w.columns (map value cells)) c.args.line []) c.args.column (value c.args.value)))
    c.deref_mut.ensures.value in
    let view : Work → Work =
    λ v. record v {
      table = record v.table
          { lines = set v.table.lines c.args.line (set (get_or v.table.lines c.args.line []) c.args.column (value c.args.value)) };
    } in
    (λ i. record {
      most_lines = w.most_lines;
      most_rows = w.most_rows;
      lines = w.lines;
      columns = w.columns;
      table = record { lines = written i; basis = take w.lines w.basis.items; turned = take w.lines w.turned.items };
    })
    ∙ ap view c.self.view_is
