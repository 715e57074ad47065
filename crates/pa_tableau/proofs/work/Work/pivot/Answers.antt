use Rattle.std.proofs.Common.{◌∙◌, ◌+◌, ◌<◌, length, map, take, ap, ap₂, arith}
use Rattle.std.proofs.lemmas.List.{length-set}
use Rattle.std.proofs.Math.Seq.{take-set-lt}
use Rattle.pa_tableau.specs.Arithmetic.{at_width, left_by}
use Rattle.pa_tableau.specs.LinesOf.{lines_of}
use Rattle.pa_tableau.specs.Tableau.{Tableau, lines_pivoted, pivoted}
use Rattle.pa_tableau.specs.Work.{Work}
use Rattle.pa_tableau.proofs.Pivots.{pivot_table}
use Rattle.pa_tableau.proofs.Rooms.{written_back}
use Rattle.pa_tableau.proofs.work.Work.pivot.Goals as goal

pub invariant_of-self : goal.invariant_of-self
invariant_of-self g c =
    let w = c.self.inside in
    let inv = c.self.invariant in
    let cells = ap length (written_back w.cells.len c.pivot_cells.new.cells w.cells.items (c.pivot_cells.auto.cells ∙ c.deref_mut-2.ensures.len)) in
    let copy = ap length (written_back w.pivot_line.len c.pivot_cells.new.copy w.pivot_line.items (c.pivot_cells.auto.copy ∙ c.deref_mut.ensures.len)) in
    let basis = length-set w.basis.items c.args.line c.args.column in
    let old_cells = ap length c.deref_mut-2.ensures.value in
    let old_copy = ap length c.deref_mut.ensures.value in (
      inv.0,
      inv.1,
      inv.2,
      inv.3,
      inv.4,
      omega (arith, inv.5, cells, c.pivot_cells.auto.cells, old_cells),
      omega (arith, inv.6, copy, c.pivot_cells.auto.copy, old_copy),
      omega (arith, inv.7, basis),
      inv.8,
    )

pub returns-clause-table : goal.returns-clause-table
returns-clause-table g c =
    let w = c.self.inside in
    let n = w.lines + 2 in
    let value = g.F.Fraction.value in
    let lines = ap (λ (v : Work). v.lines) c.self.view_is in
    let low : c.args.line < w.lines = omega (arith, lines, c.requires.line) in
    let t : Tableau =
    record { lines = lines_of n w.columns (map value w.cells.items); basis = take w.lines w.basis.items; turned = take w.lines w.turned.items } in
    let cells = written_back w.cells.len c.pivot_cells.new.cells w.cells.items (c.pivot_cells.auto.cells ∙ c.deref_mut-2.ensures.len) in
    let basis = take-set-lt w.lines w.basis.items c.args.line c.args.column low in
    ap₂ (λ cells basis. left_by {A = Tableau} c.pivot_cells.result
    (record { lines = lines_of n w.columns (map value cells); basis = basis; turned = take w.lines w.turned.items })) cells basis
    ∙ pivot_table (at_width g.F.Fraction.WIDTH) c.args.number c.args.line c.args.column t c.pivot_cells.result
    (lines_of n w.columns (map value c.pivot_cells.new.cells))
    (c.pivot_cells.ensures
    ∙ ap (λ cells. lines_pivoted (at_width g.F.Fraction.WIDTH) c.args.number c.args.line c.args.column (lines_of n w.columns (map value cells)))
    c.deref_mut-2.ensures.value)
    ∙ ap (λ (v : Work). pivoted (at_width g.F.Fraction.WIDTH) c.args.number c.args.line c.args.column v.table) c.self.view_is
