use Rattle.std.proofs.Common.{◌≡◌, ◌∙◌, ◌+◌, ◌*◌, map, take, replicate, ap, false, pos}
use Rattle.std.proofs.lemmas.List.{with_items_is, take-map}
use Rattle.std.specs.List.{range_with_len}
use Rattle.pa_math.specs.Rational.{whole}
use Rattle.pa_tableau.specs.Work.{Work}
use Rattle.pa_tableau.specs.LinesOf.{lines_of}
use Rattle.pa_tableau.specs.Tableau.{cleared}
use Rattle.pa_tableau.proofs.LinesOf.{cleared_lines}
use Rattle.pa_tableau.proofs.Fillings.{map-replicate}
use Rattle.pa_tableau.proofs.work.Work.begin.Goals as goal

pub returns : goal.returns
returns g c =
    let w = c.self.inside in
    let value = g.F.Fraction.value in
    let n = c.args.lines + 2 in
    let width = c.args.lines + c.args.rows + 1 in
    let cells : lines_of n width (map value _) ≡ replicate n (replicate width (whole (pos 0))) =
    ap (λ xs. lines_of n width (map value xs)) (with_items_is w.cells c.clear.new.cells (c.clear.auto.cells ∙ c.deref_mut.ensures.len))
    ∙ cleared_lines n width (map value c.clear.new.cells) (whole (pos 0))
    (take-map value (n * width) c.clear.new.cells ∙ ap (map value) c.clear.ensures ∙ map-replicate value (n * width) c.zero.result
    ∙ ap (replicate (n * width)) c.zero.ensures) in
    let basis : take c.args.lines _ ≡ range_with_len c.args.rows c.args.lines =
    ap (take c.args.lines) (with_items_is w.basis c.count_from.new.basis (c.count_from.auto.basis ∙ c.deref_mut-2.ensures.len)) ∙ c.count_from.ensures in
    let turned : take c.args.lines _ ≡ replicate c.args.lines false =
    ap (take c.args.lines) (with_items_is w.turned c.turn_back.new.turned (c.turn_back.auto.turned ∙ c.deref_mut-3.ensures.len)) ∙ c.turn_back.ensures in
    let view : Work → Work = λ v. record v { lines = c.args.lines; columns = width; table = cleared c.args.lines c.args.rows } in
    (λ i. record {
      most_lines = w.most_lines;
      most_rows = w.most_rows;
      lines = c.args.lines;
      columns = width;
      table = record { lines = cells i; basis = basis i; turned = turned i };
    })
    ∙ ap view c.self.view_is
