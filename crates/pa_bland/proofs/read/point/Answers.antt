use Rattle.std.proofs.Common.{◌∙◌, ◌+◌, ℤ, List, All, ap, sym, subst, rules}
use Rattle.std.proofs.lemmas.List.Elements.{All-push}
use Rattle.pa_math.specs.Rational.{neg_ℚ}
use Rattle.pa_row.specs.Fractions.{IsFraction}
use Rattle.pa_tableau.specs.Tableau.{cell}
use Rattle.pa_replay.specs.Readings.{numbers_in, signed}
use Rattle.pa_bland.proofs.OneMore.{line_more}
use Rattle.pa_bland.proofs.read.point.Goals as goal

pub loop-line-preserved : goal.loop-line-preserved
loop-line-preserved g c = record {
  made = c.push_reserved.ensures.items
      ∙ line_more numbers_in (λ i. neg_ℚ (signed c.args.work.now.table i (cell c.args.work.now.table (c.args.lines + 1) (c.args.rows + i)))) c.loop-line.line
      c.loop-line.numbers.items c.numbers_of.result c.loop-line.invariant.made
      (c.numbers_of.ensures.value
      ∙ ap numbers_in (c.neg-number.ensures ∙ ap neg_ℚ (c.signed.ensures ∙ ap (signed c.args.work.now.table c.loop-line.line) c.cell.ensures)));
  fractions = subst (λ (fs : List (ℤ × ℤ)). All IsFraction fs) (sym c.push_reserved.ensures.items)
      (All-push IsFraction c.loop-line.numbers.items c.numbers_of.result c.loop-line.invariant.fractions c.numbers_of.ensures.fraction);
  count = search rules;
  room = search rules;
}
