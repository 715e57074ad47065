-- A difference more, a refused one, and all of them.
use Rattle.std.proofs.Common.{◌∙◌, ◌≤◌, ◌+◌, inr, ℤ, List, All, ap, sym, subst, rules, arith}
use Rattle.std.proofs.lemmas.List.Elements.{All-push}
use Rattle.pa_math.specs.Answers.{told_as}
use Rattle.pa_row.specs.Answers.{as_fault}
use Rattle.pa_row.specs.Fractions.{IsFraction}
use Rattle.pa_replay.specs.Readings.{difference_at}
use Rattle.pa_bland.proofs.OneMore.{from_line, read_all, read_more, read_refused}
use Rattle.pa_bland.proofs.read.differences.Goals as goal

pub returns-in_default-difference-clause-exact : goal.returns-in_default-difference-clause-exact
returns-in_default-difference-clause-exact g c =
    inr (ap (told_as as_fault) (c.loop-line.invariant.made
    ∙ read_refused (difference_at c.args.lines c.args.rows c.args.work.now.table) c.args.lines c.loop-line.line c.loop-line.numbers.items
    c.in_default-difference.field-0 c.loop-line-test.true (sym c.in_default-difference.ensures.exact)))

pub loop-line-preserved : goal.loop-line-preserved
loop-line-preserved g c = record {
  made = c.loop-line.invariant.made
      ∙ read_more (difference_at c.args.lines c.args.rows c.args.work.now.table) c.args.lines c.loop-line.line c.loop-line.numbers.items
      c.in-Ok-difference.number c.loop-line-test.true (sym c.in-Ok-difference.ensures.exact)
      ∙ ap (λ (done : List (ℤ × ℤ)). from_line (difference_at c.args.lines c.args.rows c.args.work.now.table) c.args.lines (c.loop-line.line + 1) done)
      (sym c.push_reserved.ensures.items);
  fractions = subst (λ (fs : List (ℤ × ℤ)). All IsFraction fs) (sym c.push_reserved.ensures.items)
      (All-push IsFraction c.loop-line.numbers.items c.in-Ok-difference.number c.loop-line.invariant.fractions c.in-Ok-difference.ensures.fraction);
  count = search rules;
  room = search rules;
}

pub returns-clause-exact : goal.returns-clause-exact
returns-clause-exact g c =
    let high : c.args.lines ≤ c.loop-line.line = (let test = c.loop-line-test.false in omega (arith, test)) in
    ap (told_as as_fault) (c.loop-line.invariant.made
    ∙ read_all (difference_at c.args.lines c.args.rows c.args.work.now.table) c.args.lines c.loop-line.line c.loop-line.numbers.items high)
