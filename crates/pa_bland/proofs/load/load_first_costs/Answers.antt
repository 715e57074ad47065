use Rattle.std.proofs.Common.{◌≡◌, ◌∙◌, ◌<◌, ℕ, List, Result, Ok, Err, length, get_or, take, refl, sym, ap, rules, subst, arith, zero-add}
use Rattle.std.specs.List.{range_with_len}
use Rattle.std.proofs.lemmas.List.FromFn.{get_or-range_with_len, length-range_with_len}
use Rattle.pa_math.specs.Answers.{and_then}
use Rattle.pa_math.specs.Rational.{ℚ}
use Rattle.pa_tableau.specs.declared.wide_at.WideAt.{WideAt}
use Rattle.pa_tableau.specs.Arithmetic.{Arithmetic, at_width}
use Rattle.pa_tableau.specs.Tableau.{line_at}
use Rattle.pa_tableau.specs.Work.{Work}
use Rattle.pa_replay.specs.Problem.{cost_in, first_costs}
use Rattle.pa_bland.specs.Seen.{with_cell}
use Rattle.pa_bland.proofs.Filled.{IsFilling, filling_starts, filling_turns, shape_after}
use Rattle.pa_bland.proofs.FirstCosts.{costs_loaded, costs_refused, costs_stopped, lines_kept}
use Rattle.pa_bland.proofs.load.load_first_costs.Goals as goal
use Rattle.pa_replay.proofs.LoadSteps.{cost_step}

pub loop-column-init : goal.loop-column-init
loop-column-init g c = record {
  filling = filling_starts (cost_step (at_width g.F.Fraction.WIDTH) c.args.lines (take c.args.lines c.args.work.now.table.lines))
      (range_with_len 0 c.args.rows) c.args.work.now c.args.lines
      (omega (arith, c.requires.lines)) (let count = length-range_with_len 0 c.args.rows in let columns = c.requires.begun.columns in omega
      (arith, count, columns)) c.requires.clear;
  shape = record { room = record { lines = refl; rows = refl }; lines = refl; columns = refl };
}

pub loop-column-preserved : goal.loop-column-preserved
loop-column-preserved g c =
    let A : Arithmetic = at_width g.F.Fraction.WIDTH in
    let n : ℕ = c.args.lines in
    let j : ℕ = c.loop-column.column in
    let now : Work = c.loop-column.work in
    let lines : List (List ℚ) = take n c.args.work.now.table.lines in
    let xs : List ℕ = range_with_len 0 c.args.rows in
    let low : j < length xs = (let count = length-range_with_len 0 c.args.rows in let test = c.loop-column-test.true in omega (arith, count, test)) in
    let column : get_or xs j 0 ≡ j = get_or-range_with_len 0 c.args.rows j 0 c.loop-column-test.true ∙ zero-add j in
    record {
      filling = filling_turns (cost_step A n lines) xs c.args.work.now now c.set.new.self n j 0 tt c.loop-column.invariant.filling low
          (ap Ok c.set.ensures
          ∙ ap (λ (r : Result ℚ WideAt). and_then r (λ q. Ok (with_cell now n j q)))
          (c.in_ok-cost.ensures ∙ ap (λ lines. cost_in A n lines j)
          (lines_kept n c.args.work.now now (line_at now.table n) c.loop-column.invariant.filling.others) ∙ ap (cost_in A n lines) (sym column)));
      shape = shape_after c.args.work.now now c.set.new.self c.loop-column.invariant.shape
          (record {
            room = record { lines = ap (λ (w : Work). w.most_lines) c.set.ensures; rows = ap (λ (w : Work). w.most_rows) c.set.ensures };
            lines = ap (λ (w : Work). w.lines) c.set.ensures;
            columns = ap (λ (w : Work). w.columns) c.set.ensures;
          });
    }

pub returns-in_err-cost-clause-exact : goal.returns-in_err-cost-clause-exact
returns-in_err-cost-clause-exact g c =
    let A : Arithmetic = at_width g.F.Fraction.WIDTH in
    let wide : WideAt = c.in_err-cost.field-0.0 in
    let refused : first_costs A c.args.lines c.args.rows (take c.args.lines c.args.work.now.table.lines) ≡ Err wide =
    costs_stopped A c.args.lines c.args.rows c.loop-column.column c.args.work.now c.loop-column.work wide c.loop-column.invariant.filling
    c.loop-column-test.true c.in_err-cost.ensures in
    let told : c.from_residual.result ≡ Err wide = search rules in
    rw (told, refused) refl

pub returns-in_err-value-clause-exact : goal.returns-in_err-value-clause-exact
returns-in_err-value-clause-exact g c =
    let A : Arithmetic = at_width g.F.Fraction.WIDTH in
    let wide : WideAt = c.in_err-value.field-0.0 in
    let end : c.loop-column.column ≡ c.args.rows = omega (arith, c.loop-column-test.false, c.loop-column.auto.column-end) in
    let refused : first_costs A c.args.lines c.args.rows (take c.args.lines c.args.work.now.table.lines) ≡ Err wide =
    costs_refused A c.args.lines c.args.rows c.args.work.now c.loop-column.work wide c.requires.begun
    (subst (IsFilling (cost_step A c.args.lines (take c.args.lines c.args.work.now.table.lines))
    (range_with_len 0 c.args.rows) c.args.work.now c.loop-column.work c.args.lines) end c.loop-column.invariant.filling)
    c.in_err-value.ensures in
    let told : c.from_residual-in_err-value.result ≡ Err wide = search rules in
    rw (told, refused) refl

pub returns-clause-exact : goal.returns-clause-exact
returns-clause-exact g c =
    let A : Arithmetic = at_width g.F.Fraction.WIDTH in
    let end : c.loop-column.column ≡ c.args.rows = omega (arith, c.loop-column-test.false, c.loop-column.auto.column-end) in
    costs_loaded A c.args.lines c.args.rows c.args.work.now c.loop-column.work c.set-2.new.self (g.F.Fraction.value c.in_ok-value.value) c.requires.begun
    (omega (arith, c.requires.lines))
    (subst (IsFilling (cost_step A c.args.lines (take c.args.lines c.args.work.now.table.lines))
    (range_with_len 0 c.args.rows) c.args.work.now c.loop-column.work c.args.lines) end c.loop-column.invariant.filling)
    c.in_ok-value.ensures c.set-2.ensures
