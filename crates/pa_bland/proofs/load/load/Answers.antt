use Rattle.std.proofs.Common.{◌≡◌, ◌∙◌, ◌+◌, ◌-◌, ◌++◌, Ok, Err, pos, replicate, length, refl, ap, ap₂, rules, subst, arith, take}
use Rattle.std.specs.List.{range_with_len}
use Rattle.pa_math.specs.Answers.{and_then}
use Rattle.pa_math.specs.Rational.{whole}
use Rattle.pa_tableau.specs.declared.wide_at.WideAt.{WideAt}
use Rattle.pa_tableau.specs.Arithmetic.{Arithmetic, at_width}
use Rattle.pa_tableau.specs.Work.{Work}
use Rattle.pa_replay.specs.Problem.{Problem, first_costs, loaded, loaded_numbers, numbers_of}
use Rattle.pa_bland.specs.Seen.{with_line}
use Rattle.pa_bland.proofs.Loading.{IsLoading, begun_work, bounds_refused, loading_refused, loading_turns, next_clear, next_straight, table_loaded}
use Rattle.pa_bland.proofs.load.load.Goals as goal

pub load_line-requires-clause-clear : goal.load_line-requires-clause-clear
load_line-requires-clause-clear g c =
    let A : Arithmetic = at_width g.F.Fraction.WIDTH in
    let p : Problem = c.args.problem.now in
    let lines : length c.target.result.now ≡ length p.target = ap length c.target.ensures.target in
    next_clear A p (begun_work c.args.work.now (length c.target.result.now) c.count-rows.result) c.loop-line.work c.loop-line.line c.loop-line.invariant
    (let test = c.loop-line-test.true in omega (arith, test, lines))

pub load_line-requires-clause-straight : goal.load_line-requires-clause-straight
load_line-requires-clause-straight g c =
    let A : Arithmetic = at_width g.F.Fraction.WIDTH in
    let p : Problem = c.args.problem.now in
    let lines : length c.target.result.now ≡ length p.target = ap length c.target.ensures.target in
    next_straight A p (begun_work c.args.work.now (length c.target.result.now) c.count-rows.result) c.loop-line.work c.loop-line.line c.loop-line.invariant
    (let test = c.loop-line-test.true in omega (arith, test, lines))

pub returns-in_err-load_line-clause-table : goal.returns-in_err-load_line-clause-table
returns-in_err-load_line-clause-table g c =
    let A : Arithmetic = at_width g.F.Fraction.WIDTH in
    let p : Problem = c.args.problem.now in
    let lines : length c.target.result.now ≡ length p.target = ap length c.target.ensures.target in
    let wide : WideAt = c.in_err-load_line.field-0.0 in
    let refused : loaded A p ≡ Err wide =
    loading_refused A p (begun_work c.args.work.now (length c.target.result.now) c.count-rows.result)
    c.loop-line.work c.load_line.new.work c.loop-line.line wide c.loop-line.invariant
    (let test = c.loop-line-test.true in omega (arith, test, lines)) c.in_err-load_line.ensures.exact in
    let told : c.from_residual.result ≡ Err wide = search rules in
    rw (told, refused) refl

pub loop-line-preserved : goal.loop-line-preserved
loop-line-preserved g c =
    let A : Arithmetic = at_width g.F.Fraction.WIDTH in
    let p : Problem = c.args.problem.now in
    let lines : length c.target.result.now ≡ length p.target = ap length c.target.ensures.target in
    loading_turns A p (begun_work c.args.work.now (length c.target.result.now) c.count-rows.result)
    c.loop-line.work c.load_line.new.work c.loop-line.line c.in_ok-load_line.field-0 c.loop-line.invariant
    (let test = c.loop-line-test.true in omega (arith, test, lines)) c.in_ok-load_line.ensures.exact c.in_ok-load_line.ensures.shape

pub returns-in_err-load_numbers-clause-table : goal.returns-in_err-load_numbers-clause-table
returns-in_err-load_numbers-clause-table g c =
    let A : Arithmetic = at_width g.F.Fraction.WIDTH in
    let p : Problem = c.args.problem.now in
    let lines : length c.target.result.now ≡ length p.target = ap length c.target.ensures.target in
    let start : Work = begun_work c.args.work.now (length c.target.result.now) c.count-rows.result in
    let end : c.loop-line.line ≡ length p.target = (let test = c.loop-line-test.false in let low = c.loop-line.auto.line-end in omega
    (arith, test, low, lines)) in
    let wide : WideAt = c.in_err-load_numbers.field-0.0 in
    let refused : loaded A p ≡ Err wide =
    bounds_refused A p start c.loop-line.work c.load_numbers.new.work wide (subst (IsLoading A p start c.loop-line.work) end c.loop-line.invariant)
    (c.in_err-load_numbers.ensures.exact
    ∙ ap (λ k. and_then (loaded_numbers A (k + 1) (numbers_of p (k + 1)))
    (λ own. Ok (with_line c.loop-line.work (k + 1) (own ++ replicate (c.loop-line.work.columns - length p.rows) (whole (pos 0)))))) lines) in
    let told : c.from_residual-in_err-load_numbers.result ≡ Err wide = search rules in
    rw (told, refused) refl

pub returns-clause-table : goal.returns-clause-table
returns-clause-table g c =
    let A : Arithmetic = at_width g.F.Fraction.WIDTH in
    let p : Problem = c.args.problem.now in
    let lines : length c.target.result.now ≡ length p.target = ap length c.target.ensures.target in
    let rows : c.count-rows.result ≡ length p.rows = c.count-rows.ensures.count in
    let start : Work = begun_work c.args.work.now (length c.target.result.now) c.count-rows.result in
    let end : c.loop-line.line ≡ length p.target = (let test = c.loop-line-test.false in let low = c.loop-line.auto.line-end in omega
    (arith, test, low, lines)) in
    table_loaded A p start c.loop-line.work c.load_numbers.new.work c.load_first_costs.new.work c.in_ok-load_numbers.field-0 c.load_first_costs.result
    (subst (IsLoading A p start c.loop-line.work) end c.loop-line.invariant)
    (omega (arith, lines, rows)) (ap₂ range_with_len rows lines)
    (c.in_ok-load_numbers.ensures.exact
    ∙ ap (λ k. and_then (loaded_numbers A (k + 1) (numbers_of p (k + 1)))
    (λ own. Ok (with_line c.loop-line.work (k + 1) (own ++ replicate (c.loop-line.work.columns - length p.rows) (whole (pos 0)))))) lines)
    (c.load_first_costs.ensures.exact
    ∙ ap₂ (λ n m. and_then (first_costs A n m (take n c.load_numbers.new.work.table.lines)) (λ line. Ok (with_line c.load_numbers.new.work n line))) lines rows)
