-- The numbers of lines and rows are those of the problem; so what is read is what the run's end shows of it.
use Rattle.std.proofs.Common.{◌≡◌, ℕ, Ok, length, ap, subst, sym}
use Rattle.pa_math.specs.Answers.{IsAnswer}
use Rattle.pa_bland.specs.declared.answer.SolveError.TheVariants as SolveError
use Rattle.pa_bland.specs.Answered.{IsReadable, answer_read}
use Rattle.pa_bland.proofs.Meant.{run_shows}
use Rattle.pa_bland.proofs.Readable.{readable}
use Rattle.pa_bland.proofs.answer.solve_answer.Goals as goal

pub read_end-requires-clause-ready : goal.read_end-requires-clause-ready
read_end-requires-clause-ready g c =
    let lines : length c.target.result.now ≡ length c.args.problem.now.target = ap length c.target.ensures.target in
    let rows : c.count-rows.result ≡ length c.args.problem.now.rows = c.count-rows.ensures.count in
    subst (λ (n : ℕ). IsReadable n c.count-rows.result c.in-Ok.end c.solve_lent.new.work.table) (sym lines)
    (subst (λ (m : ℕ). IsReadable (length c.args.problem.now.target) m c.in-Ok.end c.solve_lent.new.work.table) (sym rows)
    (readable g.F.Fraction.WIDTH c.args.problem.now c.args.most c.in-Ok.end c.solve_lent.new.work.table c.in-Ok.ensures.exact))

pub returns-in-Ok-clause-meaning : goal.returns-in-Ok-clause-meaning
returns-in-Ok-clause-meaning g c =
    let lines : length c.target.result.now ≡ length c.args.problem.now.target = ap length c.target.ensures.target in
    let rows : c.count-rows.result ≡ length c.args.problem.now.rows = c.count-rows.ensures.count in
    run_shows g.F.Fraction.WIDTH c.args.problem.now c.args.most c.in-Ok.end c.solve_lent.new.work.table c.read_end.result
    c.count-rows.ensures.posed c.in-Ok.ensures.exact
    (subst (λ (n : ℕ). IsAnswer SolveError.Memory (answer_read n (length c.args.problem.now.rows) (Ok c.in-Ok.end) c.solve_lent.new.work.table)
    c.read_end.result) lines
    (subst (λ (m : ℕ). IsAnswer SolveError.Memory (answer_read (length c.target.result.now) m (Ok c.in-Ok.end) c.solve_lent.new.work.table) c.read_end.result)
    rows c.read_end.ensures.exact))
