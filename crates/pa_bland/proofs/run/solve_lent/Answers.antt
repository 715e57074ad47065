use Rattle.std.proofs.Common.{◌≡◌, ◌∙◌, length, ap}
use Rattle.pa_math.specs.Answers.{and_then}
use Rattle.pa_tableau.specs.Arithmetic.{at_width}
use Rattle.pa_replay.specs.Replay.{run_from}
use Rattle.pa_replay.proofs.Replays.{exact_fixed, exact_apart, answer_unlimited}
use Rattle.pa_bland.proofs.run.solve_lent.Goals as goal

pub returns-in-Err-clause-fixed : goal.returns-in-Err-clause-fixed
returns-in-Err-clause-fixed g c = exact_fixed c.args.problem.now

pub returns-in-Err-clause-apart : goal.returns-in-Err-clause-apart
returns-in-Err-clause-apart g c = exact_apart c.args.problem.now

pub returns-clause-fixed : goal.returns-clause-fixed
returns-clause-fixed g c = exact_fixed c.args.problem.now

pub returns-clause-apart : goal.returns-clause-apart
returns-clause-apart g c = exact_apart c.args.problem.now

pub returns-clause-unlimited : goal.returns-clause-unlimited
returns-clause-unlimited g c =
    let lines : length c.target.result.now ≡ length c.args.problem.now.target = ap length c.target.ensures.target in
    let rows : c.count.result ≡ length c.args.problem.now.rows = c.count.ensures.count in
    answer_unlimited g.F.Fraction.WIDTH c.args.problem.now c.args.most c.run.result c.run.new.work.table
    (c.run.ensures.exact ∙ ap (λ n. run_from (at_width g.F.Fraction.WIDTH) n c.count.result c.args.most c.load.new.work.table) lines
    ∙ ap (λ m. run_from (at_width g.F.Fraction.WIDTH) (length c.args.problem.now.target) m c.args.most c.load.new.work.table) rows
    ∙ ap (λ r. and_then r (run_from (at_width g.F.Fraction.WIDTH) (length c.args.problem.now.target) (length c.args.problem.now.rows) c.args.most))
    c.in_default.ensures.table)
