-- Each turn takes one product more off what is left; at the end the slack is left, which is exact and narrow.
use Rattle.std.proofs.Common.{◌≡◌, ◌∙◌, ◌+◌, Ok, drop, get_or, pos, sym, ap, ap₂, arith, rules}
use Rattle.std.proofs.lemmas.Int.{ints, to_z-of_z}
use mir.Syntax.{w128}
use mir.Val.{to_z, of_z}
use Rattle.pa_math.specs.Answers.{and_then}
use Rattle.pa_row.specs.Sums.{less_dot_from, slack_in}
use Rattle.pa_row.proofs.Slacks.{less_turn, less_dot_end, slack_exact, slack_fits}
use Rattle.pa_row.proofs.Turns.{refused}
use Rattle.pa_row.proofs.sums.slack.Goals as goal

pub loop-i-preserved : goal.loop-i-preserved
loop-i-preserved c =
    let a : to_z w128 (of_z w128 (get_or c.args.c.now c.loop-i.i (pos 0))) ≡ get_or c.args.c.now c.loop-i.i (pos 0) = search (rules, ints, to_z-of_z) in
    let b : to_z w128 (of_z w128 (get_or c.args.p.now c.loop-i.i (pos 0))) ≡ get_or c.args.p.now c.loop-i.i (pos 0) = search (rules, ints, to_z-of_z) in
    let next : to_z w128 (of_z w128 c.in_ok-left-2.left) ≡ c.in_ok-left-2.left = search (rules, ints, to_z-of_z) in
    c.loop-i.invariant
    ∙ less_turn _ _ _ c.args.c.now c.args.p.now c.loop-i.i c.less_product.result (omega arith) (omega arith) a b c.less_product.ensures
    ∙ ap (λ t. and_then t (λ next. less_dot_from next (drop (c.loop-i.i + 1) c.args.c.now) (drop (c.loop-i.i + 1) c.args.p.now))) c.in_ok-left-2.was
    ∙ ap (λ t. less_dot_from t (drop (c.loop-i.i + 1) c.args.c.now) (drop (c.loop-i.i + 1) c.args.p.now)) (sym next)

pub returns-in_err-left-2-clause-answer : goal.returns-in_err-left-2-clause-answer
returns-in_err-left-2-clause-answer c =
    let a : to_z w128 (of_z w128 (get_or c.args.c.now c.loop-i.i (pos 0))) ≡ get_or c.args.c.now c.loop-i.i (pos 0) = search (rules, ints, to_z-of_z) in
    let b : to_z w128 (of_z w128 (get_or c.args.p.now c.loop-i.i (pos 0))) ≡ get_or c.args.p.now c.loop-i.i (pos 0) = search (rules, ints, to_z-of_z) in
    let q_is : to_z w128 (of_z w128 c.args.q) ≡ c.args.q = to_z-of_z w128 c.args.q (search rules) in
    let b_is : to_z w128 (of_z w128 c.args.b) ≡ c.args.b = to_z-of_z w128 c.args.b (search rules) in
    refused _ _ c.from_residual-in_err-left-2.ensures.0
    (ap₂ (λ q b. slack_in q b c.args.c.now c.args.p.now) (sym q_is) (sym b_is)
    ∙ c.loop-i.invariant
    ∙ less_turn _ _ _ c.args.c.now c.args.p.now c.loop-i.i c.less_product.result (omega arith) (omega arith) a b c.less_product.ensures
    ∙ ap (λ t. and_then t (λ next. less_dot_from next (drop (c.loop-i.i + 1) c.args.c.now) (drop (c.loop-i.i + 1) c.args.p.now))) c.in_err-left-2.was)

pub returns-clause-truth : goal.returns-clause-truth
returns-clause-truth c =
    let q_is : to_z w128 (of_z w128 c.args.q) ≡ c.args.q = to_z-of_z w128 c.args.q (search rules) in
    let b_is : to_z w128 (of_z w128 c.args.b) ≡ c.args.b = to_z-of_z w128 c.args.b (search rules) in
    let answer : slack_in c.args.q c.args.b c.args.c.now c.args.p.now ≡ Ok (to_z w128 c.loop-i.left-bits) =
    ap₂ (λ q b. slack_in q b c.args.c.now c.args.p.now) (sym q_is) (sym b_is) ∙ c.loop-i.invariant
    ∙ less_dot_end _ c.args.c.now c.args.p.now c.loop-i.i (omega arith) in
    slack_exact c.args.q c.args.b c.args.c.now c.args.p.now _ (sym answer)

pub returns-clause-narrow : goal.returns-clause-narrow
returns-clause-narrow c =
    let q_is : to_z w128 (of_z w128 c.args.q) ≡ c.args.q = to_z-of_z w128 c.args.q (search rules) in
    let b_is : to_z w128 (of_z w128 c.args.b) ≡ c.args.b = to_z-of_z w128 c.args.b (search rules) in
    let answer : slack_in c.args.q c.args.b c.args.c.now c.args.p.now ≡ Ok (to_z w128 c.loop-i.left-bits) =
    ap₂ (λ q b. slack_in q b c.args.c.now c.args.p.now) (sym q_is) (sym b_is) ∙ c.loop-i.invariant
    ∙ less_dot_end _ c.args.c.now c.args.p.now c.loop-i.i (omega arith) in
    slack_fits c.args.q c.args.b c.args.c.now c.args.p.now _ (sym answer)
