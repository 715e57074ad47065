use Rattle.std.proofs.Common.{◌∙◌, ◌∷◌, [], ◌+◌, drop, length, ap, sym, pos, arith}
use Rattle.std.proofs.lemmas.Int.{ints}
use lib.Signed.{◌<ℤ◌, ◌≤ℤ◌}
use Rattle.pa_ring.specs.Sums.{number_at}
use Rattle.pa_fourier.specs.StepFaults.{made_with, cancelled_without, pairs_with}
use Rattle.pa_fourier.proofs.Made.{made_next, made_stopped, stopped_as, seen_handed_on, pairs_turn, pairs_skip}
use Rattle.pa_fourier.proofs.step.with_pairs.Goals as goal
use Rattle.pa_fourier.proofs.step.with_pairs.Goals.{then-number_in-lt0+in_ok-made, else-number_in-lt0}

pub returns-in_err-made-clause-answer : goal.returns-in_err-made-clause-answer
returns-in_err-made-clause-answer c =
    let down : number_at c.n-item.result.c c.args.column <ℤ pos 0 =
    let v = c.number_in.ensures.value in let t = c.if-number_in-lt0.true in omega (arith, ints) in
    seen_handed_on _ c.in_err-made.field-0.0 _ c.from_residual.result c.from_residual.ensures.1
    (stopped_as _ _ _ (c.loop-n.invariant.whole
    ∙ ap (made_with c.loop-n.made.items)
    (pairs_turn c.args.column c.args.p.now c.args.rows.now c.loop-n.n-index c.n-item.result c.loop-n-test.true c.n-item.is down))
    (made_stopped c.loop-n.made.items (cancelled_without c.args.column c.args.p.now c.n-item.result ∷ [])
    (pairs_with c.args.column (drop (c.loop-n.n-index + 1) c.args.rows.now) c.args.p.now) _ c.in_err-made.ensures.answer))

pub loop-n-preserved : goal.loop-n-preserved
loop-n-preserved c =
    elim c.if-number_in-lt0.branch [
      | then-number_in-lt0+in_ok-made w ↦
          (let down : number_at c.n-item.result.c c.args.column <ℤ pos 0 =
          let v = c.number_in.ensures.value in let t = w.if-number_in-lt0.true in omega (arith, ints) in
          record {
            whole =
                c.loop-n.invariant.whole
                ∙ ap (made_with c.loop-n.made.items)
                (pairs_turn c.args.column c.args.p.now c.args.rows.now c.loop-n.n-index c.n-item.result c.loop-n-test.true c.n-item.is down)
                ∙ made_next c.loop-n.made.items w.in_ok-made.made.items (cancelled_without c.args.column c.args.p.now c.n-item.result ∷ [])
                (pairs_with c.args.column (drop (c.loop-n.n-index + 1) c.args.rows.now) c.args.p.now) w.in_ok-made.ensures.answer
                ∙ ap (λ m. made_with m.items (pairs_with c.args.column (drop (c.loop-n.n-index + 1) c.args.rows.now) c.args.p.now)) (sym w.made-is);
            few = let a = c.loop-n.invariant.few in let b = w.in_ok-made.ensures.few in let e = ap (λ m. length m.items) w.made-is in omega arith;
          })
      | else-number_in-lt0 w ↦
          (let up : pos 0 ≤ℤ number_at c.n-item.result.c c.args.column =
          let v = c.number_in.ensures.value in let t = w.if-number_in-lt0.false in omega (arith, ints) in
          record {
            whole =
                c.loop-n.invariant.whole
                ∙ ap (made_with c.loop-n.made.items)
                (pairs_skip c.args.column c.args.p.now c.args.rows.now c.loop-n.n-index c.n-item.result c.loop-n-test.true c.n-item.is up)
                ∙ ap (λ m. made_with m.items (pairs_with c.args.column (drop (c.loop-n.n-index + 1) c.args.rows.now) c.args.p.now)) (sym w.made-is);
            few = let a = c.loop-n.invariant.few in let e = ap (λ m. length m.items) w.made-is in omega arith;
          })
    ]
