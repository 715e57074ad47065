use Rattle.std.proofs.Common.{◌∙◌, ◌+◌, drop, length, flat_map, ap, sym, pos, arith}
use Rattle.std.proofs.lemmas.Int.{ints}
use lib.Signed.{◌<ℤ◌, ◌≤ℤ◌}
use Rattle.pa_ring.specs.Sums.{number_at}
use Rattle.pa_witness.specs.Elimination.{positives_at}
use Rattle.pa_fourier.specs.StepFaults.{made_with, pairs_with}
use Rattle.pa_fourier.proofs.Made.{made_next, made_stopped, stopped_as, seen_handed_on, all_pairs_turn, all_pairs_skip}
use Rattle.pa_fourier.proofs.step.with_all_pairs.Goals as goal
use Rattle.pa_fourier.proofs.step.with_all_pairs.Goals.{then-number_in-gt0+in_ok-made, else-number_in-gt0}

pub returns-in_err-made : goal.returns-in_err-made
returns-in_err-made c =
    let up : pos 0 <ℤ number_at c.p-item.result.c c.args.column = let v = c.number_in.ensures.value in let t = c.if-number_in-gt0.true in omega (arith, ints) in
    seen_handed_on _ c.in_err-made.field-0.0 _ c.from_residual.result c.from_residual.ensures.1
    (stopped_as _ _ _ (c.loop-p.invariant.whole
    ∙ ap (made_with c.loop-p.made.items)
    (all_pairs_turn c.args.column c.args.rows.now c.args.rows.now c.loop-p.p-index c.p-item.result c.loop-p-test.true c.p-item.is up))
    (made_stopped c.loop-p.made.items (pairs_with c.args.column c.args.rows.now c.p-item.result)
    (flat_map (pairs_with c.args.column c.args.rows.now) (positives_at c.args.column (drop (c.loop-p.p-index + 1) c.args.rows.now)))
    _ c.in_err-made.ensures.answer))

pub loop-p-preserved : goal.loop-p-preserved
loop-p-preserved c =
    elim c.if-number_in-gt0.branch [
      | then-number_in-gt0+in_ok-made w ↦
          (let up : pos 0 <ℤ number_at c.p-item.result.c c.args.column =
          let v = c.number_in.ensures.value in let t = w.if-number_in-gt0.true in omega (arith, ints) in
          record {
            whole =
                c.loop-p.invariant.whole
                ∙ ap (made_with c.loop-p.made.items)
                (all_pairs_turn c.args.column c.args.rows.now c.args.rows.now c.loop-p.p-index c.p-item.result c.loop-p-test.true c.p-item.is up)
                ∙ made_next c.loop-p.made.items w.in_ok-made.made.items (pairs_with c.args.column c.args.rows.now c.p-item.result)
                (flat_map (pairs_with c.args.column c.args.rows.now) (positives_at c.args.column (drop (c.loop-p.p-index + 1) c.args.rows.now)))
                w.in_ok-made.ensures.answer
                ∙ ap (λ m. made_with m.items
                (flat_map (pairs_with c.args.column c.args.rows.now) (positives_at c.args.column (drop (c.loop-p.p-index + 1) c.args.rows.now))))
                (sym w.made-is);
            few =
                let a = c.loop-p.invariant.few in
                let b = w.in_ok-made.ensures.few in
                let d = c.requires.few in
                let e = ap (λ m. length m.items) w.made-is in
                omega arith;
          })
      | else-number_in-gt0 w ↦
          (let down : number_at c.p-item.result.c c.args.column ≤ℤ pos 0 =
          let v = c.number_in.ensures.value in let t = w.if-number_in-gt0.false in omega (arith, ints) in
          record {
            whole =
                c.loop-p.invariant.whole
                ∙ ap (made_with c.loop-p.made.items)
                (all_pairs_skip c.args.column c.args.rows.now c.args.rows.now c.loop-p.p-index c.p-item.result c.loop-p-test.true c.p-item.is down)
                ∙ ap (λ m. made_with m.items
                (flat_map (pairs_with c.args.column c.args.rows.now) (positives_at c.args.column (drop (c.loop-p.p-index + 1) c.args.rows.now))))
                (sym w.made-is);
            few = let a = c.loop-p.invariant.few in let e = ap (λ m. length m.items) w.made-is in omega arith;
          })
    ]
