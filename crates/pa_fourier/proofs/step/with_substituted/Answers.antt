use Rattle.std.proofs.Common.{◌≡◌, ◌∙◌, ◌∷◌, [], ◌+◌, drop, length, ap, sym, arith, not, true, false}
use Rattle.pa_witness.specs.Thinning.{is_place_of}
use Rattle.pa_fourier.specs.StepFaults.{made_with, substituted_one}
use Rattle.pa_fourier.proofs.Made.{made_next, made_stopped, stopped_as, seen_handed_on, substituted_from, substituted_turn, substituted_skip}
use Rattle.pa_fourier.proofs.step.with_substituted.Goals as goal
use Rattle.pa_fourier.proofs.step.with_substituted.Goals.{then-is_other+in_ok-made, else-is_other}

pub returns-in_err-made : goal.returns-in_err-made
returns-in_err-made c =
    let other : not (is_place_of (c.args.positive ∷ c.args.negative ∷ []) c.loop-place.place) ≡ true = sym c.is_other.ensures ∙ c.if-is_other.true in
    seen_handed_on _ c.in_err-made.field-0.0 _ c.from_residual.result c.from_residual.ensures.1
    (stopped_as _ _ _ (c.loop-place.invariant.whole ∙ ap (made_with c.loop-place.made.items)
    (substituted_turn c.args.column c.args.p.now c.args.n.now (c.args.positive ∷ c.args.negative ∷ [])
    c.args.rows.now c.loop-place.place c.index-rows-place.result c.loop-place-test.true c.index-rows-place.is other))
    (made_stopped c.loop-place.made.items (substituted_one c.args.column c.args.p.now c.args.n.now c.index-rows-place.result)
    (substituted_from c.args.column c.args.p.now c.args.n.now (c.args.positive ∷ c.args.negative ∷ []) (c.loop-place.place + 1)
    (drop (c.loop-place.place + 1) c.args.rows.now))
    _ c.in_err-made.ensures.answer))

pub loop-place-preserved : goal.loop-place-preserved
loop-place-preserved c =
    elim c.if-is_other.branch [
      | then-is_other+in_ok-made w ↦
          (let other : not (is_place_of (c.args.positive ∷ c.args.negative ∷ []) c.loop-place.place) ≡ true = sym c.is_other.ensures ∙ w.if-is_other.true in
          record {
            whole = c.loop-place.invariant.whole ∙ ap (made_with c.loop-place.made.items)
                (substituted_turn c.args.column c.args.p.now c.args.n.now (c.args.positive ∷ c.args.negative ∷ [])
                c.args.rows.now c.loop-place.place w.index-rows-place.result c.loop-place-test.true w.index-rows-place.is other)
                ∙ made_next c.loop-place.made.items w.in_ok-made.made.items (substituted_one c.args.column c.args.p.now c.args.n.now w.index-rows-place.result)
                (substituted_from c.args.column c.args.p.now c.args.n.now (c.args.positive ∷ c.args.negative ∷ []) (c.loop-place.place + 1)
                (drop (c.loop-place.place + 1) c.args.rows.now))
                w.in_ok-made.ensures.answer
                ∙ ap (λ m. made_with m.items (substituted_from c.args.column c.args.p.now c.args.n.now (c.args.positive ∷ c.args.negative ∷ [])
                (c.loop-place.place + 1) (drop (c.loop-place.place + 1) c.args.rows.now))) (sym w.made-is);
            few = let a = c.loop-place.invariant.few in let b = w.in_ok-made.ensures.few in let e = ap (λ m. length m.items) w.made-is in omega arith;
          })
      | else-is_other w ↦
          (let other : not (is_place_of (c.args.positive ∷ c.args.negative ∷ []) c.loop-place.place) ≡ false = sym c.is_other.ensures ∙ w.if-is_other.false in
          record {
            whole = c.loop-place.invariant.whole ∙ ap (made_with c.loop-place.made.items)
                (substituted_skip c.args.column c.args.p.now c.args.n.now (c.args.positive ∷ c.args.negative ∷ [])
                c.args.rows.now c.loop-place.place c.args.p.now c.loop-place-test.true other)
                ∙ ap (λ m. made_with m.items (substituted_from c.args.column c.args.p.now c.args.n.now (c.args.positive ∷ c.args.negative ∷ [])
                (c.loop-place.place + 1) (drop (c.loop-place.place + 1) c.args.rows.now))) (sym w.made-is);
            few = let a = c.loop-place.invariant.few in let e = ap (λ m. length m.items) w.made-is in omega arith;
          })
    ]
