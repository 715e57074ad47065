use Rattle.std.proofs.Common.{◌+◌, Result, List, map, drop, ap, sym, ◌∙◌}
use Rattle.std.proofs.lemmas.List.{at_drop_all}
use Rattle.pa_math.specs.Answers.{and_then}
use Rattle.pa_math.specs.Rational.{ℚ}
use Rattle.pa_frac.specs.declared.wide.Wide.{Wide}
use Rattle.pa_frac.specs.Width.{valued}
use Rattle.pa_grammar.specs.Seen.{fraction, left_as}
use Rattle.pa_grammar.specs.Values.{changed_at, combined, scaled_all}
use Rattle.pa_grammar.proofs.Changes.{combined_from, scaled_turn, combined_end}
use Rattle.pa_grammar.proofs.Steps.{refused}
use Rattle.pa_grammar.proofs.columns.combine_scaled.Goals as goal

pub returns-in_err-mul : goal.returns-in_err-mul
returns-in_err-mul c =
    refused _ c.from_residual.result _ c.from_residual.ensures.0
    (sym c.loop-i.invariant
    ∙ scaled_turn c.args.sign (fraction c.args.scale) c.args.more.now c.loop-i.i c.index-more-i.result
    (map fraction c.loop-i.vector) c.loop-i-test.true c.index-more-i.is
    ∙ ap (λ (t : Result ℚ Wide). and_then t (λ p. and_then (changed_at c.loop-i.i (λ q. combined c.args.sign q p) (map fraction c.loop-i.vector))
    (λ w. and_then (scaled_all (fraction c.args.scale) (map fraction (drop (c.loop-i.i + 1) c.args.more.now))) (combined_from c.args.sign (c.loop-i.i + 1) w))))
    (sym c.mul.ensures ∙ ap (valued fraction) c.in_err-mul.was))

pub returns-in_err-change_at : goal.returns-in_err-change_at
returns-in_err-change_at c =
    refused _ c.from_residual-in_err-change_at.result _ c.from_residual-in_err-change_at.ensures.0
    (sym c.loop-i.invariant
    ∙ scaled_turn c.args.sign (fraction c.args.scale) c.args.more.now c.loop-i.i c.index-more-i.result
    (map fraction c.loop-i.vector) c.loop-i-test.true c.index-more-i.is
    ∙ ap (λ (t : Result ℚ Wide). and_then t (λ p. and_then (changed_at c.loop-i.i (λ q. combined c.args.sign q p) (map fraction c.loop-i.vector))
    (λ w. and_then (scaled_all (fraction c.args.scale) (map fraction (drop (c.loop-i.i + 1) c.args.more.now))) (combined_from c.args.sign (c.loop-i.i + 1) w))))
    (sym c.mul.ensures ∙ ap (valued fraction) c.in_ok-mul.was)
    ∙ ap (λ (t : Result (List ℚ) Wide). and_then t
    (λ w. and_then (scaled_all (fraction c.args.scale) (map fraction (drop (c.loop-i.i + 1) c.args.more.now)))
    (combined_from c.args.sign (c.loop-i.i + 1) w)))
    (sym c.change_at.ensures ∙ ap (left_as (map fraction c.change_at.new.vector)) c.in_err-change_at.was))

pub loop-i-preserved : goal.loop-i-preserved
loop-i-preserved c =
    ap (λ (t : Result (List ℚ) Wide). and_then t (λ w. and_then (scaled_all (fraction c.args.scale) (map fraction (drop (c.loop-i.i + 1) c.args.more.now)))
    (combined_from c.args.sign (c.loop-i.i + 1) w)))
    (ap (left_as (map fraction c.change_at.new.vector)) (sym c.in_ok-change_at.was) ∙ c.change_at.ensures)
    ∙ ap (λ (t : Result ℚ Wide). and_then t (λ p. and_then (changed_at c.loop-i.i (λ q. combined c.args.sign q p) (map fraction c.loop-i.vector))
    (λ w. and_then (scaled_all (fraction c.args.scale) (map fraction (drop (c.loop-i.i + 1) c.args.more.now))) (combined_from c.args.sign (c.loop-i.i + 1) w))))
    (ap (valued fraction) (sym c.in_ok-mul.was) ∙ c.mul.ensures)
    ∙ sym (scaled_turn c.args.sign (fraction c.args.scale) c.args.more.now c.loop-i.i c.index-more-i.result
    (map fraction c.loop-i.vector) c.loop-i-test.true c.index-more-i.is)
    ∙ c.loop-i.invariant

pub returns : goal.returns
returns c =
    sym (combined_end c.args.sign c.loop-i.i (map fraction c.loop-i.vector))
    ∙ sym (at_drop_all (λ ys. and_then (scaled_all (fraction c.args.scale) (map fraction ys))
    (combined_from c.args.sign c.loop-i.i (map fraction c.loop-i.vector))) c.args.more.now c.loop-i.i c.loop-i-test.false)
    ∙ c.loop-i.invariant
