-- Each turn forms one number more. The signed numbers of the code are read as whole numbers, which they fit.
use Rattle.std.proofs.Common.{rules, ◌≡◌, ◌∙◌, ◌+◌, ap, sym, subst, inr, Ok, All, drop, arith}
use Rattle.std.proofs.lemmas.Int.{ints, to_z-of_z}
use Rattle.std.proofs.lemmas.List.Elements.{All-push}
use mir.Syntax.{w128}
use mir.Val.{to_z, of_z}
use Rattle.pa_math.specs.Answers.{told_as}
use Rattle.pa_frac.specs.Width.{Fits}
use Rattle.pa_row.specs.Answers.{as_fault}
use Rattle.pa_farkas.specs.Answered.{moved_in}
use Rattle.pa_farkas.proofs.Turns.{moved_end, moved_on, moved_turn, moved_wide}
use Rattle.pa_farkas.proofs.away.moved.Goals as goal

pub returns-in_default-moved_number-clause-exact : goal.returns-in_default-moved_number-clause-exact
returns-in_default-moved_number-clause-exact c =
    let times : to_z w128 (of_z w128 c.args.times) ≡ c.args.times = to_z-of_z w128 c.args.times (search rules) in
    let wide = c.loop-i.invariant.made
    ∙ moved_wide _ c.args.numbers.now c.args.direction.now c.loop-i.i _ _ c.loop-i.moved.items c.in_default-moved_number.field-0 c.loop-i-test.true
    (omega (arith, c.requires, c.loop-i-test.true)) (search (rules, ints, to_z-of_z)) (search (rules, ints, to_z-of_z))
    (sym c.in_default-moved_number.is ∙ c.moved_number.ensures.exact) in
    inr (ap (told_as as_fault) (ap (λ k. moved_in k c.args.numbers.now c.args.direction.now) (sym times) ∙ wide))

pub loop-i-preserved : goal.loop-i-preserved
loop-i-preserved c =
    let number : to_z w128 (of_z w128 c.in-Ok-moved_number.number) ≡ c.in-Ok-moved_number.number = search (rules, ints, to_z-of_z) in
    record {
      made = c.loop-i.invariant.made
          ∙ moved_turn _ c.args.numbers.now c.args.direction.now c.loop-i.i (to_z w128 (of_z w128 c.in-Ok-moved_number.number)) _ _ c.loop-i.moved.items
          c.loop-i-test.true (omega (arith, c.requires, c.loop-i-test.true)) (search (rules, ints, to_z-of_z)) (search (rules, ints, to_z-of_z))
          (ap Ok number ∙ sym c.in-Ok-moved_number.is ∙ c.moved_number.ensures.exact)
          ∙ ap (λ items. moved_on items (moved_in (to_z w128 (of_z w128 c.args.times))
          (drop (c.loop-i.i + 1) c.args.numbers.now) (drop (c.loop-i.i + 1) c.args.direction.now))) (sym c.push_reserved.ensures.items);
      narrow = subst (All (Fits 126)) (sym c.push_reserved.ensures.items)
          (All-push (Fits 126) c.loop-i.moved.items (to_z w128 (of_z w128 c.in-Ok-moved_number.number)) c.loop-i.invariant.narrow
          (subst (Fits 126) (sym number) c.in-Ok-moved_number.ensures.narrow));
      count = search rules;
      room = search rules;
    }

pub returns-clause-exact : goal.returns-clause-exact
returns-clause-exact c =
    let times : to_z w128 (of_z w128 c.args.times) ≡ c.args.times = to_z-of_z w128 c.args.times (search rules) in
    ap (told_as as_fault) (ap (λ k. moved_in k c.args.numbers.now c.args.direction.now) (sym times) ∙ c.loop-i.invariant.made
    ∙ moved_end _ c.args.numbers.now c.args.direction.now c.loop-i.i c.loop-i.moved.items c.loop-i-test.false)
