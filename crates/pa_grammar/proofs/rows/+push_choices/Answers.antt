-- The rows with plus, and then those with minus, are those of both choices.
use Rattle.std.proofs.Common.{◌≡◌, ◌∷◌, ◌++◌, List, Ok, length, ◌-◌, take, drop, map, ap, sym, subst, ◌∙◌, rules}
use Rattle.std.proofs.lemmas.List.{take_rest}
use Rattle.pa_math.specs.Answers.{IsAnswer, told_as}
use Rattle.pa_row.specs.declared.fault.RowFault.TheVariants.{Memory}
use Rattle.pa_row.specs.Answers.{as_fault}
use Rattle.pa_grammar.specs.declared.sums.Pair.{Pair}
use Rattle.pa_grammar.specs.declared.token.Sign.TheVariants.{Plus, Minus}
use Rattle.pa_grammar.specs.Chosen.{added_to, chosen, chosen_rows, gives}
use Rattle.pa_grammar.specs.Seen.{fraction, seen_pair}
use Rattle.pa_grammar.specs.Values as spec
use Rattle.pa_grammar.proofs.Pushed.{choices_answer}
use Rattle.pa_grammar.proofs.rows.+push_choices.Goals as goal

pub returns : goal.returns
returns t c =
    let v = map fraction c.args.vector.now in
    let above = map fraction c.deref-2.result.now in
    let below = map fraction c.deref-4.result.now in
    let pair : spec.Pair = seen_pair c.pair-item.result in
    let right : List spec.Pair = map spec.turned (map seen_pair c.args.right.now) in
    let rest : List Pair = take (length c.args.left.now - 1) (drop 1 c.args.left.now) in
    let split : c.args.left.now ≡ c.pair-item.result ∷ drop 1 c.args.left.now = search rules in
    let left : c.args.left.now ≡ c.pair-item.result ∷ rest = split ∙ ap (λ ps. c.pair-item.result ∷ ps) (sym (take_rest c.args.left.now 1)) in
    let plus : told_as as_fault (chosen Plus pair.weight pair.inner v) ≡ Ok above = search rules in
    let minus : told_as as_fault (chosen Minus pair.weight pair.inner v) ≡ Ok below = search rules in
    subst (λ (l : List Pair). IsAnswer Memory (told_as as_fault (added_to c.args.rows.now.items (chosen_rows (map seen_pair l ++ right) v)))
    (gives c.push_choices-2.new.rows.items c.push_choices-2.result)) (sym left)
    (choices_answer c.args.rows.now.items c.push_choices.new.rows.items pair (map seen_pair rest ++ right) v above below _ plus
    c.in_ok-push_choices.ensures minus c.push_choices-2.ensures)
