use Rattle.std.proofs.Common.{◌≡◌, ◌-◌, ap, ap₂, sym, subst, ◌∙◌, arith, drop, IfOk, length}
use Rattle.std.proofs.lemmas.List.{length-append, length-drop, take_all}
use Rattle.pa_meaning.specs.Contracts.{ports}
use Rattle.pa_answers.specs.Answers.{heading_of, with_numbers}
use Rattle.pa_answers.proofs.Headings.{headed_both}
use Rattle.pa_answers.proofs.located.headed.Goals as goal

pub returns : goal.returns
returns c =
    let ins = c.contract.inside.inputs in
    let outs = c.contract.inside.outputs in
    let long = subst (λ contract. length c.args.numbers.now ≡ length (ports contract)) (sym c.contract.view_is) c.requires in
    subst (λ contract. IfOk c.with_numbers-2.result (λ h. h ≡ heading_of (ports contract) c.args.numbers.now)) c.contract.view_is
    (headed_both c.with_numbers-2.result c.in_ok-heading.heading ins outs c.args.numbers.now c.len.result
    (omega (arith, long, length-append ins outs)) c.len.ensures.value
    (c.in_ok-heading.ensures ∙ ap (λ e. with_numbers e ins c.args.numbers.now)
    (ap₂ (λ names numbers. record { names = names; numbers = numbers }) c.new.ensures.items c.new-2.ensures.items))
    (subst (λ rest. IfOk c.with_numbers-2.result (λ h. h ≡ with_numbers c.in_ok-heading.heading outs rest))
    (take_all (length c.args.numbers.now - c.len.result) (drop c.len.result c.args.numbers.now)
    (omega (arith, length-drop c.len.result c.args.numbers.now))) c.with_numbers-2.ensures))
