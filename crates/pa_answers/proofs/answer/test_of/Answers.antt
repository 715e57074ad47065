use Rattle.std.proofs.Common.{◌≡◌, sym, ap, ◌∙◌, subst, IfOk}
use Rattle.std.specs.Option.{option_copied}
use Rattle.pa_answers.proofs.Questions.{test_known}
use Rattle.pa_answers.proofs.answer.test_of.Goals as goal

pub returns : goal.returns
returns c =
    let known = sym c.first_missing_port.ensures ∙ ap option_copied c.in_default.is in
    subst (λ due. IfOk c.tested_at_ports.result (λ answer. answer ≡ due)) (sym (test_known c.args.contract.now c.args.names.now c.args.at.now known))
    c.tested_at_ports.ensures
