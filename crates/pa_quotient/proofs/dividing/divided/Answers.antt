-- what is left is over the quotient's ports, and what is found makes a contract
use Rattle.std.proofs.Common.{◌∙◌, ap, sym, subst}
use Rattle.pa_contract.specs.WellFormed.{IsWellFormed}
use Rattle.pa_trial.specs.Lefts.{Lefts}
use Rattle.pa_quotient.specs.Dividing.{contract_with, thinned_with}
use Rattle.pa_quotient.specs.Seen.{AreLeft}
use Rattle.pa_quotient.proofs.Defined.{formed_found, left_found}
use Rattle.pa_quotient.proofs.dividing.divided.Goals as goal

pub thinned_of-requires-clause-left : goal.thinned_of-requires-clause-left
thinned_of-requires-clause-left c =
    subst (λ (l : Lefts). AreLeft c.args.whole.now c.args.part.now l.rows) (sym c.lefts.view_is)
    (left_found c.args.whole.now c.args.part.now c.args.nominal.now c.args.most c.requires.can.whole_formed c.requires.can.part_formed c.requires.can.none
    c.requires.nominal c.in_ok-lefts.lefts c.in_ok-lefts.ensures.answer)

pub answered-requires : goal.answered-requires
answered-requires c =
    subst (λ outputs. IsWellFormed (contract_with c.args.whole.now outputs c.in_ok-thinned.thinned.rows)) (sym c.requires.can.names_are.outputs_are)
    (formed_found c.args.whole.now c.args.part.now c.args.nominal.now c.args.most c.requires.can.whole_formed c.requires.can.part_formed c.requires.can.none
    c.requires.nominal c.in_ok-lefts.lefts c.in_ok-thinned.thinned c.in_ok-lefts.ensures.answer
    (ap (λ (l : Lefts). thinned_with c.args.whole.now c.args.part.now c.args.most l.rows) (sym c.lefts.view_is) ∙ c.in_ok-thinned.ensures))
