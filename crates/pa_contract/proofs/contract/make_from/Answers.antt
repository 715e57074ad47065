use Rattle.std.proofs.Common.{sym, subst}
use Rattle.pa_contract.specs.Make.{IsMadeOf}
use Rattle.pa_contract.proofs.Meets.{contract_is_made}
use Rattle.pa_contract.proofs.contract.make_from.Goals as goal

pub returns-in-Ok-clause-truth : goal.returns-in-Ok-clause-truth
returns-in-Ok-clause-truth c =
    subst (IsMadeOf c.args.inputs c.args.outputs c.args.inputs c.args.assumptions.items c.args.guarantees.items) (sym c.in-Ok.ensures)
    (contract_is_made c.args.inputs c.args.outputs c.args.assumptions.items c.args.guarantees.items)
