use Rattle.std.proofs.Common.{subst}
use Rattle.pa_contract.specs.Nominal.{IsNominal}
use Rattle.pa_answers.specs.Answers.{AreFormed}
use Rattle.pa_engine.specs.Ends.{table_of}
use Rattle.pa_engine.proofs.Diagrams.{parts_new, diagram_formed}
use Rattle.pa_engine.proofs.top.table_of.Goals as goal

-- no part of a diagram has the name of a contract
pub with_all-requires : goal.with_all-requires
with_all-requires c = parts_new _ c.diagram.invariant

-- each contract and each part is well formed, and so are the nominal values
pub returns-clause-formed : goal.returns-clause-formed
returns-clause-formed c =
    subst (λ d. AreFormed (table_of d)) c.diagram.view_is
    (diagram_formed _ c.diagram.invariant (subst IsNominal c.nominal.view_is c.nominal.invariant))

pub returns-in_err-contracts-clause-formed : goal.returns-in_err-contracts-clause-formed
returns-in_err-contracts-clause-formed c =
    subst (λ d. AreFormed (table_of d)) c.diagram.view_is
    (diagram_formed _ c.diagram.invariant (subst IsNominal c.nominal.view_is c.nominal.invariant))
