-- The new part's name is none of the earlier parts, and each part stays well-formed.
use Rattle.std.proofs.Common.{sym, subst}
use Rattle.std.proofs.lemmas.List.Elements.{All-push}
use Rattle.serde_json.specs.View.{view}
use Rattle.pa_meaning.specs.Contracts.{Named}
use Rattle.pa_contract.specs.WellFormed.{IsWellFormed}
use Rattle.pa_json.specs.Diagrams.{AreContracts}
use Rattle.pa_json.proofs.Names.{part_of-new, not_second}
use Rattle.pa_json.proofs.part.with_part.Goals as goal

pub with-requires : goal.with-requires
with-requires c =
    not_second c.in_ok-named.named.name c.args.contracts.now c.args.earlier
    (part_of-new c.args.contracts.now c.args.earlier c.in_ok-path.path (view c.args.tree.now) c.in_ok-named.named c.in_ok-named.ensures.answer)

pub returns-clause-fit : goal.returns-clause-fit
returns-clause-fit c = λ all.
    subst AreContracts (sym c.in_ok-with.ensures)
    (All-push (λ (n : Named). IsWellFormed n.contract) c.args.earlier c.in_ok-named.named all c.in_ok-named.ensures.fit)
