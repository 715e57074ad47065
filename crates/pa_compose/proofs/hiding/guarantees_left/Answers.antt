-- The columns of the outputs that go are different columns of the contract's, and what is shown of the elimination means that the contract is hidden.
use Rattle.std.proofs.Common.{◌∙◌, ◌+◌, ap, length, subst, sym}
use Rattle.pa_meaning.specs.Contracts.{Contract, ports}
use Rattle.pa_elim.specs.Meant.{AreColumns}
use Rattle.pa_compose.proofs.Columns.{hidden_are_columns, length-hidden}
use Rattle.pa_compose.proofs.Meant.{at_ports, hidden_formed, hidden_printed}
use Rattle.pa_compose.proofs.hiding.guarantees_left.Goals as goal

pub eliminate-requires-clause-gone : goal.eliminate-requires-clause-gone
eliminate-requires-clause-gone c =
    subst (λ n. AreColumns n c.deref-2.result.now) (sym c.port_count-columns.ensures.value)
    (subst (AreColumns (length (ports c.args.contract.now))) (sym (c.deref-2.ensures.value ∙ c.in-Ok.ensures))
    (hidden_are_columns c.args.names.now c.args.contract.now))

pub returns-in-Ok-eliminate-clause-printed : goal.returns-in-Ok-eliminate-clause-printed
returns-in-Ok-eliminate-clause-printed c =
    hidden_printed c.args.contract.now c.args.names.now c.args.limits.rows c.show_well_formed.ensures c.in-Ok-eliminate.projected
    (at_ports c.args.contract.now c.args.names.now c.args.limits.rows c.show_well_formed.ensures c.port_count-columns.result c.deref.result.now
    c.deref-2.result.now c.in-Ok-eliminate.projected c.port_count-columns.ensures.value
    (c.deref.ensures.value ∙ ap (λ (k : Contract). k.guarantees) c.contract.view_is) (c.deref-2.ensures.value ∙ c.in-Ok.ensures)
    c.in-Ok-eliminate.ensures.printed)

pub returns-in-Ok-eliminate-clause-formed : goal.returns-in-Ok-eliminate-clause-formed
returns-in-Ok-eliminate-clause-formed c =
    hidden_formed c.args.contract.now c.args.names.now c.args.limits.rows c.show_well_formed.ensures c.in-Ok-eliminate.projected
    c.args.limits.rows_in_range.greatest c.requires.due (returns-in-Ok-eliminate-clause-printed c)

pub returns-in-Ok-eliminate-clause-steps : goal.returns-in-Ok-eliminate-clause-steps
returns-in-Ok-eliminate-clause-steps c =
    c.in-Ok-eliminate.ensures.steps
    ∙ ap (λ n. n + 1) (ap length (c.deref-2.ensures.value ∙ c.in-Ok.ensures) ∙ length-hidden c.args.names.now c.args.contract.now)
