use Rattle.std.proofs.Common.{◌∙◌, ◌++◌, ap, ap₂}
use Rattle.pa_meaning.specs.Contracts.{Contract}
use Rattle.pa_contract.proofs.Steps.{IfOk-implied}
use Rattle.pa_quotient.proofs.NamesOf.{own_is, new_is, first_different, outputs_different}
use Rattle.pa_quotient.proofs.names.outputs_of.Goals as goal

-- the whole's inputs and its outputs that the part does not make are different
pub both-requires : goal.both-requires
both-requires c =
    first_different c.args.whole.now c.args.part.now c.whole.inside.inputs c.in-Ok.own (ap (λ (w : Contract). w.inputs) c.whole.view_is)
    (own_is c.args.whole.now c.args.part.now _ _ c.in-Ok.own (ap (λ (w : Contract). w.outputs) c.whole.view_is)
    (ap (λ (p : Contract). p.outputs) c.part.view_is) c.in-Ok.ensures) c.requires

-- and so are those outputs and the part's inputs that are no ports yet
pub both-requires-2 : goal.both-requires-2
both-requires-2 c =
    let own = own_is c.args.whole.now c.args.part.now _ _ c.in-Ok.own (ap (λ (w : Contract). w.outputs) c.whole.view_is)
    (ap (λ (p : Contract). p.outputs) c.part.view_is) c.in-Ok.ensures in
    outputs_different c.args.whole.now c.args.part.now c.in-Ok.own c.in-Ok-without.new own
    (new_is c.args.whole.now c.args.part.now _ c.in_ok-first.first c.in-Ok-without.new (ap (λ (p : Contract). p.inputs) c.part.view_is)
    (c.in_ok-first.ensures ∙ ap₂ ◌++◌ (ap (λ (w : Contract). w.inputs) c.whole.view_is) own) c.in-Ok-without.ensures) c.requires

-- these are the outputs of the quotient
pub returns : goal.returns
returns c =
    let own = own_is c.args.whole.now c.args.part.now _ _ c.in-Ok.own (ap (λ (w : Contract). w.outputs) c.whole.view_is)
    (ap (λ (p : Contract). p.outputs) c.part.view_is) c.in-Ok.ensures in
    let new = new_is c.args.whole.now c.args.part.now _ c.in_ok-first.first c.in-Ok-without.new (ap (λ (p : Contract). p.inputs) c.part.view_is)
    (c.in_ok-first.ensures ∙ ap₂ ◌++◌ (ap (λ (w : Contract). w.inputs) c.whole.view_is) own) c.in-Ok-without.ensures in
    IfOk-implied _ _ c.both-2.result (λ names is. is ∙ ap₂ ◌++◌ own new) c.both-2.ensures
