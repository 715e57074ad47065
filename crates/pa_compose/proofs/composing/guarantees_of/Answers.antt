-- The guarantees of all parts are few rows over all names, and the internal outputs have different columns.
use Rattle.std.proofs.Common.{◌≡◌, ◌∙◌, ◌+◌, ap, ap₂, length}
use Rattle.pa_parts.specs.Composing.{Ports}
use Rattle.pa_compose.specs.Hiding.{columns_from}
use Rattle.pa_compose.proofs.ComposeCalls.{guarantees_few, guarantees_fit, internal_fit}
use Rattle.pa_compose.proofs.composing.guarantees_of.Goals as goal

pub eliminate-requires-clause-columns : goal.eliminate-requires-clause-columns
eliminate-requires-clause-columns c =
    guarantees_fit c.args.parts.now c.args.keep.now c.args.ports.now c.requires.can c.deref.result.now (c.deref.ensures.value ∙ c.in-Ok.ensures)
    (c.len.result + c.len-2.result)
    (ap₂ (λ m n. m + n) (c.len.ensures.value ∙ ap (λ (ps : Ports). length ps.external) c.ports.view_is)
    (c.len-2.ensures.value ∙ ap (λ (ps : Ports). length ps.outputs) c.ports.view_is))

pub eliminate-requires-clause-few : goal.eliminate-requires-clause-few
eliminate-requires-clause-few c =
    guarantees_few c.args.parts.now c.args.keep.now c.args.ports.now c.requires.can c.deref.result.now (c.deref.ensures.value ∙ c.in-Ok.ensures)
    (c.len.result + c.len-2.result)
    (ap₂ (λ m n. m + n) (c.len.ensures.value ∙ ap (λ (ps : Ports). length ps.external) c.ports.view_is)
    (c.len-2.ensures.value ∙ ap (λ (ps : Ports). length ps.outputs) c.ports.view_is))

pub eliminate-requires-clause-gone : goal.eliminate-requires-clause-gone
eliminate-requires-clause-gone c =
    internal_fit c.args.parts.now c.args.keep.now c.args.ports.now c.requires.can c.deref.result.now (c.deref.ensures.value ∙ c.in-Ok.ensures)
    (c.len.result + c.len-2.result)
    (ap₂ (λ m n. m + n) (c.len.ensures.value ∙ ap (λ (ps : Ports). length ps.external) c.ports.view_is)
    (c.len-2.ensures.value ∙ ap (λ (ps : Ports). length ps.outputs) c.ports.view_is))
    c.deref-2.result.now
    (c.deref-2.ensures.value ∙ c.in-Ok-columns_of.ensures ∙ ap (λ n. columns_from c.ports.inside.internal n c.ports.inside.outputs) c.len-3.ensures.value
    ∙ ap (λ (ps : Ports). columns_from ps.internal (length ps.external) ps.outputs) c.ports.view_is)
