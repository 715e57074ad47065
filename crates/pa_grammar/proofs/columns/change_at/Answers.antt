use Rattle.std.proofs.Common.{ap, sym, ◌∙◌}
use Rattle.pa_frac.specs.Width.{valued}
use Rattle.pa_grammar.specs.Seen.{fraction}
use Rattle.pa_grammar.specs.Values as spec
use Rattle.pa_grammar.proofs.Changes.{changed_here, changed_wide, changed_past}
use Rattle.pa_grammar.proofs.Steps.{refused}
use Rattle.pa_grammar.proofs.columns.change_at.Goals as goal

pub returns-in_err-vector : goal.returns-in_err-vector
returns-in_err-vector c =
    refused _ c.from_residual.result _ c.from_residual.ensures.0
    (changed_wide c.args.vector.now c.args.place (λ q. spec.combined c.args.sign q (fraction c.args.amount)) c.index-vector-place.result
    (record {}) c.if-place-vector.true c.index-vector-place.is
    (sym c.combined.ensures ∙ ap (valued fraction) c.in_err-vector.was))

pub returns-in_ok-vector : goal.returns-in_ok-vector
returns-in_ok-vector c =
    sym (changed_here c.args.vector.now c.args.place
    (λ q. spec.combined c.args.sign q (fraction c.args.amount)) c.index-vector-place.result c.in_ok-vector.field-0 c.if-place-vector.true
    c.index-vector-place.is
    (sym c.combined.ensures ∙ ap (valued fraction) c.in_ok-vector.was))

pub returns-else-place-vector : goal.returns-else-place-vector
returns-else-place-vector c = sym
    (changed_past c.args.vector.now c.args.place (λ q. spec.combined c.args.sign q (fraction c.args.amount)) c.if-place-vector.false)
