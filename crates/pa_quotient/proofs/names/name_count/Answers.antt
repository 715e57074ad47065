use Rattle.std.proofs.Common.{◌∙◌, ◌+◌, ap, ap₂, length}
use Rattle.pa_meaning.specs.Contracts.{Contract}
use Rattle.pa_quotient.specs.Seen.{QuotientNames}
use Rattle.pa_quotient.proofs.RowsFit.{names_counted}
use Rattle.pa_quotient.proofs.names.name_count.Goals as goal

pub returns : goal.returns
returns c =
    ap₂ ◌+◌ (c.len.ensures.value ∙ ap (λ (ns : QuotientNames). length ns.ports) c.names.view_is)
    (c.len-2.ensures.value ∙ ap (λ (p : Contract). length p.outputs) c.part.view_is)
    ∙ names_counted c.args.whole.now c.args.part.now c.args.names.now c.requires
