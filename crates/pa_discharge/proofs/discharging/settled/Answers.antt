-- A round that discharged none is refused by the parts as they stood.
use Rattle.std.proofs.Common.{◌∙◌, ap, sym, subst}
use Rattle.pa_discharge.specs.Seen.{IsRefusal, asked_by}
use Rattle.pa_discharge.specs.Discharging.{discharged_count, no_discharge}
use Rattle.pa_discharge.proofs.OneRound.{refused_same}
use Rattle.pa_discharge.proofs.discharging.settled.Goals as goal

pub returns-then-count-clause-exact : goal.returns-then-count-clause-exact
returns-then-count-clause-exact c =
    refused_same (asked_by c.args.composition.now c.args.premises.nominal c.args.most) c.args.round c.args.found c.no_discharge.result
    (sym (ap (λ r. discharged_count r.brought) c.found.view_is) ∙ sym c.count.ensures ∙ c.if-count.true ∙ c.requires.count)
    (subst (λ r. IsRefusal (no_discharge (asked_by c.args.composition.now c.args.premises.nominal c.args.most) r.brought r.stuck) c.no_discharge.result)
    c.found.view_is
    (subst (λ x. IsRefusal (no_discharge (asked_by c.args.composition.now x c.args.most) c.found.inside.standing c.found.inside.stuck.items)
    c.no_discharge.result) c.nominal.ensures
    c.no_discharge.ensures.exact))
