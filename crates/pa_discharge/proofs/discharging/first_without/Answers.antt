use Rattle.std.proofs.Common.{◌∙◌, ap, sym, subst, length}
use Rattle.pa_discharge.specs.Seen.{CanTryEach}
use Rattle.pa_discharge.proofs.Room.{can_try_whole}
use Rattle.pa_discharge.proofs.discharging.first_without.Goals as goal

-- the parts can be tried over all guarantees
pub first_stuck-requires-clause-can : goal.first_stuck-requires-clause-can
first_stuck-requires-clause-can c =
    subst (λ n. CanTryEach n c.in-Ok.whole c.terms.result.now) (sym c.columns.ensures)
    (subst (CanTryEach c.args.composition.now.columns c.in-Ok.whole) (sym c.terms.ensures)
    (can_try_whole c.args.composition.now c.in-Ok.whole c.requires.can (ap (λ p. length p.nominal.p) c.in-Ok.ensures ∙ c.requires.nominal)
    (ap (λ p. p.rows) c.in-Ok.ensures)))
