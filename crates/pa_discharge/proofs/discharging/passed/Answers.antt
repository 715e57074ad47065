use Rattle.std.proofs.Common.{◌≤◌, length, sym, subst, All}
use Rattle.pa_meaning.specs.Rows.{Row}
use Rattle.pa_parts.specs.Composing.{names_in}
use Rattle.pa_discharge.proofs.Composed.{guarantees_reach}
use Rattle.pa_discharge.proofs.discharging.passed.Goals as goal

-- the guarantees of a part have all columns of the composition, and the nominal point has no more
pub with_rows-requires-clause-columns : goal.with_rows-requires-clause-columns
with_rows-requires-clause-columns c =
    subst (All (λ (r : Row). length c.grown.inside.premises.nominal.p ≤ length r.c)) (sym c.in_ok-rows.ensures)
    (guarantees_reach (length c.grown.inside.premises.nominal.p) (names_in c.args.ports.now) c.args.part.now
    (subst (λ g. length g.premises.nominal.p ≤ length (names_in c.args.ports.now)) (sym c.grown.view_is) c.requires.nominal))
