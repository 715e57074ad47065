-- the rows have all names, and the nominal point no more
use Rattle.std.proofs.Common.{◌≤◌, length, sym, subst}
use Rattle.pa_meaning.specs.Quotient.{quotient_names}
use Rattle.pa_shift.specs.Shifting.{Premises}
use Rattle.pa_quotient.proofs.RowsFit.{guarantees_reach}
use Rattle.pa_quotient.proofs.dividing.premises_of.Goals as goal

pub with_rows-requires-clause-columns : goal.with_rows-requires-clause-columns
with_rows-requires-clause-columns c =
    guarantees_reach (length c.new.result.nominal.p) (quotient_names c.args.whole.now c.args.part.now) c.args.part.now c.in_ok-rows.rows.items
    c.in_ok-rows.ensures
    (subst (λ (p : Premises). length p.nominal.p ≤ length (quotient_names c.args.whole.now c.args.part.now)) (sym c.new.ensures) c.requires.nominal)
