use Rattle.std.proofs.Common.{length, subst, sym}
use Rattle.pa_meaning.specs.Shifting.{shifted}
use Rattle.pa_witness.specs.Shifts.{ShiftHolds}
use Rattle.pa_shift.specs.Meant.{IsExactAt}
use Rattle.pa_shift.proofs.Shown.{settled_exact, settled_shift}
use Rattle.pa_shift.proofs.shifting.settled.Goals as goal

pub left_by-requires-clause-holds : goal.left_by-requires-clause-holds
left_by-requires-clause-holds c =
    subst (λ w. ShiftHolds (length c.args.given.now.nominal.p) c.args.given.now.rows c.args.term.now w) (sym c.no_weights.ensures)
    (settled_shift c.args.given.now c.args.term.now c.requires.zero)

pub left_by-requires-clause-exact : goal.left_by-requires-clause-exact
left_by-requires-clause-exact c =
    subst (λ w. IsExactAt c.args.given.now c.args.term.now (shifted c.args.term.now c.args.given.now.rows w)) (sym c.no_weights.ensures)
    (settled_exact c.args.given.now c.args.term.now c.requires.can.positive c.requires.zero)
