use Rattle.std.proofs.Common.{length, subst, sym}
use Rattle.pa_meaning.specs.Shifting.{shifted}
use Rattle.pa_witness.specs.Shifts.{ShiftHolds}
use Rattle.pa_shift.specs.Meant.{IsExactAt}
use Rattle.pa_shift.proofs.Shown.{endless_exact, endless_shift}
use Rattle.pa_shift.proofs.shifting.by_last.Goals as goal

pub left_by-requires-clause-holds : goal.left_by-requires-clause-holds
left_by-requires-clause-holds c =
    subst (λ a. ShiftHolds (length c.args.given.now.nominal.p) c.args.given.now.rows c.args.term.now a.last) (sym c.endless.view_is)
    (endless_shift c.args.given.now c.args.costs.now c.args.term.now c.args.endless c.requires.costs c.requires.shown)

pub left_by-requires-clause-exact : goal.left_by-requires-clause-exact
left_by-requires-clause-exact c =
    subst (λ a. IsExactAt c.args.given.now c.args.term.now (shifted c.args.term.now c.args.given.now.rows a.last)) (sym c.endless.view_is)
    (endless_exact c.args.given.now c.args.costs.now c.args.term.now c.args.endless c.requires.can.positive c.requires.costs c.requires.shown)
