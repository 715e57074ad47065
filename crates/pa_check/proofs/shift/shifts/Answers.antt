use Rattle.pa_check.specs.Shifts.{IsShifted, shifts_in}
use Rattle.pa_check.proofs.ShiftedRows.{shifts_tells, shifts_told}
use Rattle.pa_check.proofs.shift.shifts.Goals as goal

pub returns-clause-truth : goal.returns-clause-truth
returns-clause-truth c =
    let n = c.args.columns in
    let given = c.args.given.now in
    let terms = c.args.terms.now in
    let weights = c.args.weights.now in
    shifts_told (λ v. v.items) c.all_shifts.result (shifts_in n given terms weights) (IsShifted n given terms weights) c.all_shifts.ensures
    (shifts_tells c.args.width n given terms weights c.show_canonical.ensures c.requires.given c.requires.terms)
