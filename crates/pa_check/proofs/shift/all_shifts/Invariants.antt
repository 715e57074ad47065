use Rattle.std.proofs.Common.{◌≡◌, ◌≤◌, drop, length}
use Rattle.pa_check.specs.Shifts.{shifts_in, shifts_from}
use Rattle.pa_check.proofs.shift.all_shifts.Given as goal

-- the tests of the rest, behind the rows that are made, tell what all tests tell
abbrev pub invariant-loop-place : goal.invariant-loop-place
invariant-loop-place l = (l.place ≤ length l.weights) ×
    (shifts_in l.columns l.given l.terms l.weights ≡ shifts_from l.made.items l.columns l.given (drop l.place l.terms) (drop l.place l.weights))
