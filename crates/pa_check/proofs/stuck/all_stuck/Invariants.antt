use Rattle.std.proofs.Common.{◌≡◌, [], drop, take, map}
use Rattle.pa_check.specs.StuckRows.{circle_from}
use Rattle.pa_check.proofs.stuck.all_stuck.Given as goal

-- the tests of the rest tell what all tests tell
abbrev pub invariant-loop-place : goal.invariant-loop-place
invariant-loop-place l = circle_from l.given (map (λ v. v.items) l.parts) [] l.stuck ≡ circle_from l.given (map (λ v. v.items) l.parts)
    (take l.place l.stuck) (drop l.place l.stuck)
