use Rattle.std.proofs.Common.{◌≡◌, drop}
use Rattle.pa_row.specs.Sums.{less_dot_from, slack_in}
use Rattle.pa_row.proofs.sums.slack.Given as goal

-- the rest of the products taken off what is left is the slack
abbrev pub invariant-loop-i : goal.invariant-loop-i
invariant-loop-i l = slack_in l.q l.b l.c l.p ≡ less_dot_from l.left (drop l.i l.c) (drop l.i l.p)
