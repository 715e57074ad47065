use Rattle.std.proofs.Common.{◌≡◌, drop}
use Rattle.pa_answers.specs.Answers.{first_unknown}
use Rattle.pa_answers.proofs.composing.first_unknown.Given as goal

-- what is unknown first in the rest is unknown first in the whole list
abbrev pub invariant-loop-name : goal.invariant-loop-name
invariant-loop-name l = first_unknown l.table (drop l.name-index l.names) ≡ first_unknown l.table l.names
