use Rattle.std.proofs.Common.{◌≡◌, ◌++◌, drop}
use Rattle.pa_cert.specs.AnswerText.{guarantees_text}
use Rattle.pa_cert.proofs.contracts.push_guarantees.Given as goal

-- what is written, and the text of what is left, make the whole text
abbrev pub invariant-loop-place : goal.invariant-loop-place
invariant-loop-place l =
    l.text.items ++ guarantees_text l.marks l.names l.place (drop l.place l.rows) ≡ l.initial.text.items ++ guarantees_text l.marks l.names 0 l.rows
