use Rattle.std.proofs.Common.{◌≡◌, ◌++◌, drop}
use Rattle.pa_cert.specs.AnswerText.{discharges_text}
use Rattle.pa_cert.proofs.write.push_discharges.Given as goal

-- what is written, and the text of what is left, make the whole text
abbrev pub invariant-loop-place : goal.invariant-loop-place
invariant-loop-place l =
    l.text.items ++ discharges_text l.op l.place (drop l.place l.discharges) ≡ l.initial.text.items ++ discharges_text l.op 0 l.discharges
