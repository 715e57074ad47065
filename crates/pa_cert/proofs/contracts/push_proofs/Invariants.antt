use Rattle.std.proofs.Common.{◌≡◌, ◌++◌, drop}
use Rattle.pa_cert.specs.AnswerText.{proofs_lines}
use Rattle.pa_cert.proofs.contracts.push_proofs.Given as goal

-- what is written, and the text of what is left, make the whole text
abbrev pub invariant-loop-place : goal.invariant-loop-place
invariant-loop-place l = l.text.items ++ proofs_lines l.kind l.place (drop l.place l.proofs) ≡ l.initial.text.items ++ proofs_lines l.kind 0 l.proofs
