use Rattle.std.proofs.Common.{◌≡◌, ◌++◌, drop}
use Rattle.pa_cert.specs.AnswerText.{pairs_text}
use Rattle.pa_cert.proofs.pieces.push_pairs.Given as goal

-- what is written, and the text of what is left, make the whole text
abbrev pub invariant-loop-place : goal.invariant-loop-place
invariant-loop-place l = l.text.items ++ pairs_text (drop l.place l.names) (drop l.place l.numbers) ≡ l.initial.text.items ++ pairs_text l.names l.numbers
