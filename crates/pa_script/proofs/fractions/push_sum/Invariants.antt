use Rattle.std.proofs.Common.{◌≡◌, ◌++◌, drop, true}
use Rattle.pa_script.specs.LineText.{terms_text}
use Rattle.pa_script.proofs.fractions.push_sum.Given as goal

-- what is written, and the text of what is left, make the whole text
abbrev pub invariant-loop-place : goal.invariant-loop-place
invariant-loop-place l = l.text.items ++ terms_text l.first l.place (drop l.place l.names) l.goal ≡ l.initial.text.items ++ terms_text true 0 l.names l.goal
