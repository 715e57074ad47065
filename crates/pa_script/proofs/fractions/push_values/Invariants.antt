use Rattle.std.proofs.Common.{◌≡◌, ◌++◌, drop}
use Rattle.pa_script.specs.LineText.{values_text}
use Rattle.pa_script.proofs.fractions.push_values.Given as goal

-- what is written, and the text of what is left, make the whole text
abbrev pub invariant-loop-place : goal.invariant-loop-place
invariant-loop-place l = l.text.items ++ values_text l.place (drop l.place l.names) l.at ≡ l.initial.text.items ++ values_text 0 l.names l.at
