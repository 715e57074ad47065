use Rattle.std.proofs.Common.{◌≡◌, ◌++◌, drop}
use Rattle.pa_script.specs.LineText.{words_text}
use Rattle.pa_script.proofs.write.push_names.Given as goal

-- what is written, and the text of what is left, make the whole text
abbrev pub invariant-loop-place : goal.invariant-loop-place
invariant-loop-place l = l.text.items ++ words_text (drop l.place l.names) ≡ l.initial.text.items ++ words_text l.names
