use Rattle.std.proofs.Common.{◌≡◌, ◌++◌, drop}
use Rattle.pa_script.specs.LineText.{words_text}
use Rattle.pa_script.proofs.write.push_mentions.Given as goal

-- what is written, and the text of what is left, make the whole text
abbrev pub invariant-loop-name : goal.invariant-loop-name
invariant-loop-name l = l.text.items ++ words_text (drop l.name-index l.mentions) ≡ l.initial.text.items ++ words_text l.mentions
