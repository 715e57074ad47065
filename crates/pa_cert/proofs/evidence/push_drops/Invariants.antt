use Rattle.std.proofs.Common.{◌≡◌, ◌++◌, take}
use Rattle.pa_cert.specs.AnswerText.{drops_text}
use Rattle.pa_cert.proofs.evidence.push_drops.Given as goal

abbrev pub invariant-loop-drop : goal.invariant-loop-drop
invariant-loop-drop l = l.text.items ≡ l.initial.text.items ++ drops_text (take l.drop-index l.drops)
