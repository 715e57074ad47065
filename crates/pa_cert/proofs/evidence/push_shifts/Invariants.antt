use Rattle.std.proofs.Common.{◌≡◌, ◌++◌, take}
use Rattle.pa_cert.specs.AnswerText.{shifts_text}
use Rattle.pa_cert.proofs.evidence.push_shifts.Given as goal

abbrev pub invariant-loop-weights : goal.invariant-loop-weights
invariant-loop-weights l = l.text.items ≡ l.initial.text.items ++ shifts_text (take l.weights-index l.shifts)
