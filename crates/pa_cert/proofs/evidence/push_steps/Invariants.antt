use Rattle.std.proofs.Common.{◌≡◌, ◌++◌, take}
use Rattle.pa_cert.specs.AnswerText.{steps_text}
use Rattle.pa_cert.proofs.evidence.push_steps.Given as goal

abbrev pub invariant-loop-step : goal.invariant-loop-step
invariant-loop-step l = l.text.items ≡ l.initial.text.items ++ steps_text (take l.step-index l.steps)
