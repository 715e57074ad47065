use Rattle.std.proofs.Common.{◌≡◌, ◌++◌, take}
use Rattle.pa_cert.specs.AnswerText.{all_stuck_text}
use Rattle.pa_cert.proofs.refused.push_all_stuck.Given as goal

abbrev pub invariant-loop-one : goal.invariant-loop-one
invariant-loop-one l = l.text.items ≡ l.initial.text.items ++ all_stuck_text l.op (take l.one-index l.stuck)
