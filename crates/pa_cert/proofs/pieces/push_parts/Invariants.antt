use Rattle.std.proofs.Common.{◌≡◌, ◌++◌, take}
use Rattle.pa_cert.specs.AnswerText.{parts_text}
use Rattle.pa_cert.proofs.pieces.push_parts.Given as goal

abbrev pub invariant-loop-part : goal.invariant-loop-part
invariant-loop-part l = l.text.items ≡ l.initial.text.items ++ parts_text (take l.part-index l.parts)
