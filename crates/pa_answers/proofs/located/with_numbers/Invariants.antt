use Rattle.std.proofs.Common.{◌≡◌, drop}
use Rattle.pa_answers.specs.Answers.{with_numbers}
use Rattle.pa_answers.proofs.located.with_numbers.Given as goal

-- what the rest gives from here is what all gives from the start
abbrev pub invariant-loop-place : goal.invariant-loop-place
invariant-loop-place l = with_numbers l.heading (drop l.place l.names) (drop l.place l.numbers) ≡ with_numbers l.initial.heading l.names l.numbers
