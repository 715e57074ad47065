use Rattle.std.proofs.Common.{◌≡◌, ◌+◌, ◌≤◌, drop, length}
use Rattle.pa_meaning.specs.Composition.{all_outputs}
use Rattle.pa_answers.specs.Answers.{heading_of, with_numbers}
use Rattle.pa_answers.proofs.composing.heading_of_parts.Given as goal

-- what the rest of the parts gives from here is what all give from the start, and there are numbers for them
abbrev pub invariant-loop-place : goal.invariant-loop-place
invariant-loop-place l =
    (with_numbers l.heading (all_outputs (drop l.place l.parts)) (drop l.first l.numbers) ≡ heading_of (all_outputs l.parts) l.numbers)
    × (l.first + length (all_outputs (drop l.place l.parts)) ≤ length l.numbers)
