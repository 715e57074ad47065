use Rattle.std.proofs.Common.{◌≡◌, ◌+◌, drop, map, length}
use Rattle.pa_script.specs.Steps.{each}
use Rattle.pa_script.specs.Points.{with_fraction, fractions_at}
use Rattle.pa_script.proofs.points.read_fractions.Given as goal

abbrev pub invariant-loop-word : goal.invariant-loop-word
invariant-loop-word l = record {
  answer : each (with_fraction l.number) l.fractions (map (λ word. word.now) (drop l.word-index l.words)) ≡ fractions_at l.number (map (λ word. word.now)
      l.words);
  count : length l.fractions + length (drop l.word-index l.words) ≡ length l.words;
}
