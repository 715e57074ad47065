use Rattle.std.proofs.Common.{◌≡◌, ◌+◌, drop, map, length}
use Rattle.pa_script.specs.Steps.{each}
use Rattle.pa_script.specs.Lines.{with_name, names_at}
use Rattle.pa_script.proofs.names.read_names.Given as goal

abbrev pub invariant-loop-word : goal.invariant-loop-word
invariant-loop-word l = record {
  answer : each (with_name l.number) l.names (map (λ word. word.now) (drop l.word-index l.words)) ≡ names_at l.number (map (λ word. word.now) l.words);
  count : length l.names + length (drop l.word-index l.words) ≡ length l.words;
}
