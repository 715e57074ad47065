use Rattle.std.proofs.Common.{◌≡◌, ◌+◌, ◌++◌, drop, map}
use Rattle.std.specs.Prelude.{position}
use Rattle.std.specs.Option.{option_map}
use Rattle.pa_contract.specs.Testing.{is_met, passes_at}
use Rattle.pa_contract.proofs.testing.words.Given as goal

-- the words so far and those of the rest are all words, and the first row that passes stands in the rest
abbrev pub invariant-loop-row : goal.invariant-loop-row
invariant-loop-row l = record {
  words : l.list.items ++ map (is_met l.at) (drop l.row-index l.rows) ≡ map (is_met l.at) l.rows;
  rest : option_map (λ k. l.row-index + k) (position (passes_at l.at) (drop l.row-index l.rows)) ≡ position (passes_at l.at) l.rows;
  number : l.number ≡ l.first + l.row-index;
}
