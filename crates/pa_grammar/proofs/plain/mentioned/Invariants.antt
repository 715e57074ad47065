use Rattle.std.proofs.Common.{◌≡◌, ◌≤◌, drop, length}
use Rattle.pa_grammar.specs.Plains.{mentioned, with_names}
use Rattle.pa_grammar.proofs.plain.mentioned.Given as goal

-- the names so far, with those of the tokens that are left, are the text's
abbrev pub invariant-loop-token : goal.invariant-loop-token
invariant-loop-token l = record {
  so_far : with_names l.text l.names (drop l.token-index l.token-items) ≡ mentioned l.text;
  few : length l.names ≤ l.token-index;
}
