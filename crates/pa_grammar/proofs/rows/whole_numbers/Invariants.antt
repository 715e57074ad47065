use Rattle.std.proofs.Common.{◌≡◌, map, take, pos}
use Rattle.pa_grammar.specs.Seen.{fraction}
use Rattle.pa_grammar.specs.Values.{parts_of}
use Rattle.pa_grammar.proofs.rows.whole_numbers.Given as goal

-- the numerators so far
abbrev pub invariant-loop-fraction : goal.invariant-loop-fraction
invariant-loop-fraction l = map parts_of (map fraction (take l.fraction-index l.vector)) ≡ map (λ n. (n, pos 1)) l.numbers.items
