use Rattle.std.proofs.Common.{◌≡◌, ◌≤◌, ◌++◌, [], drop, length}
use Rattle.std.specs.Str.{bytes_eq}
use Rattle.pa_math.specs.Lists.{union}
use Rattle.pa_grammar.specs.Plains.{names_from, numbers_from, kept_names, kept_numbers}
use Rattle.pa_grammar.proofs.plain.kept_of.Given as goal

-- what is kept so far, with what is kept of the rest, is all
abbrev pub invariant-loop-place : goal.invariant-loop-place
invariant-loop-place l = record {
  names : union bytes_eq l.kept (names_from l.place (drop l.place l.names) l.numbers) ≡ union bytes_eq [] (kept_names l.names l.numbers);
  numbers : l.c.items ++ numbers_from l.place (drop l.place l.names) l.numbers ≡ kept_numbers l.names l.numbers;
  few : length l.kept ≤ l.place;
}
