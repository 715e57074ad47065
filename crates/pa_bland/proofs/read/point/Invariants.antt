use Rattle.std.proofs.Common.{◌≡◌, ◌≤◌, ◌+◌, map, All, vec_len, vec_capacity}
use Rattle.std.specs.List.{range_with_len}
use Rattle.pa_math.specs.Rational.{neg_ℚ}
use Rattle.pa_row.specs.Fractions.{IsFraction}
use Rattle.pa_tableau.specs.Tableau.{cell}
use Rattle.pa_replay.specs.Readings.{numbers_in, signed}
use Rattle.pa_bland.proofs.read.point.Given as goal

-- the numbers of the first lines, and there is room for the others
abbrev pub invariant-loop-line : goal.invariant-loop-line
invariant-loop-line g l = record {
  made : l.numbers.items ≡ map numbers_in (map (λ i. neg_ℚ (signed l.work.table i (cell l.work.table (l.lines + 1) (l.rows + i)))) (range_with_len 0 l.line));
  fractions : All IsFraction l.numbers.items;
  count : vec_len l.numbers ≡ l.line;
  room : l.lines ≤ vec_capacity l.numbers;
}
