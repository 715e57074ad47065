use Rattle.std.proofs.Common.{◌≡◌, flat_map}
use Rattle.std.specs.List.{range_with_len}
use Rattle.pa_replay.specs.Readings.{last_at}
use Rattle.pa_bland.specs.Seen.{AreFractions}
use Rattle.pa_bland.proofs.read.weights.Given as goal

-- the weights of the first places
abbrev pub invariant-loop-place : goal.invariant-loop-place
invariant-loop-place g l = record {
  made : l.parts.items ≡ flat_map (last_at l.lines l.rows l.work.table) (range_with_len 0 l.place);
  fractions : AreFractions l.parts.items;
}
