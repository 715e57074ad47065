use Rattle.std.proofs.Common.{◌≡◌, ◌+◌, ◌*◌, ◌^◌, ◌≤◌, drop}
use Rattle.std.specs.Prelude.{sum_by}
use Rattle.pa_contract.specs.Merge.{row_count}
use Rattle.pa_parts.proofs.parts.Parts.row_count.Given as goal

-- the rows so far and those of the rest are all
abbrev pub invariant-loop-place : goal.invariant-loop-place
invariant-loop-place l = record {
  whole : l.count + sum_by row_count (drop l.place l.self) ≡ sum_by row_count l.self;
  few : l.count ≤ l.place * 2 ^ 25;
}
