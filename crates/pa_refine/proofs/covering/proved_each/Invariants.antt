use Rattle.std.proofs.Common.{◌≡◌, ◌≤◌, length, vec_len, vec_capacity}
use Rattle.pa_bland.specs.Seen.{KeepsRoom}
use Rattle.pa_refine.proofs.Covered.{AreProved, IsSoFar}
use Rattle.pa_refine.proofs.covering.proved_each.Given as goal

-- the weights so far prove the rows so far, with those of the rest they are all, and there is room for them
abbrev pub invariant-loop-place : goal.invariant-loop-place
invariant-loop-place l = record {
  exact : IsSoFar l.premises l.most l.first l.rows l.place l.weights.items;
  proves : AreProved l.premises l.most l.first l.rows l.place l.weights.items;
  room : KeepsRoom l.initial.work l.work;
  count : vec_len l.weights ≡ l.place;
  capacity : length l.rows ≤ vec_capacity l.weights;
}
