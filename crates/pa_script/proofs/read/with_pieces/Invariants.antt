use Rattle.std.proofs.Common.{◌≡◌, ◌+◌, drop, map}
use Rattle.pa_script.specs.Steps.{each}
use Rattle.pa_script.specs.Script.{with_line, with_pieces, numbered}
use Rattle.pa_script.proofs.read.with_pieces.Given as goal

abbrev pub invariant-loop-place : goal.invariant-loop-place
invariant-loop-place l =
    each with_line l.script (numbered (l.place + 1) (map (λ piece. piece.now) (drop l.place l.pieces))) ≡ with_pieces (map (λ piece. piece.now) l.pieces)
