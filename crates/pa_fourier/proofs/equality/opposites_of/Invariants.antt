use Rattle.std.proofs.Common.{◌≤◌, length}
use Rattle.pa_fourier.proofs.Opposites.{HoldsOpposites}
use Rattle.pa_fourier.proofs.equality.opposites_of.Given as goal

-- the rows from the place on are held
abbrev pub invariant-loop-place : goal.invariant-loop-place
invariant-loop-place l = record {
  within : l.place ≤ length l.rows;
  held : HoldsOpposites l.column l.rows l.place l.places;
}

abbrev pub decreases-loop-place : goal.decreases-loop-place
decreases-loop-place l = l.place
