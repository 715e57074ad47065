use Rattle.std.proofs.Common.{◌≡◌, drop}
use Rattle.pa_witness.specs.Equalities.{equality_from}
use Rattle.pa_fourier.proofs.equality.equality_of.Given as goal

-- none of the rows so far is positive and has a negative
abbrev pub invariant-loop-place : goal.invariant-loop-place
invariant-loop-place l = equality_from l.column l.rows 0 l.rows ≡ equality_from l.column l.rows l.place (drop l.place l.rows)
