use Rattle.std.proofs.Common.{◌≡◌, drop}
use Rattle.std.specs.List.{list_all}
use Rattle.pa_meaning.specs.Composition.{is_among}
use Rattle.pa_refine.proofs.names.are_among.Given as goal

-- the test of the rest is the test of all
abbrev pub invariant-loop-place : goal.invariant-loop-place
invariant-loop-place l = list_all (is_among l.others) (drop l.place l.names) ≡ list_all (is_among l.others) l.names
