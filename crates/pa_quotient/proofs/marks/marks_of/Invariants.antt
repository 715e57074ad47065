use Rattle.std.proofs.Common.{◌≡◌, ◌++◌, drop, map}
use Rattle.pa_meaning.specs.Quotient.{narrows}
use Rattle.pa_quotient.proofs.marks.marks_of.Given as goal

-- the marks so far and those of the rest are all
abbrev pub invariant-loop-row : goal.invariant-loop-row
invariant-loop-row l = l.marks.items ++ map (narrows l.contract) (drop l.row-index l.contract.guarantees) ≡ map (narrows l.contract) l.contract.guarantees
