use Rattle.std.proofs.Common.{◌≤◌, ◌-◌, length}
use Rattle.pa_fourier.specs.Chains.{AreLinked}
use Rattle.pa_fourier.proofs.chain.Chains.of.Given as goal

-- the places behind the ones that are left are linked
abbrev pub invariant-loop-i : goal.invariant-loop-i
invariant-loop-i l = record {
  within : l.i ≤ length l.groups.items;
  linked : AreLinked l.groups.items l.heads.items l.next.items (length l.groups.items - l.i);
}
