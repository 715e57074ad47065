-- Each turn links one place more, from the end to the start.
use Rattle.std.proofs.Common.{◌≡◌, ◌+◌, ◌-◌, length, subst, arith}
use Rattle.pa_fourier.specs.Chains.{AreLinked}
use Rattle.pa_fourier.proofs.chain.Chains.of.Goals as goal

pub link-requires-clause-linked : goal.link-requires-clause-linked
link-requires-clause-linked c =
    let next : length c.args.groups.items - c.loop-i.i ≡ c.len-count.result - 1 - c.loop-i.i + 1 = let t = c.loop-i-test.true in
    omega (arith, c.len-count.ensures) in
    rw (c.deref.ensures.value, c.deref_mut.ensures.value, c.deref_mut-in-loop-i.ensures.value)
    (subst (AreLinked c.args.groups.items c.loop-i.heads.items c.loop-i.next.items) next c.loop-i.invariant.linked)
