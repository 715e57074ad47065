-- A row that is negative in the column has its place put, and any other one is looked for by none.
use Rattle.std.proofs.Common.{◌≡◌, ◌≤ℤ◌, ◌+◌, ◌-◌, pos, subst, arith}
use Rattle.std.proofs.lemmas.Int.{ints}
use Rattle.pa_ring.specs.Sums.{number_at}
use Rattle.pa_fourier.proofs.Opposites.{HoldsOpposites, opposites_put, opposites_passed}
use Rattle.pa_fourier.proofs.equality.opposites_of.Goals as goal

pub loop-place-preserved-in-Continue-1 : goal.loop-place-preserved-in-Continue-1
loop-place-preserved-in-Continue-1 c =
    let last : c.loop-place.place ≡ c.loop-place.place - 1 + 1 = let t = c.loop-place-test.true in omega arith in
    record {
      within = let h = c.loop-place.invariant.within in omega arith;
      held = opposites_put c.args.column c.args.rows.now (c.loop-place.place - 1) c.index-rows-place.result c.loop-place.places c.put_opposite.new.places
          (let h = c.loop-place.invariant.within in let t = c.loop-place-test.true in omega arith)
          c.index-rows-place.is c.in_ok-put_opposite.ensures
          (subst (λ i. HoldsOpposites c.args.column c.args.rows.now i c.loop-place.places) last c.loop-place.invariant.held);
    }

pub loop-place-preserved : goal.loop-place-preserved
loop-place-preserved c =
    let last : c.loop-place.place ≡ c.loop-place.place - 1 + 1 = let t = c.loop-place-test.true in omega arith in
    let other : pos 0 ≤ℤ number_at c.index-rows-place.result.c c.args.column =
    let v = c.number_in.ensures.value in let f = c.if-number_in-lt0.false in omega (arith, ints) in
    record {
      within = let h = c.loop-place.invariant.within in omega arith;
      held = opposites_passed c.args.column c.args.rows.now (c.loop-place.place - 1) c.index-rows-place.result c.loop-place.places
          (let h = c.loop-place.invariant.within in let t = c.loop-place-test.true in omega arith)
          c.index-rows-place.is other
          (subst (λ i. HoldsOpposites c.args.column c.args.rows.now i c.loop-place.places) last c.loop-place.invariant.held);
    }
