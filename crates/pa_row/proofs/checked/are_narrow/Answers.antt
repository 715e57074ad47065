use Rattle.std.proofs.Common.{◌≡◌, get_or, pos, refl, subst, arith, rules}
use Rattle.std.proofs.lemmas.Int.{ints, to_z-of_z}
use lib.IntN.{ℤ}
use mir.Syntax.{w128}
use mir.Val.{to_z, of_z}
use Rattle.pa_math.proofs.Items.{all_more_at, all_read}
use Rattle.pa_row.specs.Width.{Fits}
use Rattle.pa_row.proofs.checked.are_narrow.Goals as goal

pub loop-n-preserved : goal.loop-n-preserved
loop-n-preserved c =
    let x : ℤ = get_or c.args.numbers.now c.loop-n.n-index (pos 0) in
    let same : to_z w128 (of_z w128 x) ≡ x = search (rules, ints, to_z-of_z) in
    all_more_at Fits c.args.numbers.now c.loop-n.n-index (pos 0) (omega arith) (subst Fits same (c.is_narrow.ensures.0 (search rules))) c.loop-n.invariant

pub returns : goal.returns
returns c = (λ t. all_read Fits c.args.numbers.now c.loop-n.n-index (omega arith) c.loop-n.invariant, λ a. refl)
