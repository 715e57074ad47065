use Rattle.std.proofs.Common.{rules, ◌≡◌, ◌∙◌, ap, sym, refl, pos, Ok}
use Rattle.std.proofs.lemmas.Int.{ints, to_z-of_z}
use mir.Syntax.{w128}
use mir.Val.{to_z, of_z}
use lib.IntN.{◌-ℤ◌, neg_ℤ}
use Rattle.pa_row.specs.Loops.{less_next_in}
use Rattle.pa_row.proofs.Slacks.{less_next_of}
use Rattle.pa_row.proofs.sums.less_product.Goals as goal

pub returns : goal.returns
returns c =
    let sum : to_z w128 (of_z w128 c.args.sum) ≡ c.args.sum = to_z-of_z w128 c.args.sum (search rules) in
    let factor : to_z w128 (of_z w128 c.args.c) ≡ c.args.c = to_z-of_z w128 c.args.c (search rules) in
    let number : to_z w128 (of_z w128 c.args.p) ≡ c.args.p = to_z-of_z w128 c.args.p (search rules) in
    let less : to_z w128 (of_z w128 (pos 0 -ℤ to_z w128 (of_z w128 c.in_ok-product.product))) ≡ neg_ℤ c.in_ok-product.product =
    search (rules, ints, to_z-of_z) in
    less_next_of (to_z w128 (of_z w128 c.args.sum)) c.args.c c.args.p c.in_ok-product.product _ c.add_whole.result
    (sym c.in_ok-product.was ∙ c.mul_whole.ensures ∙ rw (factor, number) refl) less c.add_whole.ensures
    ∙ ap (λ t. less_next_in t c.args.c c.args.p) sum
