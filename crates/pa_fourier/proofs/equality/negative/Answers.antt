-- The negative is as narrow as the row.
use Rattle.std.proofs.Common.{◌∙◌, ap, neg_ℤ, rules}
use Rattle.std.proofs.lemmas.Int.{ints, to_z-of_z}
use mir.Syntax.{w128}
use Rattle.pa_fourier.proofs.Opposites.{negative_narrow}
use Rattle.pa_fourier.proofs.equality.negative.Goals as goal

pub invariant_of-result : goal.invariant_of-result
invariant_of-result c = negative_narrow c.args.row.now c.in_ok-c.c.items _ (search rules) (search rules)
    (to_z-of_z w128 c.opposite-b.result (search rules) ∙ c.opposite-b.ensures
    ∙ ap neg_ℤ (search (rules, ints, to_z-of_z)))
