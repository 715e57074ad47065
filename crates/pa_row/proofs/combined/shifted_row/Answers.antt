-- The numbers and the bound are those of the term less the weighted rows.
use Rattle.std.proofs.Common.{◌≡◌, ◌∙◌, sym, ap, subst, rules, Ok}
use Rattle.std.proofs.lemmas.Int.{to_z-of_z}
use lib.IntN.{ℤ}
use mir.Syntax.{w128}
use mir.Val.{to_z, of_z}
use Rattle.pa_math.proofs.Answers.{told_as_ok}
use Rattle.pa_meaning.specs.Rows.{Meets}
use Rattle.pa_row.specs.Answers.{as_fault}
use Rattle.pa_row.specs.Width.{IsNarrow, IsCanonical}
use Rattle.pa_row.specs.Loops.{columns_shifted, bound_shifted}
use Rattle.pa_row.proofs.Shifts.{shifted_narrow}
use Rattle.pa_row.proofs.ShiftedPoints.{less_weighted_is, less_weighted_points}
use Rattle.pa_row.proofs.combined.shifted_row.Goals as goal

pub invariant_of-result : goal.invariant_of-result
invariant_of-result c =
    let same : to_z w128 (of_z w128 c.in-Ok.b) ≡ c.in-Ok.b = to_z-of_z w128 c.in-Ok.b (search rules) in
    let numbers : columns_shifted c.args.rows.now c.args.w.now c.args.term.now.c ≡ Ok c.in_ok-c.c.items = told_as_ok as_fault _ _ (search rules) in
    let bound : Ok c.in-Ok.b ≡ bound_shifted c.args.rows.now c.args.w.now c.args.term.now.b = search rules in
    subst (λ (b : ℤ). IsNarrow (record { c = c.in_ok-c.c.items; b = b })) (sym same)
    (shifted_narrow c.args.rows.now c.args.w.now c.args.term.now.c c.in_ok-c.c.items c.args.term.now.b c.in-Ok.b (sym numbers) bound)

pub returns-clause-value : goal.returns-clause-value
returns-clause-value c =
    let same : to_z w128 (of_z w128 c.in-Ok.b) ≡ c.in-Ok.b = to_z-of_z w128 c.in-Ok.b (search rules) in
    let numbers : columns_shifted c.args.rows.now c.args.w.now c.args.term.now.c ≡ Ok c.in_ok-c.c.items = told_as_ok as_fault _ _ (search rules) in
    let bound : Ok c.in-Ok.b ≡ bound_shifted c.args.rows.now c.args.w.now c.args.term.now.b = search rules in
    ap (λ b. record { c = c.in_ok-c.c.items; b = b }) same
    ∙ less_weighted_is c.args.term.now c.args.rows.now c.args.w.now c.in_ok-c.c.items c.in-Ok.b c.requires.columns (sym numbers) bound

pub returns-clause-points : goal.returns-clause-points
returns-clause-points c x met all =
    less_weighted_points c.args.term.now c.args.rows.now c.args.w.now x (subst IsCanonical c.w.view_is c.w.invariant)
    (subst (λ row. Meets row x) (returns-clause-value c) met) all
