use Rattle.std.proofs.Common.{rules, ap, ◌∙◌, get_or}
use Rattle.pa_meaning.specs.Rows.{row_at}
use Rattle.pa_check.specs.Directions.{sticks_in}
use Rattle.pa_check.proofs.StuckRows.{row_inside, stuck_answer}
use Rattle.pa_check.proofs.stuck.is_stuck.Goals as goal

pub returns : goal.returns
returns c =
    stuck_answer (λ v. v.items) c.args.parts.now c.args.given.now c.args.done.now c.args.stuck.now c.index-parts-stuck.result c.sticks_at.result (search rules)
    (c.index-parts-stuck.is ∙ ap (λ s. get_or c.args.parts.now s.part c.index-parts-stuck.result) c.stuck.view_is)
    (search rules)

pub sticks_at-requires-clause-inside : goal.sticks_at-requires-clause-inside
sticks_at-requires-clause-inside c =
    row_inside (λ v. v.items) c.args.parts.now c.args.done.now c.stuck.inside.part c.stuck.inside.row c.index-parts-stuck.result
    (search rules) c.index-parts-stuck.is
