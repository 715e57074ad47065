use Rattle.std.proofs.Common.{rules, arith, ap, ◌∙◌, nat_lt}
use Rattle.pa_check.proofs.StuckRows.{placed_part}
use Rattle.pa_check.proofs.stuck.is_placed.Goals as goal

pub returns-then-is_above_all : goal.returns-then-is_above_all
returns-then-is_above_all c =
    ap (nat_lt c.args.row) (search rules)
    ∙ placed_part (λ v. v.items) c.args.parts.now c.args.done.now c.args.part c.args.row c.index-parts-part.result (omega arith) c.index-parts-part.is
    (search rules)
