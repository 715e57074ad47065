-- Rows that are kept stay different and few with those of one more text.
use Rattle.std.proofs.Common.{sym, subst}
use Rattle.pa_json.specs.Kept.{row_columns, IsKept}
use Rattle.pa_json.proofs.RowLists.{kept_all-kept}
use Rattle.pa_json.proofs.rows.with_text.Goals as goal

pub returns-clause-list : goal.returns-clause-list
returns-clause-list c = λ kept.
    subst (IsKept (row_columns c.args.inputs c.args.ports.now)) (sym c.in_ok-with_all.ensures)
    (kept_all-kept (row_columns c.args.inputs c.args.ports.now) c.args.rows c.in_ok-more.more.items kept c.in_ok-more.ensures.columns)
