-- A ray proves any row, and with it some weights make the row within its bound.
use Rattle.std.proofs.Common.{subst, sym}
use Rattle.pa_replay.specs.Shown.{ShowsEndless}
use Rattle.pa_farkas.proofs.Shown.{endless_covers, of_row}
use Rattle.pa_farkas.proofs.cover.by_ray.Goals as goal

pub found-requires-clause-shown : goal.found-requires-clause-shown
found-requires-clause-shown c =
    endless_covers c.args.rows.now c.args.row.now (record { ray = c.endless.inside.ray; last = c.endless.inside.last })
    (subst (ShowsEndless (of_row c.args.rows.now c.args.row.now)) (sym c.endless.view_is) c.requires.shown)
