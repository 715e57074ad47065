-- What is put at the negative of the row is found at each row whose negative the row is.
use Rattle.std.proofs.Common.{◌∙◌, ap, cond, Some}
use Rattle.indexmap.specs.IndexMap.{get}
use Rattle.pa_row.specs.Same.{same_row}
use Rattle.pa_fourier.proofs.Opposites.{opposite_either}
use Rattle.pa_meaning.specs.Rows.{Row}
use Rattle.pa_fourier.proofs.equality.put_opposite.Goals as goal

pub returns : goal.returns
returns c q =
    c.in_ok-insert.ensures.updates.0 q
    ∙ ap (λ (key : Row). cond (same_row key q) (Some c.args.place) (get same_row c.args.places.now q)) c.in_ok-opposite.ensures
    ∙ ap (λ b. cond b (Some c.args.place) (get same_row c.args.places.now q)) (opposite_either c.args.row.now q)
