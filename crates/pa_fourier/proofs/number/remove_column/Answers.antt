-- What stays is the front before the column and the rest behind it.
use Rattle.std.proofs.Common.{◌≡◌, ◌∙◌, ap}
use Rattle.pa_ring.specs.Sums.{without}
use Rattle.pa_meaning.specs.Rows.{without_column}
use Rattle.pa_fourier.proofs.Turns.{removed_is_without}
use Rattle.pa_fourier.proofs.number.remove_column.Goals as goal

pub returns : goal.returns
returns c =
    let from : c.remove.new.self.items ≡ without c.args.column c.row.inside.c.items = c.remove.ensures.items
    ∙ removed_is_without c.args.column c.row.inside.c.items in
    (λ i. record { c = from i; b = c.row.inside.b }) ∙ ap (without_column c.args.column) c.row.view_is
