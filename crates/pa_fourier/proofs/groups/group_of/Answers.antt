-- A direction has its place among those that are there, and the others keep theirs.
use Rattle.std.proofs.Common.{◌∙◌, ap, sym, Some}
use Rattle.pa_row.specs.Same.{same_row}
use Rattle.pa_witness.specs.Equalities.{place_from}
use Rattle.pa_fourier.proofs.GroupPlaces.{placed_new, placed_before}
use Rattle.pa_fourier.proofs.groups.group_of.Goals as goal

pub returns-clause-group : goal.returns-clause-group
returns-clause-group c =
    ap (place_from (same_row c.args.direction) 0) c.in_ok-group.ensures.keys ∙ placed_new c.args.directions.now.keys c.args.direction
    ∙ ap Some (sym c.in_ok-group.ensures.index)

pub returns-clause-others : goal.returns-clause-others
returns-clause-others c d group h = ap (place_from (same_row d) 0) c.in_ok-group.ensures.keys
    ∙ placed_before c.args.directions.now.keys c.args.direction d group h
