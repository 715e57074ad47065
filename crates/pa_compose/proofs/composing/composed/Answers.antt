-- What is found makes a contract, with a step for each internal output.
use Rattle.pa_compose.proofs.ComposeDefined.{found_is}
use Rattle.pa_compose.proofs.composing.composed.Goals as goal

pub answered-requires : goal.answered-requires
answered-requires c =
    found_is (record { rows = c.args.limits.rows; pivots = c.args.limits.pivots }) c.args.parts.now c.args.keep.now c.args.ports c.args.nominal.now
    c.args.limits.rows_in_range.greatest c.requires.can c.show_nominal.ensures c.in_ok-found.found c.in_ok-found.ensures
