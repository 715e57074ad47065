use Rattle.std.proofs.Common.{sym, ◌∙◌}
use Rattle.pa_grammar.proofs.Openings.{opening_found}
use Rattle.pa_grammar.proofs.linear.fault_place.Goals as goal

pub unreachable-requires : goal.unreachable-requires
unreachable-requires c = opening_found c.args.tokens.now c.args.pieces.now c.args.pair c.requires.term c.requires.first (sym c.pair_place.ensures
    ∙ c.in_default.is)
