use Rattle.std.proofs.Common.{sym, ◌∙◌}
use Rattle.pa_grammar.proofs.Literals.{pieces_have_values}
use Rattle.pa_grammar.proofs.read.checked_pieces.Goals as goal

pub returns-clause-values : goal.returns-clause-values
returns-clause-values c = λ sized.
    pieces_have_values c.args.placed.now c.in-Ok.pieces.items c.in-Ok.ensures.term (sym c.in_default.is ∙ c.first_bad_literal.ensures.value) sized
