use Rattle.std.proofs.Common.{sym, ◌∙◌}
use Rattle.pa_grammar.proofs.Literals.{plain_pieces_have_values}
use Rattle.pa_grammar.proofs.plain.checked_plain.Goals as goal

pub returns-clause-values : goal.returns-clause-values
returns-clause-values c = λ sized.
    plain_pieces_have_values c.args.placed.now c.in-Ok.pieces.items c.in-Ok.ensures.plain (sym c.in_default.is ∙ c.first_bad_literal.ensures.value) sized
