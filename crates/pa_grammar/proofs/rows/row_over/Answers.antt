use Rattle.std.proofs.Common.{All, subst, sym, ◌∙◌}
use Rattle.pa_row.specs.Fractions.{IsFraction}
use Rattle.pa_grammar.proofs.Pushed.{fractions_are}
use Rattle.pa_grammar.proofs.rows.row_over.Goals as goal

pub point_of-requires : goal.point_of-requires
point_of-requires c = subst (All IsFraction) (sym (c.deref.ensures.value ∙ c.in-Ok.ensures)) (fractions_are c.args.vector.now)
